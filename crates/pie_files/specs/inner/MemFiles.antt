-- What files in memory, some of whose calls fail, hold and were asked, and what a crash may leave of them.
use Rattle.std.specs.Prelude.{◌≡◌, ◌<◌, ◌+◌, ◌++◌, List, [], ◌∷◌, ℕ, false, Vec}
use Rattle.std.specs.Global.{Global}
use Rattle.pie_files.specs.declared.files.Call.{Call}
use Rattle.pie_files.specs.declared.mem_files.MemFiles.{MemFiles}
use Rattle.pie_files.specs.declared.sure_files.Logged.{Logged}
use Rattle.pie_files.specs.declared.sure_files.Logged.TheVariants.{FailsAt}
use Rattle.pie_files.specs.Directory.{Directory}
use Rattle.pie_files.specs.inner.Failures.{failed_in, is_listed}
use Rattle.pie_files.specs.inner.SureFiles.{held_by, began_by, story_by, asked_by, images_by, moment_by, left_since_by}

-- the directory
abbrev pub held_in : MemFiles → Directory
held_in s = held_by s.files

-- the directory that they began with
abbrev pub began_in : MemFiles → Directory
began_in s = began_by s.files

-- all that has happened, oldest first
abbrev pub story_in : MemFiles → List Logged
story_in s = story_by s.files

-- all calls so far, oldest first
abbrev pub asked_in : MemFiles → List Call
asked_in s = asked_by s.files

-- how many calls have failed
abbrev pub faults_in : MemFiles → ℕ
faults_in s = failed_in (story_in s)

-- no call to come is to fail
abbrev pub InfallibleMemory : MemFiles → Type 0
InfallibleMemory s = (number : ℕ) → s.calls < number → is_listed number s.failing.items ≡ false

-- what a crash now may leave
abbrev pub images_in : MemFiles → Directory → Type 0
images_in s = images_by s.files

-- how many things have happened
abbrev pub moment_in : MemFiles → ℕ
moment_in s = moment_by s.files

-- what a crash may have left when so many things had happened, or later
abbrev pub left_since_in : MemFiles → ℕ → Directory → Type 0
left_since_in s = left_since_by s.files

-- it was noted which calls are to fail
abbrev pub HasListed : List ℕ → MemFiles → MemFiles → Type 0
HasListed numbers old new = (kept : Vec ℕ Global) × (kept.items ≡ numbers) × (story_in new ≡ story_in old ++ FailsAt kept ∷ [])

-- the call has the next number, which isn't listed
abbrev pub IsTurn : Call → MemFiles → ℕ → Call → Type 0
IsTurn call s number same = (number ≡ s.calls + 1) × (is_listed number s.failing.items ≡ false) × (same ≡ call)
