-- What files in memory hold, what they were asked, and what a crash may leave of them.
use Rattle.std.specs.Prelude.{◌≡◌, ◌++◌, ◌+◌, List, [], ◌∷◌, ℕ, length, Vec}
use Rattle.std.specs.Global.{Global}
use Rattle.pie_files.specs.declared.files.Call.{Call}
use Rattle.pie_files.specs.declared.files.FilesError.{FilesError}
use Rattle.pie_files.specs.declared.files.FilesError.TheVariants.{OutOfMemory, Failed as FilesFailed}
use Rattle.pie_files.specs.declared.sure_files.Logged.{Logged}
use Rattle.pie_files.specs.declared.sure_files.Logged.TheVariants.{Put, Failed, Wrote}
use Rattle.pie_files.specs.declared.sure_files.SureFiles.{SureFiles}
use Rattle.pie_files.specs.Directory.{Directory}
use Rattle.pie_files.specs.inner.Memory.{asked_of}
use Rattle.pie_files.specs.inner.Story.{IsLeft, WasLeft}

-- the directory
abbrev pub held_by : SureFiles → Directory
held_by s = s.held

-- the directory that they began with
abbrev pub began_by : SureFiles → Directory
began_by s = s.began

-- all that has happened, oldest first
abbrev pub story_by : SureFiles → List Logged
story_by s = s.log.items

-- all calls so far, oldest first
abbrev pub asked_by : SureFiles → List Call
asked_by s = asked_of s.log.items

-- what a crash now may leave
abbrev pub images_by : SureFiles → Directory → Type 0
images_by s = IsLeft s.began s.log.items

-- how many things have happened
abbrev pub moment_by : SureFiles → ℕ
moment_by s = length s.log.items

-- what a crash may have left when so many things had happened, or later
abbrev pub left_since_by : SureFiles → ℕ → Directory → Type 0
left_since_by s = WasLeft s.began s.log.items

-- a call that failed was noted and changed nothing; one that was out of memory wasn't
abbrev pub HasTurned : Call → SureFiles → SureFiles → FilesError → Type 0
HasTurned call old new FilesFailed = (began_by new ≡ began_by old) × (story_by new ≡ story_by old ++ Failed call ∷ [])
HasTurned call old new OutOfMemory = (began_by new ≡ began_by old) × (story_by new ≡ story_by old)

-- a write was noted, with the next mark
abbrev pub HasWritten : List ℕ → List ℕ → SureFiles → SureFiles → Type 0
HasWritten path bytes old new = (kept : Vec ℕ Global) × (kept.items ≡ bytes) × (story_by new ≡ story_by old ++ Wrote path kept (old.writes + 1) ∷ [])

-- what was put was noted
abbrev pub HasPut : List ℕ → List ℕ → ℕ → SureFiles → SureFiles → Type 0
HasPut path bytes mark old new = (kept : Vec ℕ Global) × (kept.items ≡ bytes) × (story_by new ≡ story_by old ++ Put path kept mark ∷ [])
