-- What has happened to files in memory, and what a crash may leave of it.
use Rattle.std.specs.Prelude.{◌≡◌, ◌≤◌, ◌/◌, ℕ, suc, Bool, true, false, ◌||◌, cond, List, [], ◌∷◌, length, take, drop}
use Rattle.pie_files.specs.declared.files.Call.{Call}
use Rattle.pie_files.specs.declared.files.Call.TheVariants.{Read, Names, AllUnder, Write, Remove, Sync}
use Rattle.pie_files.specs.declared.pick.Pick.{Pick}
use Rattle.pie_files.specs.declared.pick.Pick.TheVariants.{All, Nothing, Torn}
use Rattle.pie_files.specs.declared.sure_files.Logged.{Logged}
use Rattle.pie_files.specs.declared.sure_files.Logged.TheVariants.{Put, FailsAt, Asked, Failed, Wrote, Removed, Synced}
use Rattle.pie_files.specs.Directory.{Directory, with_file, without_file}
use Rattle.pie_files.specs.Images.{Stays, MayWrite, MayRemove}

-- a write as a crash picks it: done, not done, or the first half of its bytes
abbrev pub picked_write : Pick → Directory → List ℕ → List ℕ → ℕ → Directory
picked_write All d path bytes mark = with_file d path bytes mark
picked_write Nothing d path bytes mark = d
picked_write Torn d path bytes mark = with_file d path (take (length bytes / 2) bytes) mark

-- a removal as a crash picks it: done or not
abbrev pub picked_removal : Pick → Directory → List ℕ → Directory
picked_removal All d path = without_file d path
picked_removal Nothing d path = d
picked_removal Torn d path = without_file d path

-- one thing that happened as a crash picks it; what was put is there in any case
abbrev pub picked : Pick → Directory → Logged → Directory
picked pick d (Put path bytes mark) = with_file d path bytes.items mark
picked pick d (FailsAt numbers) = d
picked pick d (Asked call) = d
picked pick d (Failed call) = d
picked pick d (Wrote path bytes mark) = picked_write pick d path bytes.items mark
picked pick d (Removed path) = picked_removal pick d path
picked pick d Synced = d

-- all of it, one thing after another
abbrev pub picked_all : Pick → Directory → List Logged → Directory
picked_all pick d [] = d
picked_all pick d (x ∷ log) = picked_all pick (picked pick d x) log

-- the directory after all of it was done
abbrev pub after_all : Directory → List Logged → Directory
after_all = picked_all All

-- a call that failed may have done what it was asked to
abbrev pub MayTry : Call → Directory → Directory → Type 0
MayTry (Read path) = Stays
MayTry (Names dir) = Stays
MayTry (AllUnder dir) = Stays
MayTry (Write path mark) = MayWrite path
MayTry (Remove path) = MayRemove path
MayTry Sync = Stays

-- what a crash may leave of one thing that happened
abbrev pub MayDo : Logged → Directory → Directory → Type 0
MayDo (Put path bytes mark) before after = after ≡ with_file before path bytes.items mark
MayDo (FailsAt numbers) before after = after ≡ before
MayDo (Asked call) before after = after ≡ before
MayDo (Failed call) before after = MayTry call before after
MayDo (Wrote path bytes mark) before after = MayWrite path before after
MayDo (Removed path) before after = MayRemove path before after
MayDo Synced before after = after ≡ before

-- the image rule: after a sync that succeeded a crash leaves what reads give, and else an earlier image after one thing more
abbrev pub LeftAfter : Directory → (Directory → Type 0) → Logged → Directory → Type 0
LeftAfter now earlier Synced c = c ≡ now
LeftAfter now earlier x c = (d : Directory) × earlier d × MayDo x d c

-- what a crash may leave after all of it, where reads gave this and these were the images
abbrev pub LeftFrom : Directory → (Directory → Type 0) → List Logged → Directory → Type 0
LeftFrom now earlier [] c = earlier c
LeftFrom now earlier (x ∷ log) c = LeftFrom (picked All now x) (LeftAfter now earlier x) log c

-- what a crash may leave of files that began with this directory, safely there
abbrev pub IsLeft : Directory → List Logged → Directory → Type 0
IsLeft began log c = LeftFrom began (λ d. d ≡ began) log c

-- what a crash may have left when so many things had happened, or later
abbrev pub WasLeft : Directory → List Logged → ℕ → Directory → Type 0
WasLeft began log t c = (k : ℕ) × (t ≤ k) × (k ≤ length log) × IsLeft began (take k log) c

-- a sync that succeeded
abbrev pub is_sync : Logged → Bool
is_sync (Put path bytes mark) = false
is_sync (FailsAt numbers) = false
is_sync (Asked call) = false
is_sync (Failed call) = false
is_sync (Wrote path bytes mark) = false
is_sync (Removed path) = false
is_sync Synced = true

-- one of these is a sync that succeeded
abbrev pub has_sync : List Logged → Bool
has_sync [] = false
has_sync (x ∷ log) = is_sync x || has_sync log

-- how many things happened up to the last sync that succeeded, it included
abbrev pub synced : List Logged → ℕ
synced [] = 0
synced (x ∷ log) = cond (has_sync (x ∷ log)) (suc (synced log)) 0

-- the image that a crash picks: what stood at the last sync that succeeded, and what is picked of what came after it
abbrev pub picked_image : Pick → Directory → List Logged → Directory
picked_image pick began log = picked_all pick (after_all began (take (synced log) log)) (drop (synced log) log)
