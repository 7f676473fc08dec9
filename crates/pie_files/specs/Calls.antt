-- What each call on the files says of the list of calls and of the count of faults.
use Rattle.std.specs.Prelude.{◌≡◌, ◌⊎◌, ◌≤◌, ℕ, List, [], ◌∷◌, ◌++◌, Option, None, Some, Result, Ok, Err, IfSome, OnOk, IsErrOf}
use Rattle.pie_files.specs.declared.files.Call.{Call}
use Rattle.pie_files.specs.declared.files.Call.TheVariants.{Write}
use Rattle.pie_files.specs.declared.files.FilesError.{FilesError}
use Rattle.pie_files.specs.declared.files.FilesError.TheVariants.{Failed, OutOfMemory}
use Rattle.pie_files.specs.Directory.{Directory, with_file, without_file}
use Rattle.pie_files.specs.Faults.{Rose}

-- where the list of calls is observable, one call of this kind stands at its end now
abbrev pub Notes : (Call → Type 0) → Option (List Call) → Option (List Call) → Type 0
Notes kind before after = IfSome before (λ calls. (call : Call) × kind call × (after ≡ Some (calls ++ call ∷ [])))

-- a call that found no memory may be noted or not; any other is noted
abbrev pub NotesUnlessMemory : {T : Type 0} → Result T FilesError → (Call → Type 0) → Option (List Call) → Option (List Call) → Type 0
NotesUnlessMemory (Ok value) kind before after = Notes kind before after
NotesUnlessMemory (Err Failed) kind before after = Notes kind before after
NotesUnlessMemory (Err OutOfMemory) kind before after = (after ≡ before) ⊎ Notes kind before after

-- a write is noted with the mark that was given, where it succeeded
abbrev pub IsWrite : {T : Type 0} → List ℕ → Result T FilesError → Call → Type 0
IsWrite path (Ok value) call = (mark : ℕ) × (call ≡ Write path (Some mark))
IsWrite path (Err e) call = call ≡ Write path None

-- what every call says: it is noted, and the count of faults tells exactly whether it failed
pub record Called {S T : Type 0} (asked : S → Option (List Call)) (faults : S → ℕ) (kind : Call
    → Type 0) (old new : S) (result : Result T FilesError) : Type 0 where
  pub noted : NotesUnlessMemory result kind (asked old) (asked new)
  pub later : faults old ≤ faults new
  pub steady : OnOk result (faults new ≡ faults old)
  pub cause : IsErrOf result Failed → Rose (faults old) (faults new)

-- what a write that succeeded leaves: the file with these bytes and some mark, and the same mark in the list of calls
abbrev pub Wrote : {S : Type 0} → (S → Option Directory) → (S → Option (List Call)) → List ℕ → List ℕ → S → S → Type 0
Wrote holds asked path bytes old new = (mark : ℕ) × IfSome (holds old) (λ d. holds new ≡ Some (with_file d path bytes mark))
    × IfSome (asked old) (λ calls. asked new ≡ Some (calls ++ Write path (Some mark) ∷ []))

-- what a write that fails may leave: the directory as before, or any bytes in that file
abbrev pub MayHaveWritten : Directory → List ℕ → Option Directory → Type 0
MayHaveWritten d path after = (after ≡ Some d) ⊎ ((bytes : List ℕ) × (mark : ℕ) × (after ≡ Some (with_file d path bytes mark)))

-- what a removal that fails may leave: the directory as before, or without that file
abbrev pub MayHaveRemoved : Directory → List ℕ → Option Directory → Type 0
MayHaveRemoved d path after = (after ≡ Some d) ⊎ (after ≡ Some (without_file d path))
