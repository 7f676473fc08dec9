-- What reading the names or the steps of an input answers.
use Rattle.std.specs.Prelude.{◌≡◌, ℕ, ◌≤◌, List, [], map, Option, Some, Result, Ok, Err, IsErrOf, Vec}
use Rattle.std.specs.declared.alloc.Global.{Global}
use Rattle.pie_files.specs.Faults.{Rose}
use Rattle.pie_script.specs.Steps.{plain}
use Rattle.pie_script.specs.declared.fault.InputFault.{InputFault}
use Rattle.pie_script.specs.declared.step.Step.{Step}
use Rattle.pie_input.specs.Names.{AreNames, IsBad}
use Rattle.pie_input.specs.Scripts.{AreSteps, IsBadScript}
use Rattle.pie_input.specs.declared.lines.LinesError.{LinesError}
use Rattle.pie_input.specs.declared.lines.LinesError.TheVariants.{Bad, Failed, OutOfMemory}

-- what some bytes mean, or why they are refused
abbrev pub HasMeaning : {A : Type 0} → (A → Type 0) → (InputFault → Type 0) → Result A LinesError → Type 0
HasMeaning Means Refuses (Ok found) = Means found
HasMeaning Means Refuses (Err (Bad fault)) = Refuses fault
HasMeaning Means Refuses (Err Failed) = ⊥
HasMeaning Means Refuses (Err OutOfMemory) = Unit {0}

-- the same of an input with these bytes left, which is read to its end where they have a meaning
abbrev pub MeaningRead : {A : Type 0} → (A → Type 0) → (InputFault → Type 0) → Option (List ℕ) → Result A LinesError → Type 0
MeaningRead Means Refuses after (Ok found) = Means found × (after ≡ Some [])
MeaningRead Means Refuses after (Err (Bad fault)) = Refuses fault
MeaningRead Means Refuses after (Err Failed) = Unit {0}
MeaningRead Means Refuses after (Err OutOfMemory) = Unit {0}

-- the names of a change list with these bytes, or why it is refused
abbrev pub HasNames : List ℕ → Result (Vec (List ℕ) Global) LinesError → Type 0
HasNames bytes result = HasMeaning (λ found. AreNames bytes found.items) (IsBad bytes) result

-- the same of an input with these bytes left
abbrev pub NamesRead : List ℕ → Option (List ℕ) → Result (Vec (List ℕ) Global) LinesError → Type 0
NamesRead bytes after result = MeaningRead (λ found. AreNames bytes found.items) (IsBad bytes) after result

-- the steps of a script with these bytes, or why it is refused
abbrev pub HasSteps : List ℕ → Result (Vec Step Global) LinesError → Type 0
HasSteps bytes result = HasMeaning (λ found. AreSteps bytes (map plain found.items)) (IsBadScript bytes) result

-- the same of an input with these bytes left
abbrev pub StepsRead : List ℕ → Option (List ℕ) → Result (Vec Step Global) LinesError → Type 0
StepsRead bytes after result = MeaningRead (λ found. AreSteps bytes (map plain found.items)) (IsBadScript bytes) after result

-- lines were read, or it is told why they are refused
abbrev pub IsTold : {A : Type 0} → Result A LinesError → Type 0
IsTold (Ok found) = Unit {0}
IsTold (Err (Bad fault)) = Unit {0}
IsTold (Err Failed) = ⊥
IsTold (Err OutOfMemory) = ⊥

-- the count of faults never falls, doesn't rise where there is an answer, and rose where the input failed
pub record TellsLines {S T : Type 0} (faults : S → ℕ) (old new : S) (result : Result T LinesError) : Type 0 where
  pub later : faults old ≤ faults new
  pub steady : IsTold result → faults new ≡ faults old
  pub cause : IsErrOf result Failed → Rose (faults old) (faults new)
