-- What a script does to a directory, step by step.
use Rattle.std.specs.Prelude.{◌≡◌, ℕ, List, [], ◌∷◌, ◌++◌, All, Option, Some, IfSome}
use Rattle.pie_build.specs.Left.{KeepsRest}
use Rattle.pie_files.specs.Directory.{Directory, with_file, without_file}
use Rattle.pie_incremental.specs.Clean.{BuildsClean}
use Rattle.pie_incremental.specs.Runs.{TellsFew}
use Rattle.pie_incremental.specs.Treated.{TreatsNames}
use Rattle.pie_report.specs.declared.report.Report.{Report}
use Rattle.pie_script.specs.Steps.{Plain, PutFile, DelFile, Name, BuildNow}
use Rattle.pie_value.specs.Canonical.{IsEncodableTask}

-- the file is there, with these bytes and some mark, and nothing else changed
abbrev pub HasPut : {S : Type 0} → (S → Option Directory) → List ℕ → List ℕ → S → S → Type 0
HasPut holds path bytes old new = (mark : ℕ) × IfSome (holds old) (λ d. holds new ≡ Some (with_file d path bytes mark))

-- the file is gone, and nothing else changed
abbrev pub HasDeleted : {S : Type 0} → (S → Option Directory) → List ℕ → S → S → Type 0
HasDeleted holds path old new = IfSome (holds old) (λ d. holds new ≡ Some (without_file d path))

-- a build with these names came to this report: what `pie_incremental::build` says of it
pub record HasBuilt {S : Type 0} (holds : S → Option Directory) (names : List (List ℕ)) (report : Report) (old new : S) : Type 0 where
  pub rest : KeepsRest (holds old) (holds new)
  pub treated : IfSome (holds old) (λ d. TreatsNames names d report (holds new))
  pub few : TellsFew report
  pub clean : IfSome (holds old) (λ d. BuildsClean names d report (holds new))
  pub encodable : All IsEncodableTask report.ran.items

-- what a script did since it began: the steps that were done, the names since the last build, the reports of its builds, and the files as they are then;
-- a constructor for each kind of step
pub data Trace {S : Type 0} (holds : S → Option Directory) (start : S) : List Plain → List (List ℕ) → List Report → S → Type 0 where
  nothing : Trace holds start [] [] [] start
  put : {steps : List Plain} {names : List (List ℕ)} {reports : List Report} {old new : S} (path bytes : List ℕ)
      → Trace holds start steps names reports old → HasPut holds path bytes old new
      → Trace holds start (steps ++ PutFile path bytes ∷ []) names reports new
  deleted : {steps : List Plain} {names : List (List ℕ)} {reports : List Report} {old new : S} (path : List ℕ)
      → Trace holds start steps names reports old → HasDeleted holds path old new
      → Trace holds start (steps ++ DelFile path ∷ []) names reports new
  named : {steps : List Plain} {names : List (List ℕ)} {reports : List Report} {now : S} (path : List ℕ)
      → Trace holds start steps names reports now → Trace holds start (steps ++ Name path ∷ []) (names ++ path ∷ []) reports now
  built : {steps : List Plain} {names : List (List ℕ)} {reports : List Report} {old new : S} (report : Report)
      → Trace holds start steps names reports old → HasBuilt holds names report old new
      → Trace holds start (steps ++ BuildNow ∷ []) [] (reports ++ report ∷ []) new
