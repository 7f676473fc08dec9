-- The steps of a script over a directory that is told: its edits, its builds, and that these are as clean builds.
use Rattle.std.specs.Prelude.{◌≡◌, ℕ, List, [], ◌∷◌, ◌++◌, map, All, Option, Some}
use Rattle.pie_files.specs.Directory.{Directory, with_file, without_file}
use Rattle.pie_incremental.specs.Earlier.{Earlier}
use Rattle.pie_report.specs.declared.report.Report.{Report}
use Rattle.pie_script.specs.Steps.{Plain, PutFile, DelFile, Name, BuildNow}
use Rattle.pie_clean_laws.specs.Basing.{IsBasedOn}
use Rattle.pie_script_laws.specs.Scripts.{Step, IsBuilt, IsScript, IsCleanStep}

-- what some steps came to: the names since the last build, the builds, and the directory that is there then; a constructor for each kind of step
pub data Played (start : Directory) : List Plain → List (List ℕ) → List Step → Directory → Type 0 where
  nothing : Played start [] [] [] start
  put : {steps : List Plain} {names : List (List ℕ)} {builds : List Step} {d : Directory} (path bytes : List ℕ) (mark : ℕ)
      → Played start steps names builds d → Played start (steps ++ PutFile path bytes ∷ []) names builds (with_file d path bytes mark)
  deleted : {steps : List Plain} {names : List (List ℕ)} {builds : List Step} {d : Directory} (path : List ℕ)
      → Played start steps names builds d → Played start (steps ++ DelFile path ∷ []) names builds (without_file d path)
  named : {steps : List Plain} {names : List (List ℕ)} {builds : List Step} {d : Directory} (path : List ℕ)
      → Played start steps names builds d → Played start (steps ++ Name path ∷ []) (names ++ path ∷ []) builds d
  built : {steps : List Plain} {builds : List Step} (s : Step)
      → Played start steps s.list builds s.now → IsBuilt s → Played start (steps ++ BuildNow ∷ []) [] (builds ++ s ∷ []) s.left

abbrev pub report_of : Step → Report
report_of s = s.report

-- steps were done from a directory, with the builds of these reports; and where these go on from an earlier build, each is as a clean build
pub record AreClean (start : Directory) (steps : List Plain) (names : List (List ℕ)) (reports : List Report) (after : Option Directory) : Type 0 where
  pub left : Directory
  pub told : after ≡ Some left
  pub builds : List Step
  pub played : Played start steps names builds left
  pub reported : map report_of builds ≡ reports
  pub clean : (e : Earlier) (before : Directory) → IsBasedOn e before → IsScript e before builds → All IsCleanStep builds
