-- The files that an accepted build provides, by the contents that are kept.
use Rattle.std.specs.Prelude.{ℕ, ◌≡◌, true, Option, Some, List}
use Rattle.pie_model.specs.Paths.{Path, among}
use Rattle.pie_model.specs.Tasks.{Task}
use Rattle.pie_model.specs.Seen.{first_write}
use Rattle.pie_model.specs.Evaluation.{World, Project}
use Rattle.pie_model.specs.Records.{Record}
use Rattle.pie_model.specs.Forest.{live_evaluations}
use Rattle.pie_model.specs.Verdict.{verdict}
use Rattle.pie_model.specs.declared.words.Verdict.TheVariants.{Accepted}
use Rattle.pie_model.specs.Built.{provided_at}
use Rattle.pie_step_laws.specs.Roots.{Between}
use Rattle.pie_step_laws.specs.Contents.{KeepsContents}

-- an entered task wrote these contents first at the path
pub record KeptAt (kept : Task → List (Path × List ℕ)) (names : List Task) (p : Path) (b : List ℕ) : Type 0 where
  pub writer : Task
  pub entered : among writer names ≡ true
  pub wrote : first_write p (kept writer) ≡ Some b

-- in an accepted build a path has one writer
abbrev pub AcceptedPathsHaveOneWriter : Type 0
AcceptedPathsHaveOneWriter =
    (w : World) (P : Project) (roots : List Task) (R : Task → Option Record) (names : List Task) (kept : Task → List (Path × List ℕ))
    → Between w P roots R names → KeepsContents w P R kept → verdict w P roots ≡ Accepted → (s t : Task) (p : Path) (b c : List ℕ)
    → among s names ≡ true → among t names ≡ true → first_write p (kept s) ≡ Some b → first_write p (kept t) ≡ Some c → s ≡ t

-- so what an entered task wrote is provided
abbrev pub WrittenFilesAreProvided : Type 0
WrittenFilesAreProvided =
    (w : World) (P : Project) (roots : List Task) (R : Task → Option Record) (names : List Task) (kept : Task → List (Path × List ℕ))
    → Between w P roots R names → KeepsContents w P R kept → verdict w P roots ≡ Accepted → (t : Task) (p : Path) (b : List ℕ)
    → among t names ≡ true → first_write p (kept t) ≡ Some b → provided_at (live_evaluations w P roots) p ≡ Some b

-- and what is provided was written by an entered task
abbrev pub ProvidedFilesAreWritten : Type 0
ProvidedFilesAreWritten =
    (w : World) (P : Project) (roots : List Task) (R : Task → Option Record) (names : List Task) (kept : Task → List (Path × List ℕ))
    → Between w P roots R names → KeepsContents w P R kept → (p : Path) (b : List ℕ) → provided_at (live_evaluations w P roots) p ≡ Some b
    → KeptAt kept names p b
