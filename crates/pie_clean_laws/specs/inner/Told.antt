-- What is told of the clean builds of one directory.
use Rattle.std.specs.Prelude.{◌≡◌, ℕ, List, Option}
use Rattle.std.specs.List.{All}
use Rattle.pie_build.specs.Left.{Leaves}
use Rattle.pie_files.specs.Directory.{Directory}
use Rattle.pie_fresh.specs.Told.{IsTrueTask}
use Rattle.pie_report.specs.declared.report.Report.{Report}
use Rattle.pie_report.specs.Objects.{IsJson}
use Rattle.pie_report.specs.Texts.{IsText}

-- two reports have the same verdict and cause, and tell the same tasks, paths and outputs
pub record TellTheSame (r s : Report) : Type 0 where
  pub verdict : r.verdict ≡ s.verdict
  pub fresh : r.fresh ≡ s.fresh
  pub ran : r.ran.items ≡ s.ran.items
  pub wrote : r.wrote.items ≡ s.wrote.items
  pub removed : r.removed.items ≡ s.removed.items
  pub live : r.live ≡ s.live
  pub outputs : r.outputs.items ≡ s.outputs.items

-- clean builds of one directory tell the same
abbrev pub CleanReportsAreOne : Type 0
CleanReportsAreOne = (d : Directory) (r s : Report) (after left : Option Directory) → Leaves d r after → Leaves d s left → TellTheSame r s

-- the tasks that ran in a clean build are ones that the program has
abbrev pub CleanTasksAreTrue : Type 0
CleanTasksAreTrue = (d : Directory) (r : Report) (after : Option Directory) → Leaves d r after → All IsTrueTask r.ran.items

-- reports that tell the same, of tasks that the program has, have one text and one line of JSON
abbrev pub SameReportsHaveOneText : Type 0
SameReportsHaveOneText =
    (r s : Report) (text other : List ℕ) → TellTheSame r s → All IsTrueTask r.ran.items
    → (IsText r text → IsText s other → text ≡ other) × (IsJson r text → IsJson s other → text ≡ other)
