-- Which paths a build by what changed asks for.
use Rattle.std.specs.Prelude.{◌≡◌, ℕ, List, ◌++◌, map, Option, None}
use Rattle.pie_build.specs.Left.{IsProjectOf}
use Rattle.pie_files.specs.Directory.{Directory}
use Rattle.pie_files.specs.declared.files.Call.{Call}
use Rattle.pie_files.specs.declared.files.Call.TheVariants.{Read, Names, AllUnder, Write, Remove, Sync}
use Rattle.pie_model.specs.Reasons.{MayAsk}
use Rattle.pie_model_pipeline.specs.World.{world, project}
use Rattle.pie_named.specs.Asking.{MakesOnly}
use Rattle.pie_report.specs.declared.report.Report.{Report}
use Rattle.pie_store.specs.Pending.{in_order}
use Rattle.pie_value.specs.Canonical.{enc_task}
use Rattle.pie_value.specs.declared.task.Task.{Task}
use Rattle.pie_incremental.specs.declared.base.Base.{Base}
use Rattle.pie_incremental.specs.Earlier.{Earlier, GoesOnFrom}
use Rattle.pie_incremental.specs.Starts.{IsBase}

-- where a call looks at a file or lists a directory, it is such a one
abbrev pub LooksOnlyAt : (List ℕ → Type 0) → Call → Type 0
LooksOnlyAt P (Read p) = P p
LooksOnlyAt P (Names p) = P p
LooksOnlyAt P (AllUnder p) = P p
LooksOnlyAt P (Write p mark) = Unit {0}
LooksOnlyAt P (Remove p) = Unit {0}
LooksOnlyAt P Sync = Unit {0}

-- by what an earlier build left, only such paths are looked at: the project's files and the builder's own, the names of the list, pending ones, directories
-- above them, and what tasks observe that ran
pub record AsksAsMay (list : List (List ℕ)) (d : Directory) (r : Report) (asked asked_now : Option (List Call)) : Type 0 where
  pub funcs : List (List ℕ × List ℕ)
  pub roots : List Task
  pub found : IsProjectOf d funcs roots
  pub base : Base
  pub is : IsBase d base
  pub asks : MakesOnly
      (LooksOnlyAt (MayAsk world (project found.functions d) (in_order (list ++ base.names.items)) (map enc_task r.ran.items))) asked asked_now

-- so it is with a build that goes on from an earlier one, and doesn't start afresh
abbrev pub AsksRight : List (List ℕ) → Directory → Report → Option (List Call) → Option (List Call) → Type 0
AsksRight list d r asked asked_now = r.fresh ≡ None → (e : Earlier) → GoesOnFrom e list d → AsksAsMay list d r asked asked_now
