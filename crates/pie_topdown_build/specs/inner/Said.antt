-- What a part of a build without a list is handed, and what it says, each as one record.
use Rattle.std.specs.Prelude.{◌≡◌, ◌≤◌, ℕ, ◌+◌, List, [], ◌++◌, length, All, Box, Option, None, Some, Result, IfOk, IfSome, OnOk}
use Rattle.std.specs.declared.alloc.Global.{Global}
use Rattle.std.proofs.Common.{Vec}
use Rattle.pie_build.specs.Left.{KeepsRest}
use Rattle.pie_build.specs.Stored.{MayStand}
use Rattle.pie_build.specs.inner.Rebuilt.{IsRefusal}
use Rattle.pie_digest.specs.Digests.{HasNames}
use Rattle.pie_files.specs.Directory.{Directory}
use Rattle.pie_files.specs.declared.files.FilesError.{FilesError}
use Rattle.pie_incremental.specs.inner.Joined.{IsImage}
use Rattle.pie_incremental.specs.inner.Refused.{RefusesRight}
use Rattle.pie_project.specs.declared.fault.BuildError.{BuildError}
use Rattle.pie_project.specs.declared.project.Project.{Project}
use Rattle.pie_record.specs.declared.task_record.TaskRecord.{TaskRecord}
use Rattle.pie_report.specs.declared.report.Report.{Report}
use Rattle.pie_results.specs.inner.Files.{InPathOrder}
use Rattle.pie_store.specs.Canonical.{AreFuncs}
use Rattle.pie_store.specs.declared.cause.Cause.{Cause}
use Rattle.pie_store.specs.declared.image.StoreImage.{StoreImage}
use Rattle.pie_store.specs.inner.Offers.{Offered as Offer}
use Rattle.pie_topdown.specs.inner.Roots.{Started}
use Rattle.pie_topdown.specs.inner.Unoffered.{OffersNothing}
use Rattle.pie_value.specs.Canonical.{IsEncodableTask}
use Rattle.pie_value.specs.declared.task.Task.{Task}
use Rattle.pie_value.specs.declared.verdict.Verdict.{Verdict}
use Rattle.pie_topdown_build.specs.declared.accepting.Made.{Made}
use Rattle.pie_topdown_build.specs.declared.base.Base.{Base}
use Rattle.pie_topdown_build.specs.declared.evaluating.Evaluated.{Evaluated}
use Rattle.pie_topdown_build.specs.declared.offered.Offered.{Offered}
use Rattle.pie_topdown_build.specs.Refusals.{KeepsRefused}
use Rattle.pie_topdown_build.specs.inner.Bases.{IsBase}
use Rattle.pie_topdown_build.specs.inner.Crashes.{Endures}
use Rattle.pie_topdown_build.specs.inner.Offered.{IsNew}
use Rattle.pie_topdown_build.specs.inner.Stored.{AreRowsIf, LeavesRowsIf}

-- ---- what is required

-- a project can be built from a base: that can be begun from, and the project's digests have the names of its functions, each once in order
pub record CanBuild (b : Base) (p : Project) : Type 0 where
  pub base : IsBase b
  pub names : HasNames p.typed p.digests.items
  pub funcs : AreFuncs p.digests.items

-- so can one whose roots have canonical bytes besides
pub record CanRun (b : Base) (p : Project) : Type 0 where
  pub base : IsBase b
  pub names : HasNames p.typed p.digests.items
  pub funcs : AreFuncs p.digests.items
  pub roots : All IsEncodableTask p.roots.items

-- the roots of a project can be settled from a store: its records can be stored, are of the program and stand in order, the project's digests have the names of
-- its functions, each once in order, and the roots have canonical bytes
pub record CanSettle (s : StoreImage) (p : Project) : Type 0 where
  pub image : IsImage s
  pub names : HasNames p.typed p.digests.items
  pub funcs : AreFuncs p.digests.items
  pub roots : All IsEncodableTask p.roots.items

-- what was made of a project can be put into place: its records may stand in a store with the project's functions and roots, and its files are in path order
pub record CanPut (p : Project) (made : Made) : Type 0 where
  pub rows : MayStand p.digests.items p.roots.items made.rows.items
  pub contents : InPathOrder made.contents.items

-- ---- the files

-- no path changed but those that a build may change; and where nothing was pending, at each moment a crash leaves one of three, the end is as these say, and
-- once this is settled nothing is pending
pub record Stays {S : Type 0} (holds : S → Option Directory) (moment : S → ℕ) (left_since : S → ℕ → Directory → Type 0) (images : S → Directory → Type 0)
    (D : Directory → Directory → Type 0) (settled : Type 0) (old new : S) : Type 0 where
  pub rest : KeepsRest (holds old) (holds new)
  pub crash : Endures holds moment left_since images D settled old new

-- where the project is refused, the files are as before and it is refused so; and over observable files no refused build changes one
pub record RefusesUnchanged {A : Type 0} (before after : Option Directory) (result : Result A BuildError) (report : A → Report) : Type 0 where
  pub refused : IsRefusal result → after ≡ before
  pub kept : IfSome before (λ d. IfOk result (λ a. KeepsRefused (report a).verdict d after))
  pub says : IfSome before (λ d. RefusesRight d result)

-- where this verdict accepts, the store that is left has these functions and records, if what was there before is known to be so, and the records have
-- canonical bytes
pub record Stores {A E : Type 0} (v : Verdict) (Known : Directory → Type 0) (funcs : List (List ℕ × List ℕ)) (rows : List TaskRecord)
    (before after : Option Directory) (result : Result A E) : Type 0 where
  pub stored : IfSome before (λ d. Known d → OnOk result (LeavesRowsIf v funcs rows after))
  pub rows_are : OnOk result (AreRowsIf v rows)

-- ---- the tasks that were started

-- tasks were started that have canonical bytes, at most 50,000
pub record StartsFew (old new : List Task) : Type 0 where
  pub started : Started old new
  pub few : length new ≤ length old + 50000

-- at most 50,000 tasks were started, a report tells them, and each has canonical bytes
pub record TellsRuns {A E : Type 0} (old new : List Task) (result : Result A E) (report : A → Report) : Type 0 where
  pub ran : IfOk result (λ a. new ≡ old ++ (report a).ran.items)
  pub few : length new ≤ length old + 50000
  pub encodable : IfOk result (λ a. All IsEncodableTask (report a).ran.items)

-- so it is, and the report tells this cause to start afresh
pub record TellsRunsFor {A E : Type 0} (cause : Cause) (old new : List Task) (result : Result A E) (report : A → Report) : Type 0 where
  pub fresh : IfOk result (λ a. (report a).fresh ≡ Some cause)
  pub ran : IfOk result (λ a. new ≡ old ++ (report a).ran.items)
  pub few : length new ≤ length old + 50000
  pub encodable : IfOk result (λ a. All IsEncodableTask (report a).ran.items)

-- the tasks that were reused have canonical bytes, and there are none where nothing is offered
pub record ReusesOffered (held : Option Directory) (told : Directory → Task → List ℕ → List Offer) (result : Result Evaluated FilesError) : Type 0 where
  pub none : OffersNothing held told → IfOk result (λ e. e.reused.items ≡ [])
  pub reused : IfOk result (λ e. All IsEncodableTask e.reused.items)

-- ---- what is told

-- a report has this verdict, tells these tasks as those that ran, and no cause to start afresh
pub record TellsVerdict (v : Verdict) (tasks : Vec Task Global) (result : Result (Box Report Global) FilesError) : Type 0 where
  pub verdict : IfOk result (λ r. r.value.verdict ≡ v)
  pub fresh : IfOk result (λ r. r.value.fresh ≡ None)
  pub ran : IfOk result (λ r. r.value.ran ≡ tasks)

-- the tasks that were reused have canonical bytes, each new offer can be kept, and none is told
pub record OffersNone {E : Type 0} (result : Result Offered E) : Type 0 where
  pub reused : IfOk result (λ o. All IsEncodableTask o.reused.items)
  pub new : IfOk result (λ o. All IsNew o.new.items)
  pub none : IfOk result (λ o. o.new.items ≡ [])

-- the tasks that were reused have canonical bytes, each new offer can be kept, and where new offers are asked for, they are those of the records that are left
-- (News), of evaluations and of all of them (Honest)
pub record TellsOffers {E : Type 0} (asked : Type 0) (result : Result Offered E) (News Honest : Offered → Type 0) : Type 0 where
  pub reused : IfOk result (λ o. All IsEncodableTask o.reused.items)
  pub new : IfOk result (λ o. All IsNew o.new.items)
  pub news : asked → IfOk result News
  pub honest : asked → IfOk result Honest

-- so it is with a build from nothing, which is always asked, and of a directory that is observable
pub record TellsOffersOf {E : Type 0} (before : Option Directory) (result : Result Offered E) (News : Offered → Type 0) (Honest : Directory → Offered → Type 0)
    : Type 0 where
  pub reused : IfOk result (λ o. All IsEncodableTask o.reused.items)
  pub new : IfOk result (λ o. All IsNew o.new.items)
  pub news : IfOk result News
  pub honest : IfSome before (λ d. IfOk result (Honest d))
