-- What the parts of an incremental build say to each other.
use Rattle.std.specs.Prelude.{◌≡◌, ℕ, true, List, ◌++◌, Option, None, Some, IfSome}
use Rattle.std.specs.List.{All, list_all}
use Rattle.pie_base.specs.Path.{is_out}
use Rattle.pie_bottomup.specs.declared.state.Core.{Core}
use Rattle.pie_bottomup.specs.inner.States.{HasSettled}
use Rattle.pie_build.specs.Stored.{MayStand}
use Rattle.pie_checks.specs.declared.built.Built.{Built as Result}
use Rattle.pie_commit.specs.declared.plan.Plan.{Plan}
use Rattle.pie_commit.specs.inner.Plans.{has_own_places}
use Rattle.pie_files.specs.Directory.{Directory}
use Rattle.pie_record.specs.Canonical.{IsStorable, IsTrueRecord}
use Rattle.pie_record.specs.declared.task_record.TaskRecord.{TaskRecord}
use Rattle.pie_results.specs.inner.Made.{IsKept}
use Rattle.pie_report.specs.declared.report.Report.{Report}
use Rattle.pie_store.specs.Canonical.{AreInOrder}
use Rattle.pie_store.specs.declared.cause.Cause.{Cause}
use Rattle.pie_store.specs.declared.image.StoreImage.{StoreImage}
use Rattle.pie_store.specs.Frame.{IsSealed}
use Rattle.pie_store.specs.Pending.{in_order}
use Rattle.pie_value.specs.Canonical.{IsEncodableTask}
use Rattle.pie_value.specs.declared.task.Task.{Task}
use Rattle.pie_value.specs.declared.verdict.Verdict.{Verdict}
use Rattle.pie_value.specs.declared.verdict.Verdict.TheVariants.{Accepted, Refused}
use Rattle.pie_incremental.specs.declared.base.Base.{Base}
use Rattle.pie_incremental.specs.declared.base.OwnFiles.{OwnFiles}
use Rattle.pie_incremental.specs.declared.ending.Ending.{Ending}
use Rattle.pie_incremental.specs.declared.evaluate.Ended.{Ended}
use Rattle.pie_incremental.specs.declared.evaluate.Ended.TheVariants.{Built, Afresh}
use Rattle.pie_incremental.specs.declared.run.Done.{Done}
use Rattle.pie_incremental.specs.declared.run.Done.TheVariants.{Reported, Stopped}
use Rattle.pie_incremental.specs.Kept.{KeepsNames}
use Rattle.pie_incremental.specs.Own.{bytes_at, pending_path, IsClosed}
use Rattle.pie_incremental.specs.Treated.{HasNoNames, NamesBy}
use Rattle.pie_incremental.specs.inner.Changes.{bytes_of}
use Rattle.pie_incremental.specs.inner.Plans.{HasChanged}

-- a store whose records can be stored, are of the program and stand in order
pub record IsImage (s : StoreImage) : Type 0 where
  pub storable : All IsStorable s.rows
  pub parts : All IsTrueRecord s.rows
  pub order : AreInOrder s.rows

-- what the build before left: such a store, and its text, which ends in the digest of the rest
pub record IsBase (b : Base) : Type 0 where
  pub image : IsImage b.image
  pub text : IsSealed b.own.store.items

-- tasks were started that have canonical bytes
pub record Started (old new : List Task) : Type 0 where
  pub gained : List Task
  pub is : new ≡ old ++ gained
  pub encodable : All IsEncodableTask gained

-- records may stand in a store with these functions and roots, where this verdict accepts
abbrev pub StandsIf : Verdict → List (List ℕ × List ℕ) → List Task → List TaskRecord → Type 0
StandsIf Accepted funcs roots rows = MayStand funcs roots rows
StandsIf (Refused x) funcs roots rows = Unit {0}

-- what was made can be stored, where it is accepted with these functions and roots
pub record IsMade (funcs : List (List ℕ × List ℕ)) (roots : List Task) (b : Result) : Type 0 where
  pub kept : IsKept b
  pub stands : StandsIf b.verdict funcs roots b.rows.items

abbrev pub IsEnded : List (List ℕ × List ℕ) → List Task → Ended → Type 0
IsEnded funcs roots (Built b) = IsMade funcs roots b.value
IsEnded funcs roots (Afresh cause) = Unit {0}

-- the roots are settled, unless the build has to start afresh
abbrev pub Settles : Core → Option Cause → Type 0
Settles c None = HasSettled c
Settles c (Some cause) = Unit {0}

-- a report tells the tasks that were started; so many were where none is made yet
abbrev pub Reports : List Task → List Task → Done → Type 0
Reports old new (Reported r) = (new ≡ old ++ r.value.ran.items) × All IsEncodableTask r.value.ran.items
Reports old new (Stopped stop) = Started old new

-- a report is another one but for its cause and the tasks that ran
abbrev pub IsRetold : Report → Report → Type 0
IsRetold old new = new ≡ record old { fresh = new.fresh; ran = new.ran }

-- a build that has to start afresh has changed nothing
abbrev pub IsAsBefore : Option Directory → Option Directory → Done → Type 0
IsAsBefore before after (Reported r) = Unit {0}
IsAsBefore before after (Stopped stop) = after ≡ before

-- a plan that changes files under `out/` alone, and the builder's own
pub record ChangesOut (p : Plan) : Type 0 where
  pub places : has_own_places p ≡ true
  pub removals : list_all is_out p.removals.items ≡ true
  pub writes : list_all (λ w. is_out w.0) p.writes.items ≡ true

-- a store whose functions, roots and records may stand together
pub record IsDrafted (s : StoreImage) : Type 0 where
  pub version : s.version ≡ 2
  pub table : s.pipeline ≡ None
  pub stands : MayStand s.funcs s.roots s.rows

-- ---- names

-- no marker stands, and the file of pending names has these bytes
pub record HasOwn (d : Directory) (own : OwnFiles) : Type 0 where
  pub closed : IsClosed d
  pub pending : bytes_at d pending_path ≡ bytes_of own.pending

-- what the end of a build needs is of this base, and has the names of this list and the pending ones
pub record IsEndingOf (b : Base) (list : List (List ℕ)) (e : Ending) : Type 0 where
  pub own : e.own ≡ b.own
  pub names : e.names.items ≡ in_order (list ++ b.names.items)

-- a plan after which no names are pending
abbrev pub Clears : OwnFiles → Plan → Type 0
Clears own p = (d : Directory) (after : Option Directory) → HasOwn d own → HasChanged p d after → HasNoNames after

-- a build with a verdict did so with these names, where the builder's own files were these
pub record Treats (own : OwnFiles) (names : List (List ℕ)) (v : Verdict) (before after : Option Directory) : Type 0 where
  pub each : IfSome before (λ d. HasOwn d own → NamesBy v names d after)

-- the same of a build that didn't have to start afresh; one that has to has these names still
abbrev pub TreatsIn : OwnFiles → List (List ℕ) → Option Directory → Option Directory → Done → Type 0
TreatsIn own names before after (Reported r) = Treats own names r.value.verdict before after
TreatsIn own names before after (Stopped stop) = (stop.value.ending.value.own ≡ own) × (stop.value.ending.value.names.items ≡ names)

-- what is done with names after a clean build with this verdict: where it accepts nothing, and where it refuses they are kept
abbrev pub KeepsAfter : Verdict → OwnFiles → List (List ℕ) → Option Directory → Option Directory → Type 0
KeepsAfter Accepted own names before after = after ≡ before
KeepsAfter (Refused x) own names before after = IfSome before (λ d. HasOwn d own → KeepsNames names d after)
