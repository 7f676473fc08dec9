-- What is left where a root, or all roots, were settled: beside the build, what the model knows of it, what ran, and that none was reused without offers.
use Rattle.std.specs.Prelude.{ℕ, Bool, List, All, Option}
use Rattle.std.specs.List.{Contains}
use Rattle.pie_value.specs.declared.task.Task.{Task}
use Rattle.pie_value.specs.declared.verdict.Refusal.{Refusal}
use Rattle.pie_value.specs.Canonical.{IsEncodableTask}
use Rattle.pie_code.specs.declared.code.Code.{Code}
use Rattle.pie_files.specs.Directory.{Directory}
use Rattle.pie_record.specs.Canonical.{IsStorable}
use Rattle.pie_record.specs.declared.task_record.TaskRecord.{TaskRecord}
use Rattle.pie_store.specs.Canonical.{AreInOrder}
use Rattle.pie_store.specs.inner.Offers.{Offered}
use Rattle.pie_topdown.specs.declared.builder.Builder.{Builder}
use Rattle.pie_topdown.specs.declared.hand.Hand.{Hand}
use Rattle.pie_topdown.specs.inner.Entries.{MayBe}
use Rattle.pie_topdown.specs.inner.Frames.{IsSite}
use Rattle.pie_topdown.specs.inner.Ran.{RansOn, SettlesRan, StopsRan, SettlesAllRan, StopsAllRan}
use Rattle.pie_topdown.specs.inner.Rooted.{RunsOnRight, SettlesRight, SettlesAllRight}
use Rattle.pie_topdown.specs.inner.Roots.{IsSettledRoot, Continues}
use Rattle.pie_topdown.specs.inner.Unoffered.{EndsOwn, RunsOwn}

-- ---- what is handed

-- the records of a store can be stored and stand in order, and these roots have canonical bytes
pub record CanSettleFrom (rows : List TaskRecord) (ts : List Task) : Type 0 where
  pub storable : All IsStorable rows
  pub order : AreInOrder rows
  pub roots : All IsEncodableTask ts

-- a build stands, and these roots have canonical bytes
pub record StandsBefore (b : Builder) (ts : List Task) : Type 0 where
  pub site : IsSite b
  pub roots : All IsEncodableTask ts

-- a root that wasn't entered may be, with this code
pub record MayGainRoot (b : Builder) (t : Task) (code : Code) : Type 0 where
  pub site : IsSite b
  pub root : IsEncodableTask t
  pub absent : ¬ (Contains b.ledger.tables.names t)
  pub may : MayBe b t code

-- ---- what is left

-- the steps from what is in hand on keep a build right, and mark as they should
pub record EndsSteps (held : Option Directory) (told : Directory → Task → List ℕ → List Offered) (old : Builder) (h : Hand) (new : Builder)
    (before after : List Task) (rests : Bool) : Type 0 where
  pub own : RunsOwn held told old h new
  pub right : RunsOnRight held told old h new rests
  pub ran : RansOn held told old h new before after

-- a root was settled, or is why the build is refused, as it is in the clean build
pub record EndsRoot (held : Option Directory) (told : Directory → Task → List ℕ → List Offered) (old : Builder) (root : Task) (new : Builder)
    (before after : List Task) (why : Option Refusal) : Type 0 where
  pub own : EndsOwn held told old new
  pub right : SettlesRight held told old root new why
  pub ran : SettlesRan held told old root new before after why
  pub full : StopsRan held told old root new before after why

-- so it is with all roots
pub record EndsRoots (held : Option Directory) (told : Directory → Task → List ℕ → List Offered) (old : Builder) (roots : List Task) (new : Builder)
    (before after : List Task) (why : Option Refusal) : Type 0 where
  pub own : EndsOwn held told old new
  pub right : SettlesAllRight held told old roots new why
  pub ran : SettlesAllRan held told old roots new before after why
  pub full : StopsAllRan held told old roots new before after why

-- a build with a settled root goes on
pub record HasSettled (old : Builder) (root : Task) (before after : List Task) (new : Builder) : Type 0 where
  pub site : IsSite new
  pub settled : IsSettledRoot new.ledger root
  pub continues : Continues old new before after
