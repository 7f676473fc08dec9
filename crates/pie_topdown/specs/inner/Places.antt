-- What is found at an observation of a record.
use Rattle.std.specs.Prelude.{◌≡◌, ◌+◌, ◌<◌, ◌≤◌, ℕ, Bool, true, false, List, length, Option, Some, None, slice_get}
use Rattle.std.specs.List.{Contains}
use Rattle.pie_base.specs.Path.{is_source}
use Rattle.pie_value.specs.declared.task.Task.{Task}
use Rattle.pie_value.specs.Canonical.{IsEncodableTask}
use Rattle.pie_files.specs.Directory.{Directory}
use Rattle.pie_graph.specs.Numbers.{numbers}
use Rattle.pie_record.specs.Canonical.{IsStorable}
use Rattle.pie_record.specs.declared.dep.Dep.{Dep}
use Rattle.pie_record.specs.declared.dep.DepOn.{DepOn}
use Rattle.pie_record.specs.declared.dep.DepOn.TheVariants.{File, Called}
use Rattle.pie_named.specs.declared.named.Named.{Named}
use Rattle.pie_named.specs.inner.Stamped.{stamp_in, differs_from}
use Rattle.pie_named.specs.inner.Known.{known_stamp, known_differs, IsTrueOf}
use Rattle.pie_compare.specs.inner.Standing.{Around, DepStands}
use Rattle.pie_topdown.specs.declared.ledger.Ledger.{Ledger}
use Rattle.pie_topdown.specs.declared.builder.Builder.{Builder}
use Rattle.pie_topdown.specs.declared.hand.Check.{Check}
use Rattle.pie_topdown.specs.declared.checking.Place.{Place}
use Rattle.pie_topdown.specs.declared.checking.Place.TheVariants.{Over, Stands, Differs, Needs}
use Rattle.pie_topdown.specs.inner.Frames.{AreOffers, IsCheck}

-- ---- what a check is then

-- a task that can be entered
pub record IsNew (l : Ledger) (t : Task) : Type 0 where
  pub encodable : IsEncodableTask t
  pub absent : ¬ (Contains l.tables.names t)

-- a check may go on by one observation, of which the task, if it is of one, was added to the required ones
pub record IsPassed (l : Ledger) (c : Check) : Type 0 where
  pub inside : c.at < length c.rec.deps
  pub few : c.at ≤ 1000000
  pub next : IsCheck l (record c { at = c.at + 1 })

-- another record of its task may be checked, or the task may run
pub record MayGiveWay (l : Ledger) (c : Check) : Type 0 where
  pub named : slice_get l.tables.names c.no.0 ≡ Some c.rec.task
  pub takes : length c.rec.task.args ≡ c.code.now.params
  pub storable : IsStorable c.rec
  pub rest : AreOffers c.rest

-- what is found at the next observation of a check
abbrev pub IsPlace : Ledger → Check → Place → Type 0
IsPlace l c Over = IsCheck l c × (length c.rec.deps ≤ c.at)
IsPlace l c Stands = IsPassed l c
IsPlace l c Differs = MayGiveWay l c
IsPlace l c (Needs t) = IsCheck l c × IsNew l t

-- ---- whether it is so

-- an observation is of this task, which wasn't entered; or of none that wasn't
abbrev pub IsUnentered : Ledger → DepOn → Option Task → Type 0
IsUnentered l what None = (t : Task) → what ≡ Called t → Contains l.tables.names t
IsUnentered l what (Some t) = (what ≡ Called t) × IsNew l t

-- an observation of a source has the stamp of a directory
abbrev pub IsStill : Directory → Dep → Type 0
IsStill d dep = (path : List ℕ) → dep.what ≡ File path → is_source path ≡ true → differs_from (stamp_in d dep.kind path) dep.stamp ≡ false

-- a source that is observed is known to have another stamp
pub record IsKnownOther (n : Named) (dep : Dep) : Type 0 where
  pub path : List ℕ
  pub is : dep.what ≡ File path
  pub source : is_source path ≡ true
  pub differs : known_differs (known_stamp n dep.kind path) dep.stamp ≡ true

-- the files are asked for a source, and it is known whether it differs
pub record AsksSource (held : Option Directory) (old new : Named) (dep : Dep) (differs : Bool) : Type 0 where
  pub known : (d : Directory) → held ≡ Some d → IsTrueOf d old → IsTrueOf d new
  pub still : (d : Directory) → held ≡ Some d → IsTrueOf d old → differs ≡ false → IsStill d dep
  pub other : differs ≡ true → IsKnownOther new dep

-- what an observation of a task with these writes is compared with
abbrev pub beside : Builder → List (List ℕ × List ℕ) → Around
beside b own = record { tables = b.ledger.tables; rows = b.ledger.rows; known = b.named; own = own }

-- the next observation of a check stands, with these tasks required after it, and has the stamp of the directory if it is of a source
pub record StandsNext (held : Option Directory) (old new : Builder) (c after : Check) : Type 0 where
  pub dep : Dep
  pub next : slice_get c.rec.deps c.at ≡ Some dep
  pub stands : DepStands (beside new c.rec.writes) (numbers c.required.items) dep (numbers after.required.items)
  pub still : (d : Directory) → held ≡ Some d → IsTrueOf d old.named → IsStill d dep

-- it can't stand, whatever is required after it, unless the record has more observations than a task can make
abbrev pub CantStand : Builder → Check → Type 0
CantStand new c =
    (dep : Dep) (after : List ℕ) → slice_get c.rec.deps c.at ≡ Some dep → c.at ≤ 1000000 → DepStands (beside new c.rec.writes) (numbers c.required.items) dep after
    → ⊥

-- there is one, and it can't stand; if it is of a task, that was entered
pub record DiffersHere (new : Builder) (c : Check) : Type 0 where
  pub inside : c.at < length c.rec.deps
  pub cant : CantStand new c
  pub entered : (dep : Dep) (t : Task) → slice_get c.rec.deps c.at ≡ Some dep → c.at ≤ 1000000 → dep.what ≡ Called t → Contains new.ledger.tables.names t

-- it is of this task, which wasn't entered
pub record NeedsNext (c : Check) (t : Task) : Type 0 where
  pub dep : Dep
  pub next : slice_get c.rec.deps c.at ≡ Some dep
  pub what : dep.what ≡ Called t

abbrev pub FindsHere : Option Directory → Builder → Builder → Check → Check → Place → Type 0
FindsHere held old new c after Over = Unit {0}
FindsHere held old new c after Stands = StandsNext held old new c after
FindsHere held old new c after Differs = DiffersHere new c
FindsHere held old new c after (Needs t) = NeedsNext c t

-- what is found is so, and what is known stays true
pub record Finds (held : Option Directory) (old new : Builder) (c after : Check) (p : Place) : Type 0 where
  pub known : (d : Directory) → held ≡ Some d → IsTrueOf d old.named → IsTrueOf d new.named
  pub here : FindsHere held old new c after p
