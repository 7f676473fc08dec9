-- Old records that are compared with what is there now.
use Rattle.std.specs.Prelude.{◌≡◌, ◌⊎◌, ◌&&◌, ℕ, Bool, true, false, List, Some}
use Rattle.pie_base.specs.Path.{is_source}
use Rattle.pie_value.specs.declared.stamp.Stamp.{Stamp}
use Rattle.pie_value.specs.declared.stamp.Stamp.TheVariants as stamps
use Rattle.pie_value.specs.Canonical.{enc_task}
use Rattle.pie_graph.specs.Rows.{Row}
use Rattle.pie_record.specs.declared.dep.Dep.{Dep}
use Rattle.pie_record.specs.declared.dep.DepKind.{DepKind}
use Rattle.pie_record.specs.declared.dep.DepKind.TheVariants as kinds
use Rattle.pie_record.specs.declared.dep.DepOn.{DepOn}
use Rattle.pie_record.specs.declared.dep.DepOn.TheVariants.{File, Called}
use Rattle.pie_record.specs.declared.task_record.TaskRecord.{TaskRecord}
use Rattle.pie_record.specs.Canonical.{IsStorable}
use Rattle.pie_files.specs.Directory.{Directory}
use Rattle.pie_tables.specs.declared.tables.Tables.{Tables}
use Rattle.pie_named.specs.declared.named.Named.{Named}
use Rattle.pie_named.specs.inner.Known.{known_stamp, known_differs}
use Rattle.pie_compare.specs.inner.Standing.{RecordStands}
use Rattle.pie_compare.specs.inner.Touching.{SomeOf, IsTouched}
use Rattle.pie_model.specs.Paths.{Path}
use Rattle.pie_model.specs.StampNow.{Told}
use Rattle.pie_model.specs.inner.Consistent.{Stands}
use Rattle.pie_model_pipeline.specs.Rows.{record_of}
use Rattle.pie_model_pipeline.specs.World.{world, next}
use Rattle.pie_builder_laws.specs.Tables.{recorded}
use Rattle.pie_earlier_laws.specs.Sources.{AreTested}
use Rattle.pie_earlier_laws.specs.Left.{NamedAreThere, AreThere}
use Rattle.pie_compare_laws.specs.Settled.{RestsOn, ArePresent}
use Rattle.pie_core_laws.specs.Update.{Update, IsUpdate, IsInformed, MetIn, earlier, present, old_record}

-- a record that can be stored is the one that the earlier build left of its task
pub record IsOld (u : Update) (rec : TaskRecord) : Type 0 where
  pub left : old_record u (enc_task rec.task) ≡ Some (record_of rec)
  pub storable : IsStorable rec

-- ---- what is known of it

-- an observation of a source is known to have another stamp now
abbrev pub on_known : Named → DepKind → DepOn → Stamp → Bool
on_known n kind (File path) stamp = is_source path && known_differs (known_stamp n kind path) stamp
on_known n kind (Called task) stamp = false

abbrev pub dep_known : Named → Dep → Bool
dep_known n dep = on_known n dep.kind dep.what dep.stamp

-- it is known of a written path that something else is there
abbrev pub write_known : Named → List ℕ × List ℕ → Bool
write_known n w = known_differs (known_stamp n kinds.ReadHash w.0) (stamps.Hash w.1)

-- of one of the observations or writes of a record it is known that it isn't as it was
abbrev pub IsKnownTouched : Named → TaskRecord → Type 0
IsKnownTouched n rec = SomeOf (λ dep. dep_known n dep ≡ true) rec.deps ⊎ SomeOf (λ w. write_known n w ≡ true) rec.writes

-- where a record was tested: if something that it observed or wrote isn't as it was, then of one such thing that is known
abbrev pub IsSearched : Directory → Named → TaskRecord → Type 0
IsSearched d n rec = IsTouched d n rec → IsKnownTouched n rec

-- ---- the laws

-- an old record that isn't touched has the stamps of all named sources, and what it wrote at named paths is there
abbrev pub UntouchedRecordsAreTested : Type 0
UntouchedRecordsAreTested =
    (u : Update) (n : Named) (rec : TaskRecord) → IsUpdate u → IsInformed u n → IsOld u rec → (IsTouched u.directory n rec → ⊥)
    → AreTested world (present u) u.names (record_of rec).observations × NamedAreThere world u.directory u.names rec.writes

-- an old record that stands, of a task that means the same now, was tested, and requires settled tasks alone, stands in the model:
-- so its task may be kept, and what it wrote is there
abbrev pub StandingRecordsStand : Type 0
StandingRecordsStand =
    (u : Update) (t : Tables) (rows : List Row) (n : Named) (settled : ℕ → Bool) (told : List (List ℕ) → Path → Told) (which : ℕ) (rec : TaskRecord)
    → IsUpdate u → IsInformed u n → ArePresent t.names t.records rows settled told → RestsOn t.names t.records rows settled which rec → IsOld u rec
    → next u.old_functions (enc_task rec.task) ≡ next u.functions (enc_task rec.task) → IsSearched u.directory n rec → RecordStands t rows n which
    → Stands world (earlier u) (present u) (MetIn u) (recorded t.names t.records) told (enc_task rec.task) (record_of rec)
    × AreThere world u.directory rec.writes
