-- An old record that isn't touched was tested, and one that stands, stands in the model.
use Rattle.std.proofs.Common.{◌≡◌, not, ◌⊎◌, inl, inr, ℕ, ◌&&◌, Bool, true, false, List, [], ◌∷◌, All, refl, sym, ap, subst, ◌∙◌}
use Rattle.std.specs.Prelude.{Contains}
use Rattle.std.proofs.lemmas.List.Elements.{All-contains}
use Rattle.pie_base.specs.Path.{is_out, is_source, is_kept}
use Rattle.pie_value.specs.declared.stamp.Stamp.{Stamp}
use Rattle.pie_value.specs.Canonical.{enc_task}
use Rattle.pie_graph.specs.Rows.{Row}
use Rattle.pie_record.specs.declared.dep.Dep.{Dep}
use Rattle.pie_record.specs.declared.dep.DepKind.{DepKind}
use Rattle.pie_record.specs.declared.dep.DepOn.{DepOn}
use Rattle.pie_record.specs.declared.dep.DepOn.TheVariants.{File, Called}
use Rattle.pie_record.specs.declared.task_record.TaskRecord.{TaskRecord}
use Rattle.pie_tables.specs.declared.tables.Tables.{Tables}
use Rattle.pie_named.specs.declared.named.Named.{Named}
use Rattle.pie_named.specs.inner.Known.{known_stamp, known_differs}
use Rattle.pie_compare.specs.inner.Standing.{Around, OnStands, DepStands, DepsStand, WriteStands, RecordStands}
use Rattle.pie_compare.specs.inner.Touching.{dep_differs, write_differs, IsTouched}
use Rattle.pie_model.specs.Paths.{Path}
use Rattle.pie_model.specs.Records.{Record}
use Rattle.pie_model.specs.StampNow.{Told}
use Rattle.pie_model.specs.inner.Consistent.{Stands}
use Rattle.pie_model.specs.inner.Still.{SourcesStill}
use Rattle.pie_model.proofs.Basics.{clash}
use Rattle.pie_check_laws.proofs.Members.{none_in, here_or_there}
use Rattle.pie_model_pipeline.specs.Rows.{record_of}
use Rattle.pie_model_pipeline.specs.World.{world, next}
use Rattle.pie_builder_laws.specs.Tables.{recorded}
use Rattle.pie_earlier_laws.specs.Sources.{AreTested}
use Rattle.pie_earlier_laws.specs.Left.{NamedAreThere, AreThere}
use Rattle.pie_earlier_laws.proofs.Unnamed.{ListSources, record_lists, sources_still}
use Rattle.pie_earlier_laws.proofs.OldRows.{old_row}
use Rattle.pie_earlier_laws.proofs.Beginning.{live_met}
use Rattle.pie_earlier_laws.proofs.Leaving.{old_writes_there}
use Rattle.pie_earlier_laws.proofs.Pipelines.{manners_of, write_once, sources_agree}
use Rattle.pie_compare_laws.specs.Settled.{RestsOn, ArePresent}
use Rattle.pie_compare_laws.proofs.Ways.{one_some}
use Rattle.pie_compare_laws.proofs.Agreement.{standing_agree}
use Rattle.pie_core_laws.specs.Update.{Update, IsUpdate, IsInformed, MetIn, earlier, present}
use Rattle.pie_core_laws.specs.Comparing.{IsOld, on_known, IsKnownTouched, IsSearched}
use Rattle.pie_core_laws.proofs.Sources.{all_tested, named_there}

false_unless : (b : Bool) → (b ≡ true → ⊥) → b ≡ false
false_unless true h = absurd (h refl)
false_unless false h = refl

-- the listings of an old record are of sources
pub old_lists : (u : Update) (rec : TaskRecord) → IsUpdate u → IsOld u rec → ListSources (record_of rec).observations
old_lists u rec U O =
    let q = old_row world (earlier u) u.old_roots U.build.accepted (enc_task rec.task) (record_of rec) O.left in
    subst (λ (z : Record). ListSources z.observations) (sym q.was)
    (record_lists world (earlier u) (enc_task rec.task) ((manners_of u.old_functions u.built).lists (enc_task rec.task)))

pub untouched_tested : (u : Update) (n : Named) (rec : TaskRecord) → IsUpdate u → IsInformed u n → IsOld u rec → (IsTouched u.directory n rec → ⊥)
    → AreTested world (present u) u.names (record_of rec).observations × NamedAreThere world u.directory u.names rec.writes
untouched_tested u n rec U I O h = (
  all_tested u.functions u.directory u.names n I.names I.above rec.deps O.storable.deps
      (λ dep i. false_unless (dep_differs u.directory n dep) (λ e. h (inl (dep, i, e)))) (old_lists u rec U O),
  named_there u.functions u.directory u.names n I.names I.above rec.writes
      (λ w i. false_unless (write_differs u.directory n w.0 w.1) (λ e. h (inr (w, i, e)))),
)

-- ---- what stands isn't known to be touched

-- an observation among those that stand, stands after some
record StandsSomewhere (a : Around) (dep : Dep) : Type 0 where
  required : List ℕ
  after : List ℕ
  stands : DepStands a required dep after

each_stands : (a : Around) (deps : List Dep) (required : List ℕ) → DepsStand a required deps → (dep : Dep) → Contains deps dep → StandsSomewhere a dep
each_stands a [] required h dep i = absurd (none_in dep i)
each_stands a (x ∷ deps) required h dep i = by (here_or_there x dep deps i) (each_stands a deps h.0 h.2 dep)
  where
    by : (x ≡ dep) ⊎ Contains deps dep → (Contains deps dep → StandsSomewhere a dep) → StandsSomewhere a dep
    by (inl e) f = subst (StandsSomewhere a) e (record { required = required; after = h.0; stands = h.1 })
    by (inr j) f = f j

source_not_out : (p : Path) → is_source p ≡ true → is_out p ≡ false
source_not_out p h = by (is_out p) refl
  where
    by : (t : Bool) → is_out p ≡ t → t ≡ false
    by true e = clash (is_source p) h (ap (λ b. not b && not (is_kept p)) e)
    by false e = refl

left_true : (a b : Bool) → a && b ≡ true → a ≡ true
left_true true b h = refl
left_true false b h = cc

right_true : (a b : Bool) → a && b ≡ true → b ≡ true
right_true true b h = h
right_true false b h = cc

on_unknown : (a : Around) (required after : List ℕ) (kind : DepKind) (what : DepOn) (s : Stamp) → OnStands a required kind what s after
    → on_known a.known kind what s ≡ true → ⊥
on_unknown a required after kind (File p) s h k =
    let source : is_source p ≡ true = left_true (is_source p) (known_differs (known_stamp a.known kind p) s) k in
    apart (sym (right_true (is_source p) (known_differs (known_stamp a.known kind p) s) k) ∙ (h.0.other (source_not_out p source)).source source)
  where
    apart : true ≡ false → ⊥
    apart e = cc
on_unknown a required after kind (Called t) s h k = cc

not_known : (t : Tables) (rows : List Row) (n : Named) (rec : TaskRecord)
    → DepsStand (record { tables = t; rows = rows; known = n; own = rec.writes }) [] rec.deps → All (WriteStands n) rec.writes → IsKnownTouched n rec → ⊥
not_known t rows n rec h w (inl k) =
    let q = each_stands (record { tables = t; rows = rows; known = n; own = rec.writes }) rec.deps [] h k.0 k.1 in
    on_unknown (record { tables = t; rows = rows; known = n; own = rec.writes }) q.required q.after k.0.kind k.0.what k.0.stamp q.stands k.2
not_known t rows n rec h w (inr k) = apart (sym k.2 ∙ All-contains (WriteStands n) rec.writes k.0 w k.1)
  where
    apart : true ≡ false → ⊥
    apart e = cc

pub stands_now : (u : Update) (t : Tables) (rows : List Row) (n : Named) (settled : ℕ → Bool) (told : List (List ℕ) → Path → Told) (which : ℕ)
    (rec : TaskRecord) → IsUpdate u → IsInformed u n → ArePresent t.names t.records rows settled told → RestsOn t.names t.records rows settled which rec
    → IsOld u rec → next u.old_functions (enc_task rec.task) ≡ next u.functions (enc_task rec.task) → IsSearched u.directory n rec
    → RecordStands t rows n which
    → Stands world (earlier u) (present u) (MetIn u) (recorded t.names t.records) told (enc_task rec.task) (record_of rec)
    × AreThere world u.directory rec.writes
stands_now u t rows n settled told which rec U I A r O m S h =
    let same : h.0 ≡ rec = one_some h.0 rec (sym h.1 ∙ r.kept) in
    let deps : DepsStand (record { tables = t; rows = rows; known = n; own = rec.writes }) [] rec.deps =
    subst (λ (z : TaskRecord). DepsStand (record { tables = t; rows = rows; known = n; own = z.writes }) [] z.deps) same h.2.deps in
    let writes : All (WriteStands n) rec.writes = subst (λ (z : TaskRecord). All (WriteStands n) z.writes) same h.2.writes in
    let tested = untouched_tested u n rec U I O (λ touched. not_known t rows n rec deps writes (S touched)) in
    let q = old_row world (earlier u) u.old_roots U.build.accepted (enc_task rec.task) (record_of rec) O.left in
    let manners = manners_of u.old_functions u.built in (
      record {
        was = q.was;
        done = q.done;
        met = live_met world (earlier u) (present u) u.old_roots u.roots u.besides manners U.build.accepted (enc_task rec.task) q.live;
        meaning = m;
        agrees = standing_agree (present u) t rows n settled told which rec A r
            (subst (λ (z : Record). SourcesStill world (present u) z.observations) (sym q.was)
            (sources_still world (earlier u) (present u) u.names (enc_task rec.task) (manners.writes (enc_task rec.task)) (manners.lists (enc_task rec.task))
            q.done (sources_agree u.old_functions u.functions u.built u.left u.directory u.old_roots u.names U.build U.changes)
            (subst (λ (z : Record). AreTested world (present u) u.names z.observations) q.was tested.0)))
            deps;
      },
      old_writes_there world (earlier u) u.old_roots u.left u.directory u.names (enc_task rec.task) (record_of rec)
          (write_once u.old_functions u.built) U.build U.changes O.left tested.1,
    )
