-- Observations that have the stamps of now stand.
use Rattle.std.proofs.Common.{◌≡◌, ◌⊎◌, inl, inr, ℕ, Bool, true, Some, List, [], ◌∷◌, ◌++◌, map, IsTrue, refl, sym, subst}
use Rattle.std.specs.Prelude.{slice_get, Contains}
use Rattle.std.proofs.lemmas.List.{map-append}
use Rattle.std.proofs.lemmas.List.Elements.{Contains-append_left, Contains-append_right, All-contains}
use Rattle.pie_base.specs.Path.{is_source}
use Rattle.pie_value.specs.declared.stamp.Stamp.TheVariants as stamps
use Rattle.pie_value.specs.declared.task.Task.{Task}
use Rattle.pie_value.specs.declared.value.Value.{Value}
use Rattle.pie_value.specs.Values.{tree_of}
use Rattle.pie_value.specs.Canonical.{enc, enc_task, IsCanonical}
use Rattle.pie_graph.specs.Rows.{Row, row_at}
use Rattle.pie_record.specs.declared.dep.Dep.{Dep}
use Rattle.pie_record.specs.declared.dep.DepKind.TheVariants as kinds
use Rattle.pie_record.specs.declared.dep.DepOn.{DepOn}
use Rattle.pie_record.specs.declared.dep.DepOn.TheVariants.{File, Called}
use Rattle.pie_record.specs.declared.task_record.TaskRecord.{TaskRecord}
use Rattle.pie_record.specs.Kinds.{tag_of, allows}
use Rattle.pie_record.specs.Canonical.{IsStorableDep, IsStorableStamp, IsTrueDep, IsTrueStamp}
use Rattle.pie_parser.specs.FunctionTrees.{FunctionTree}
use Rattle.pie_files.specs.Directory.{Directory}
use Rattle.pie_tables.specs.declared.tables.Tables.{Tables}
use Rattle.pie_named.specs.declared.named.Named.{Named}
use Rattle.pie_named.specs.inner.Known.{IsTrueOf}
use Rattle.pie_compare.specs.inner.Standing.{OnStands, DepsStand}
use Rattle.pie_model.specs.Paths.{Path}
use Rattle.pie_model.specs.StampNow.{Told, by_records}
use Rattle.pie_model.specs.StampNow.{stamp_now, asked_before, StampsAgree, RecordAgrees}
use Rattle.pie_check_laws.proofs.Members.{none_in, here, there, here_or_there}
use Rattle.pie_model_pipeline.specs.Rows.{stamp_of, query_of, observation_of, record_of}
use Rattle.pie_model_pipeline.specs.World.{world, project}
use Rattle.pie_builder_laws.specs.Names.{called_on, called_in}
use Rattle.pie_builder_laws.specs.Tables.{recorded}
use Rattle.pie_builder_laws.specs.Views.{AreNumbersOf}
use Rattle.pie_compare_laws.specs.Settled.{RestsOn, ArePresent}
use Rattle.pie_compare_laws.specs.Agreeing.{IsPlainRow, OutputsAreCanonical}
use Rattle.pie_compare_laws.proofs.Ways.{number_of}
use Rattle.pie_compare_laws.proofs.Agreement.{asked_of_path, numbers_more, settled_more}
use Rattle.pie_compare_laws.proofs.Observed.{file_stands, called_stands}

module _ (fs : List FunctionTree) (d : Directory) (t : Tables) (rows : List Row) (n : Named) (settled : ℕ → Bool) (told : List (List ℕ) → Path → Told)
    (present : ArePresent t.names t.records rows settled told) (true_of : IsTrueOf d n) (outputs : OutputsAreCanonical t.records settled)
    (own : List (Path × List ℕ)) where
  -- what is known of each observation
  record IsPlainDep (dep : Dep) : Type 0 where
    allowed : IsTrue (allows dep.kind dep.what (tag_of dep.stamp))
    whole : (u : Value) → dep.stamp ≡ stamps.Whole u → IsCanonical (tree_of u) (enc (tree_of u))
    listed : (p : Path) → dep.what ≡ File p → dep.kind ≡ kinds.List → is_source p ≡ true
    ready : (u : Task) → Contains (called_on dep.what) u → (k : ℕ) × (slice_get t.names k ≡ Some u) × (settled k ≡ true)

  deps_stand : (deps : List Dep) (required : List ℕ) (us : List Task) → ((dep : Dep) → Contains deps dep → IsPlainDep dep)
      → AreNumbersOf t.names required us → ((k : ℕ) → Contains required k → settled k ≡ true)
      → StampsAgree world (project fs d) (by_records (recorded t.names t.records) told) own (map enc_task us) (map observation_of deps)
      → DepsStand (record { tables = t; rows = rows; known = n; own = own }) required deps
  deps_stand [] required us plain e all h = tt
  deps_stand (dep ∷ deps) required us plain e all h =
      by dep.what refl h.0 h.1 (λ after vs f g i. deps_stand deps after vs (λ x j. plain x (there dep x deps j)) f g i)
    where
      its : IsPlainDep dep
      its = plain dep (here dep deps)

      by : (what : DepOn) → dep.what ≡ what
          → stamp_now world (project fs d) (by_records (recorded t.names t.records) told) own (map enc_task us) (query_of dep.kind what)
          ≡ Some (stamp_of dep.stamp)
          → StampsAgree world (project fs d) (by_records (recorded t.names t.records) told) own (asked_before (map enc_task us) (query_of dep.kind what))
          (map observation_of deps)
          → ((after : List ℕ) (vs : List Task) → AreNumbersOf t.names after vs → ((k : ℕ) → Contains after k → settled k ≡ true)
          → StampsAgree world (project fs d) (by_records (recorded t.names t.records) told) own (map enc_task vs) (map observation_of deps)
          → DepsStand (record { tables = t; rows = rows; known = n; own = own }) after deps)
          → (after : List ℕ) × OnStands (record { tables = t; rows = rows; known = n; own = own }) required dep.kind what dep.stamp after
          × DepsStand (record { tables = t; rows = rows; known = n; own = own }) after deps
      by (File p) w g i go = (
        required,
        (
          file_stands fs d t rows n settled told present true_of required us e all own dep.kind p dep.stamp (subst (λ z. IsTrue (allows dep.kind z (tag_of dep.stamp))) w its.allowed)
              (its.listed p w) g,
          refl,
        ),
        go required us e all
            (subst (λ xs. StampsAgree world (project fs d) (by_records (recorded t.names t.records) told) own xs (map observation_of deps))
            (asked_of_path (map enc_task us) dep.kind p) i),
      )
      by (Called task) w g i go =
          let k = its.ready task (subst (λ z. Contains (called_on z) task) (sym w) (here task [])) in (
            required ++ k.0 ∷ [],
            (
              k.0,
              k.1,
              record {
                stamped = called_stands fs d t rows n settled told present true_of outputs dep.kind task k.0 dep.stamp k.2 k.1
                    (subst (λ z. IsTrue (allows dep.kind z (tag_of dep.stamp))) w its.allowed) its.whole g;
              },
              refl,
            ),
            go (required ++ k.0 ∷ []) (us ++ task ∷ []) (numbers_more (project fs d) t rows n settled told present required us k.0 task e k.1)
                (settled_more (project fs d) t rows n settled told present required k.0 all k.2)
                (subst (λ xs. StampsAgree world (project fs d) (by_records (recorded t.names t.records) told) own xs (map observation_of deps))
                (sym (map-append enc_task us (task ∷ []))) i),
          )

-- ---- a whole record

pub agreeing_stand : (fs : List FunctionTree) (d : Directory) (t : Tables) (rows : List Row) (n : Named) (settled : ℕ → Bool)
    (told : List (List ℕ) → Path → Told) (no : ℕ) (rec : TaskRecord) → ArePresent t.names t.records rows settled told
    → RestsOn t.names t.records rows settled no rec → IsTrueOf d n → IsPlainRow rec → OutputsAreCanonical t.records settled
    → RecordAgrees world (project fs d) (by_records (recorded t.names t.records) told) (record_of rec)
    → DepsStand (record { tables = t; rows = rows; known = n; own = rec.writes }) [] rec.deps
agreeing_stand fs d t rows n settled told number rec present rests known plain outputs h =
    deps_stand fs d t rows n settled told present known outputs rec.writes rec.deps [] [] each refl (λ k i. absurd (none_in k i)) h
  where
    its_stamp : (dep : Dep) → Contains rec.deps dep → (u : Value) → dep.stamp ≡ stamps.Whole u → IsCanonical (tree_of u) (enc (tree_of u))
    its_stamp dep i u e =
        let a = All-contains IsStorableDep rec.deps dep plain.storable.deps i in
        let b = All-contains IsTrueDep rec.deps dep plain.parts.deps i in
        record { encodable = subst IsStorableStamp e a.stamp; leaves = subst IsTrueStamp e b.1; bytes = refl }

    called_in_deps : (deps : List Dep) (dep : Dep) (v : Task) → Contains deps dep → Contains (called_on dep.what) v → Contains (called_in deps) v
    called_in_deps [] dep v i j = absurd (none_in dep i)
    called_in_deps (x ∷ deps) dep v i j = by (here_or_there x dep deps i) (λ k. called_in_deps deps dep v k j)
      where
        by : (x ≡ dep) ⊎ Contains deps dep → (Contains deps dep → Contains (called_in deps) v) → Contains (called_on x.what ++ called_in deps) v
        by (inl e) f =
            Contains-append_left (called_on x.what) (called_in deps) v (subst (λ (z : Dep). Contains (called_on z.what) v) (sym e) j)
        by (inr k) f = Contains-append_right (called_on x.what) (called_in deps) v (f k)

    each : (dep : Dep) → Contains rec.deps dep
        → IsPlainDep fs d t rows n settled told present known outputs rec.writes dep
    each dep i = record {
      allowed = (All-contains IsStorableDep rec.deps dep plain.storable.deps i).allowed;
      whole = its_stamp dep i;
      listed = λ p w k. plain.lists dep p i k w;
      ready = λ v j.
          let m = number_of t.names (row_at rows number).needs (called_in rec.deps) v rests.row.0 (called_in_deps rec.deps dep v i j) in
          (m.number, m.named, rests.ready m.number m.listed);
    }
