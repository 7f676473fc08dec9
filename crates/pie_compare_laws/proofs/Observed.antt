-- An observation that has the stamp of now, as right records tell it, stands beside them.
use Rattle.std.proofs.Common.{◌≡◌, not, ◌&&◌, ℕ, Bool, true, false, cond, Option, Some, None, List, [], ◌∷◌, ◌++◌, map, IsTrue, refl, sym, ap, subst, ◌∙◌}
use Rattle.std.specs.Prelude.{slice_get, option_map, Contains}
use Rattle.sha2.specs.Sha256.{sha256}
use Rattle.pie_base.specs.Path.{is_out, is_source, is_kept}
use Rattle.pie_value.specs.declared.stamp.Stamp.{Stamp}
use Rattle.pie_value.specs.declared.stamp.Stamp.TheVariants as stamps
use Rattle.pie_value.specs.declared.task.Task.{Task}
use Rattle.pie_value.specs.declared.value.Value.{Value}
use Rattle.pie_value.specs.Values.{tree_of}
use Rattle.pie_value.specs.Canonical.{enc, enc_task, IsCanonical}
use Rattle.pie_graph.specs.declared.edges.TaskNo.{TaskNo}
use Rattle.pie_graph.specs.Rows.{Row}
use Rattle.pie_record.specs.declared.dep.Dep.{Dep}
use Rattle.pie_record.specs.declared.dep.DepKind.{DepKind}
use Rattle.pie_record.specs.declared.dep.DepKind.TheVariants as kinds
use Rattle.pie_record.specs.declared.dep.DepOn.{DepOn}
use Rattle.pie_record.specs.declared.dep.DepOn.TheVariants.{File, Called}
use Rattle.pie_record.specs.declared.task_record.Outcome.{Outcome}
use Rattle.pie_record.specs.declared.task_record.Outcome.TheVariants.{Done, Failed, Cycled}
use Rattle.pie_record.specs.declared.task_record.TaskRecord.{TaskRecord}
use Rattle.pie_record.specs.Kinds.{calls, tag_of, allows}
use Rattle.pie_record.specs.inner.Records.{record_of as kept_of}
use Rattle.pie_parser.specs.FunctionTrees.{FunctionTree}
use Rattle.pie_files.specs.Directory.{Directory, file_at}
use Rattle.pie_tables.specs.declared.tables.Tables.{Tables}
use Rattle.pie_named.specs.declared.named.Named.{Named}
use Rattle.pie_named.specs.inner.Stamped.{stamp_in, differs_from}
use Rattle.pie_named.specs.inner.Known.{IsTrueOf}
use Rattle.pie_view.specs.declared.seen.Seen.{Seen as RowsSeen}
use Rattle.pie_view.specs.declared.seen.Seen.TheVariants.{Absent, By, Clash}
use Rattle.pie_view.specs.Seen.{Visible, IsOnly}
use Rattle.pie_compare.specs.inner.Standing.{hash_in, is_of_file, out_stamp, SeenStands, OutStands, FileStands}
use Rattle.pie_compare.specs.inner.Standing.{output_of, output_in, called_stamp, OnStands, DepStands}
use Rattle.pie_model.specs.declared.words.Kind.{Kind}
use Rattle.pie_model.specs.declared.words.Kind.TheVariants.{Out, Kept, Source}
use Rattle.pie_model.specs.declared.words.Look.{Look}
use Rattle.pie_model.specs.declared.words.Look.TheVariants as looks
use Rattle.pie_model.specs.Paths.{Path, kind_of}
use Rattle.pie_model.specs.Seen.{first_write, seen_file}
use Rattle.pie_model.specs.Records as records
use Rattle.pie_model.specs.Records.{look_stamp}
use Rattle.pie_model.specs.StampNow.{Told, Untold, ToldHash, ToldClash, by_records, hash_stamp, told_stamp, own_told, look_now}
use Rattle.pie_model.specs.StampNow.{recorded_outcome, outcome_now, stamp_now}
use Rattle.pie_model.specs.inner.Present.{WroteByRecords, IsTold}
use Rattle.pie_model.proofs.Basics.{clash}
use Rattle.pie_model_pipeline.specs.Rows.{stamp_of, asked_of, how_by, query_of, record_of, outcome_of}
use Rattle.pie_model_pipeline.specs.World.{world, project}
use Rattle.pie_model_pipeline.proofs.Joining.{tasks_told}
use Rattle.pie_builder_laws.specs.Tables.{recorded}
use Rattle.pie_builder_laws.specs.Views.{AreNumbersOf}
use Rattle.pie_builder_laws.proofs.Naming.{one_place, canonical_at}
use Rattle.pie_builder_laws.proofs.Tabled.{record_by_number}
use Rattle.pie_builder_laws.proofs.KindLemmas.{kinds_same}
use Rattle.pie_compare_laws.specs.Settled.{ArePresent}
use Rattle.pie_compare_laws.specs.Agreeing.{OutputsAreCanonical}
use Rattle.pie_compare_laws.proofs.Ways.{one_some, first_is, hash_told, seen_told, wrote_by, seen_of}
use Rattle.pie_compare_laws.proofs.Agreement.{told_hash_stamp, each_recorded}
use Rattle.pie_compare_laws.proofs.Stamped.{absent_back, hash_back, success_back, whole_back, out_back, there_same, read_same, digest_same, marked_same, listed_same, known_same, no_some}

module _ (fs : List FunctionTree) (d : Directory) (t : Tables) (rows : List Row) (n : Named) (settled : ℕ → Bool) (told : List (List ℕ) → Path → Told)
    (present : ArePresent t.names t.records rows settled told) (true_of : IsTrueOf d n) where
  -- ---- files

  -- what is seen where this is told
  record SeenAs (required : List ℕ) (p : Path) (what : Told) : Type 0 where
    seen : RowsSeen
    only : IsOnly (Visible rows required p) seen
    same : what ≡ seen_told t.records p seen

  module _ (required : List ℕ) (us : List Task) (e : AreNumbersOf t.names required us)
      (all : (k : ℕ) → Contains required k → settled k ≡ true) where
    seen_as : (p : Path) (what : Told) → IsTold (WroteByRecords (recorded t.names t.records) (map enc_task us) p) what → SeenAs required p what
    seen_as p Untold h = record {
      seen = Absent;
      only = λ k v.
          let w = wrote_by t.names t.records rows settled present.tasks present.settled_rows required us e all p k v in
          h (enc_task w.task) w.hash w.wrote;
      same = refl;
    }
    seen_as p (ToldHash x) h =
        let v = seen_of t.names t.records rows settled present.tasks present.settled_rows required us e all p h.writer x h.wrote in
        let no : TaskNo = record { 0 = v.number } in
        record {
          seen = By no;
          only = (
            v.visible,
            λ k i.
                let w = wrote_by t.names t.records rows settled present.tasks present.settled_rows required us e all p k i in
                let same : w.task ≡ v.task =
                tasks_told w.task v.task (canonical_at t.names present.tasks k w.task w.named) (canonical_at t.names present.tasks v.number v.task v.named)
                ((h.only (enc_task w.task) w.hash w.wrote).0 ∙ v.bytes) in
                one_place t.names present.tasks k v.number v.task (w.named ∙ ap Some same) v.named,
          );
          same = ap hash_told (sym v.first);
        }
    seen_as p ToldClash h =
        let v = seen_of t.names t.records rows settled present.tasks present.settled_rows required us e all p h.first h.first_hash h.first_wrote in
        let w = seen_of t.names t.records rows settled present.tasks present.settled_rows required us e all p h.second h.second_hash h.second_wrote in
        record {
          seen = Clash;
          only = (
            v.number,
            w.number,
            v.visible,
            w.visible,
            λ i.
                let same : v.task ≡ w.task = one_some v.task w.task (sym v.named ∙ ap (slice_get t.names) i ∙ w.named) in
                h.distinct (v.bytes ∙ ap enc_task same ∙ sym w.bytes),
          );
          same = refl;
        }

    seen_stands : (kind : DepKind) (l : Look) → ((h : List ℕ) → stamp_of (out_stamp kind (Some h)) ≡ hash_stamp h l) → (p : Path) (s : Stamp)
        (seen : RowsSeen) → told_stamp l (seen_told t.records p seen) ≡ Some (stamp_of s) → SeenStands t kind p s seen
    seen_stands kind l f p s Absent h =
        out_back kind None s (one_some (stamp_of (out_stamp kind None)) (stamp_of s) (sym (told_hash_stamp kind l f None) ∙ h))
    seen_stands kind l f p s (By one) h =
        let o = hash_in (kept_of t.records one.0) p in
        out_back kind o s (one_some (stamp_of (out_stamp kind o)) (stamp_of s) (sym (told_hash_stamp kind l f o) ∙ h))
    seen_stands kind l f p s Clash h = absurd (no_some h)

    out_stands : (own : List (Path × List ℕ)) (kind : DepKind) (l : Look) → is_of_file kind ≡ true
        → ((h : List ℕ) → stamp_of (out_stamp kind (Some h)) ≡ hash_stamp h l) → (p : Path) (s : Stamp)
        → told_stamp l (own_told (first_write p own) (told (map enc_task us) p)) ≡ Some (stamp_of s)
        → OutStands (record { tables = t; rows = rows; known = n; own = own }) required kind p s
    out_stands own kind l file f p s h = record {
      file = file;
      own = λ x i.
          out_back kind (Some x) s
          (one_some (stamp_of (out_stamp kind (Some x))) (stamp_of s)
          (sym (told_hash_stamp kind l f (Some x))
          ∙ ap (λ o. told_stamp l (own_told o (told (map enc_task us) p))) (sym (first_is own p ∙ i)) ∙ h));
      others = λ i.
          let q = seen_as p (told (map enc_task us) p)
          (present.telling (map enc_task us) p (each_recorded (project fs d) t rows n settled told present required us e all)) in (
            q.seen,
            q.only,
            seen_stands kind l f p s q.seen
                (ap (told_stamp l) (sym q.same) ∙ ap (λ o. told_stamp l (own_told o (told (map enc_task us) p))) (sym (first_is own p ∙ i)) ∙ h),
          );
    }

    look_stands : (own : List (Path × List ℕ)) (kind : DepKind) (l : Look) → calls kind ≡ false → is_of_file kind ≡ true
        → ((h : List ℕ) → stamp_of (out_stamp kind (Some h)) ≡ hash_stamp h l) → (p : Path) (s : Stamp)
        → (kind_of p ≡ Source → is_source p ≡ true → look_stamp world l p (seen_file (file_at d p)) ≡ stamp_of s → differs_from (stamp_in d kind p) s ≡ false)
        → look_now world (project fs d) (by_records (recorded t.names t.records) told) own (map enc_task us) l p (kind_of p) ≡ Some (stamp_of s)
        → FileStands (record { tables = t; rows = rows; known = n; own = own }) required kind p s
    look_stands own kind l looked file f p s source h = record {
      looks = looked;
      out = λ i. out_stands own kind l file f p s (now_at Out (kinded true (is_source p) i refl));
      other = λ i. record {
        source = λ j.
            let k = kinded false true i j in
            known_same d n kind p s true_of
            (source k j (one_some (look_stamp world l p (seen_file (file_at d p))) (stamp_of s) (now_at Source k)));
        reserved = λ j. absent_back s (one_some records.Absent (stamp_of s) (now_at Kept (kinded false false i j)));
      };
    }
      where
        kinded : (a b : Bool) → is_out p ≡ a → is_source p ≡ b → kind_of p ≡ cond a Out (cond b Source Kept)
        kinded a b i j = kinds_same p ∙ ap (λ z. cond z Out (cond (is_source p) Source Kept)) i ∙ ap (λ z. cond a Out (cond z Source Kept)) j

        now_at : (k : Kind) → kind_of p ≡ k
            → look_now world (project fs d) (by_records (recorded t.names t.records) told) own (map enc_task us) l p k ≡ Some (stamp_of s)
        now_at k i =
            ap (λ z. look_now world (project fs d) (by_records (recorded t.names t.records) told) own (map enc_task us) l p z) (sym i) ∙ h

    source_not_out : (p : Path) → is_source p ≡ true → is_out p ≡ false
    source_not_out p h = by (is_out p) refl
      where
        by : (b : Bool) → is_out p ≡ b → b ≡ false
        by true i = clash (is_source p) h (ap (λ b. not b && not (is_kept p)) i)
        by false i = refl

    pub file_stands : (own : List (Path × List ℕ)) (kind : DepKind) (p : Path) (s : Stamp) → IsTrue (allows kind (File p) (tag_of s))
        → (kind ≡ kinds.List → is_source p ≡ true)
        → stamp_now world (project fs d) (by_records (recorded t.names t.records) told) own (map enc_task us) (asked_of kind p) ≡ Some (stamp_of s)
        → FileStands (record { tables = t; rows = rows; known = n; own = own }) required kind p s
    file_stands own kinds.Exists p s a l h =
        look_stands own kinds.Exists looks.Exists refl refl (λ x. refl) p s (λ k j i. there_same p (file_at d p) s i) h
    file_stands own kinds.ReadHash p s a l h =
        look_stands own kinds.ReadHash looks.ByHash refl refl (λ x. refl) p s (λ k j i. read_same p (file_at d p) s i) h
    file_stands own kinds.ReadMark p s a l h =
        look_stands own kinds.ReadMark looks.ByMark refl refl (λ x. refl) p s (λ k j i. marked_same p (file_at d p) s k i) h
    file_stands own kinds.Digest p s a l h =
        look_stands own kinds.Digest looks.Digest refl refl (λ x. refl) p s (λ k j i. digest_same p (file_at d p) s i) h
    file_stands own kinds.List p s a l h = record {
      looks = refl;
      out = λ i. clash (is_out p) i (source_not_out p (l refl));
      other = λ i. record {
        source = λ j. known_same d n kinds.List p s true_of (listed_same fs d p s h);
        reserved = λ j. clash (is_source p) (l refl) j;
      };
    }
    file_stands own kinds.Require p s a l h = cc
    file_stands own kinds.RequireHash p s a l h = cc
    file_stands own kinds.Run p s a l h = cc

  -- ---- required tasks

  output_stands : (kind : DepKind) (task : Task) (v : Value) (s : Stamp) → IsTrue (allows kind (Called task) (tag_of s)) → IsCanonical (tree_of v) (enc (tree_of v))
      → ((u : Value) → s ≡ stamps.Whole u → IsCanonical (tree_of u) (enc (tree_of u)))
      → outcome_now world (how_by kind) (outcome_of (Done v)) ≡ Some (stamp_of s) → called_stamp kind (Some v) ≡ Some s
  unfolding world
  output_stands kinds.Require task v s a k l h =
      ap Some (sym (whole_back v s k l (one_some (records.WholeValue (enc (tree_of v))) (stamp_of s) h)))
  output_stands kinds.RequireHash task v s a k l h =
      ap Some (sym (hash_back (sha256 (enc (tree_of v))) s (one_some (records.Hash (sha256 (enc (tree_of v)))) (stamp_of s) h)))
  output_stands kinds.Run task v s a k l h = ap Some (sym (success_back s (one_some records.Success (stamp_of s) h)))
  output_stands kinds.Exists task v s a k l h = cc
  output_stands kinds.ReadHash task v s a k l h = cc
  output_stands kinds.ReadMark task v s a k l h = cc
  output_stands kinds.Digest task v s a k l h = cc
  output_stands kinds.List task v s a k l h = cc

  pub called_stands : OutputsAreCanonical t.records settled → (kind : DepKind) (task : Task) (k : ℕ) (s : Stamp) → settled k ≡ true
      → slice_get t.names k ≡ Some task → IsTrue (allows kind (Called task) (tag_of s))
      → ((u : Value) → s ≡ stamps.Whole u → IsCanonical (tree_of u) (enc (tree_of u)))
      → outcome_now world (how_by kind) (recorded_outcome (recorded t.names t.records (enc_task task))) ≡ Some (stamp_of s)
      → called_stamp kind (output_in (kept_of t.records k)) ≡ Some s
  called_stands outputs kind task k s settles at a l h =
      by (kept_of t.records k) refl
      (ap (λ o. outcome_now world (how_by kind) (recorded_outcome o)) (sym (record_by_number t.names t.records k task present.tasks at)) ∙ h)
    where
      ended : (rec : TaskRecord) → kept_of t.records k ≡ Some rec → (o : Outcome) → rec.outcome ≡ o
          → outcome_now world (how_by kind) (outcome_of o) ≡ Some (stamp_of s) → called_stamp kind (output_of o) ≡ Some s
      ended rec i (Done v) j g = output_stands kind task v s a (outputs k rec v settles i j) l g
      ended rec i (Failed f) j g = absurd (no_some g)
      ended rec i (Cycled ts) j g = absurd (no_some g)

      by : (o : Option TaskRecord) → kept_of t.records k ≡ o
          → outcome_now world (how_by kind) (recorded_outcome (option_map record_of o)) ≡ Some (stamp_of s) → called_stamp kind (output_in o) ≡ Some s
      by None i g = absurd (no_some g)
      by (Some rec) i g = ended rec i rec.outcome refl g

  -- ---- the next one

  -- what is known of an observation
  pub record IsPlainDep (dep : Dep) : Type 0 where
    pub allowed : IsTrue (allows dep.kind dep.what (tag_of dep.stamp))
    pub whole : (u : Value) → dep.stamp ≡ stamps.Whole u → IsCanonical (tree_of u) (enc (tree_of u))
    pub listed : (p : Path) → dep.what ≡ File p → dep.kind ≡ kinds.List → is_source p ≡ true
    pub ready : (u : Task) → dep.what ≡ Called u → (k : ℕ) × (slice_get t.names k ≡ Some u) × (settled k ≡ true)

  -- after some, it stands where it has the stamp of now
  pub dep_stands : OutputsAreCanonical t.records settled → (own : List (Path × List ℕ)) (dep : Dep) (required : List ℕ) (us : List Task) → IsPlainDep dep
      → AreNumbersOf t.names required us → ((k : ℕ) → Contains required k → settled k ≡ true)
      → stamp_now world (project fs d) (by_records (recorded t.names t.records) told) own (map enc_task us) (query_of dep.kind dep.what)
      ≡ Some (stamp_of dep.stamp)
      → (after : List ℕ) × DepStands (record { tables = t; rows = rows; known = n; own = own }) required dep after
  dep_stands outputs own dep required us its e all h = by dep.what refl h
    where
      by : (what : DepOn) → dep.what ≡ what
          → stamp_now world (project fs d) (by_records (recorded t.names t.records) told) own (map enc_task us) (query_of dep.kind what)
          ≡ Some (stamp_of dep.stamp)
          → (after : List ℕ) × OnStands (record { tables = t; rows = rows; known = n; own = own }) required dep.kind what dep.stamp after
      by (File p) w g = (
        required,
        (file_stands required us e all own dep.kind p dep.stamp (subst (λ z. IsTrue (allows dep.kind z (tag_of dep.stamp))) w its.allowed) (its.listed p w) g, refl),
      )
      by (Called task) w g =
          let k = its.ready task w in (
            required ++ k.0 ∷ [],
            (
              k.0,
              k.1,
              record {
                stamped = called_stands outputs dep.kind task k.0 dep.stamp k.2 k.1
                    (subst (λ z. IsTrue (allows dep.kind z (tag_of dep.stamp))) w its.allowed) its.whole g;
              },
              refl,
            ),
          )
