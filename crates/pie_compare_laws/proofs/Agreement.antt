-- Observations that stand have the stamps that they would get now.
use Rattle.std.proofs.Common.{◌≡◌, ◌⊎◌, inl, inr, ℕ, Bool, true, false, cond, Option, Some, None, List, [], ◌∷◌, ◌++◌, map, refl, sym, ap, subst, ◌∙◌}
use Rattle.std.specs.Prelude.{slice_get, option_map, Contains}
use Rattle.std.proofs.lemmas.List.{map-append}
use Rattle.std.proofs.lemmas.List.Elements.{Contains-append_left, Contains-append_right, Contains-push_cases}
use Rattle.sha2.specs.Sha256.{sha256}
use Rattle.pie_base.specs.Path.{is_out, is_source}
use Rattle.pie_value.specs.declared.stamp.Stamp.{Stamp}
use Rattle.pie_value.specs.declared.stamp.Stamp.TheVariants as stamps
use Rattle.pie_value.specs.declared.task.Task.{Task}
use Rattle.pie_value.specs.declared.value.Value.{Value}
use Rattle.pie_value.specs.Values.{tree_of}
use Rattle.pie_value.specs.Canonical.{enc, enc_task}
use Rattle.pie_graph.specs.Rows.{Row, row_at}
use Rattle.pie_record.specs.declared.dep.Dep.{Dep}
use Rattle.pie_record.specs.declared.dep.DepKind.{DepKind}
use Rattle.pie_record.specs.declared.dep.DepKind.TheVariants as kinds
use Rattle.pie_record.specs.declared.dep.DepOn.{DepOn}
use Rattle.pie_record.specs.declared.dep.DepOn.TheVariants.{File, Called}
use Rattle.pie_record.specs.declared.task_record.Outcome.{Outcome}
use Rattle.pie_record.specs.declared.task_record.Outcome.TheVariants.{Done, Failed, Cycled}
use Rattle.pie_record.specs.declared.task_record.TaskRecord.{TaskRecord}
use Rattle.pie_record.specs.inner.Records.{record_of as kept_of}
use Rattle.pie_tables.specs.declared.tables.Tables.{Tables}
use Rattle.pie_named.specs.declared.named.Named.{Named}
use Rattle.pie_view.specs.declared.seen.Seen.{Seen as RowsSeen}
use Rattle.pie_view.specs.declared.seen.Seen.TheVariants.{Absent, By, Clash}
use Rattle.pie_view.specs.Seen.{Visible, IsOnly}
use Rattle.pie_compare.specs.inner.Standing.{write_at, hash_in, out_stamp, SeenStands, OutStands, FileStands}
use Rattle.pie_compare.specs.inner.Standing.{output_of, output_in, called_stamp, OnStands, DepsStand}
use Rattle.pie_model.specs.declared.words.Kind.{Kind}
use Rattle.pie_model.specs.declared.words.Kind.TheVariants.{Out, Kept, Source}
use Rattle.pie_model.specs.declared.words.Look.{Look}
use Rattle.pie_model.specs.declared.words.Look.TheVariants as looks
use Rattle.pie_model.specs.Paths.{Path, among, kind_of}
use Rattle.pie_model.specs.Seen.{first_write, seen_file}
use Rattle.pie_model.specs.Evaluation.{Project}
use Rattle.pie_model.specs.Records.{Absent as ModelAbsent, Record, look_stamp}
use Rattle.pie_model.specs.StampNow.{Told, by_records, hash_stamp, told_stamp, own_told, look_now, recorded_outcome}
use Rattle.pie_model.specs.StampNow.{outcome_now, stamp_now, asked_before, StampsAgree, RecordAgrees}
use Rattle.pie_model.specs.inner.Present.{WroteByRecords}
use Rattle.pie_model.specs.inner.Consistent.{IsRecorded}
use Rattle.pie_model.specs.inner.Still.{SourceStampStill, SourcesStill}
use Rattle.pie_model.proofs.Views.{told_once}
use Rattle.pie_check_laws.proofs.Members.{none_in, here}
use Rattle.pie_model_pipeline.specs.Rows.{stamp_of, asked_of, how_by, query_of, observation_of, record_of, outcome_of}
use Rattle.pie_model_pipeline.specs.World.{world}
use Rattle.pie_builder_laws.specs.Names.{called_on, called_in}
use Rattle.pie_builder_laws.specs.Tables.{recorded}
use Rattle.pie_builder_laws.specs.Views.{AreNumbersOf}
use Rattle.pie_builder_laws.proofs.Naming.{among_from, one_place, placed}
use Rattle.pie_builder_laws.proofs.Tabled.{record_by_number}
use Rattle.pie_builder_laws.proofs.KindLemmas.{kinds_same}
use Rattle.pie_compare_laws.specs.Settled.{RestsOn, ArePresent}
use Rattle.pie_compare_laws.proofs.Ways.{one_some, number_of, first_is, hash_told, seen_told, settled_recorded, is_told}

no_some : {X : Type 0} {x : X} → None ≡ Some x → ⊥
no_some h = cc

-- the tasks required before the next query
pub asked_of_path : (before : List (List ℕ)) (k : DepKind) (p : Path) → asked_before before (asked_of k p) ≡ before
asked_of_path before kinds.Exists p = refl
asked_of_path before kinds.ReadHash p = refl
asked_of_path before kinds.ReadMark p = refl
asked_of_path before kinds.Digest p = refl
asked_of_path before kinds.List p = refl
asked_of_path before kinds.Require p = refl
asked_of_path before kinds.RequireHash p = refl
asked_of_path before kinds.Run p = refl

-- the stamp of a file under `out` is one thing in the program and in the model
pub told_hash_stamp : (kind : DepKind) (l : Look) → ((h : List ℕ) → stamp_of (out_stamp kind (Some h)) ≡ hash_stamp h l) → (o : Option (List ℕ))
    → told_stamp l (hash_told o) ≡ Some (stamp_of (out_stamp kind o))
told_hash_stamp kind l e None = by kind
  where
    by : (k : DepKind) → Some ModelAbsent ≡ Some (stamp_of (out_stamp k None))
    by kinds.Exists = refl
    by kinds.ReadHash = refl
    by kinds.ReadMark = refl
    by kinds.Digest = refl
    by kinds.List = refl
    by kinds.Require = refl
    by kinds.RequireHash = refl
    by kinds.Run = refl
told_hash_stamp kind l e (Some h) = ap Some (sym (e h))

module _ (P : Project) (t : Tables) (rows : List Row) (n : Named) (settled : ℕ → Bool) (told : List (List ℕ) → Path → Told)
    (present : ArePresent t.names t.records rows settled told) where
  abbrev R : List ℕ → Option Record
  R = recorded t.names t.records

  -- ---- files

  seen_agrees : (kind : DepKind) (l : Look) → ((h : List ℕ) → stamp_of (out_stamp kind (Some h)) ≡ hash_stamp h l) → (p : Path) (stamp : Stamp)
      (seen : RowsSeen) → SeenStands t kind p stamp seen → told_stamp l (seen_told t.records p seen) ≡ Some (stamp_of stamp)
  seen_agrees kind l e p stamp Absent h = told_hash_stamp kind l e None ∙ ap (λ z. Some (stamp_of z)) (sym h)
  seen_agrees kind l e p stamp (By one) h =
      told_hash_stamp kind l e (hash_in (kept_of t.records one.0) p) ∙ ap (λ z. Some (stamp_of z)) (sym h)
  seen_agrees kind l e p stamp Clash h = absurd h

  module _ (required : List ℕ) (us : List Task) (e : AreNumbersOf t.names required us)
      (all : (k : ℕ) → Contains required k → settled k ≡ true) where
    pub each_recorded : (u : List ℕ) → among u (map enc_task us) ≡ true → IsRecorded (recorded t.names t.records) u
    each_recorded u h =
        let m = among_from us u h in
        let k = number_of t.names required us m.task e (placed us m.number m.task m.named) in
        subst (IsRecorded (recorded t.names t.records)) (sym m.bytes)
        (settled_recorded t.names t.records rows settled present.tasks present.settled_rows k.number m.task (all k.number k.listed) k.named)

    pub told_is : (p : Path) (seen : RowsSeen) → IsOnly (Visible rows required p) seen → told (map enc_task us) p ≡ seen_told t.records p seen
    told_is p seen h =
        told_once (WroteByRecords (recorded t.names t.records) (map enc_task us) p) (WroteByRecords (recorded t.names t.records) (map enc_task us) p)
        (λ x k i. i) (λ x k i. i) (told (map enc_task us) p) (seen_told t.records p seen) (present.telling (map enc_task us) p each_recorded)
        (is_told t.names t.records rows settled present.tasks present.settled_rows required us e all p seen h)

    out_agrees : (own : List (Path × List ℕ)) (kind : DepKind) (l : Look) → ((h : List ℕ) → stamp_of (out_stamp kind (Some h)) ≡ hash_stamp h l)
        → (p : Path) (stamp : Stamp) → OutStands (record { tables = t; rows = rows; known = n; own = own }) required kind p stamp
        → told_stamp l (own_told (first_write p own) (told (map enc_task us) p)) ≡ Some (stamp_of stamp)
    out_agrees own kind l f p stamp h = by (write_at own p) refl
      where
        by : (o : Option (List ℕ)) → write_at own p ≡ o
            → told_stamp l (own_told (first_write p own) (told (map enc_task us) p)) ≡ Some (stamp_of stamp)
        by None i =
            let q = h.others i in
            ap (λ o. told_stamp l (own_told o (told (map enc_task us) p))) (first_is own p ∙ i)
            ∙ ap (told_stamp l) (told_is p q.0 q.1) ∙ seen_agrees kind l f p stamp q.0 q.2
        by (Some hash) i =
            ap (λ o. told_stamp l (own_told o (told (map enc_task us) p))) (first_is own p ∙ i)
            ∙ told_hash_stamp kind l f (Some hash) ∙ ap (λ z. Some (stamp_of z)) (sym (h.own hash i))

    look_agrees : (own : List (Path × List ℕ)) (kind : DepKind) (l : Look) → ((h : List ℕ) → stamp_of (out_stamp kind (Some h)) ≡ hash_stamp h l)
        → (p : Path) (stamp : Stamp) → FileStands (record { tables = t; rows = rows; known = n; own = own }) required kind p stamp
        → (kind_of p ≡ Source → look_stamp world l p (seen_file (P.file p)) ≡ stamp_of stamp)
        → look_now world P (by_records (recorded t.names t.records) told) own (map enc_task us) l p (kind_of p) ≡ Some (stamp_of stamp)
    look_agrees own kind l f p stamp h still = by (is_out p) refl (is_source p) refl
      where
        kinded : (a b : Bool) → is_out p ≡ a → is_source p ≡ b → kind_of p ≡ cond a Out (cond b Source Kept)
        kinded a b i j = kinds_same p ∙ ap (λ z. cond z Out (cond (is_source p) Source Kept)) i ∙ ap (λ z. cond a Out (cond z Source Kept)) j

        now_at : (k : Kind) → kind_of p ≡ k
            → look_now world P (by_records (recorded t.names t.records) told) own (map enc_task us) l p k ≡ Some (stamp_of stamp)
            → look_now world P (by_records (recorded t.names t.records) told) own (map enc_task us) l p (kind_of p) ≡ Some (stamp_of stamp)
        now_at k i g =
            ap (λ z. look_now world P (by_records (recorded t.names t.records) told) own (map enc_task us) l p z) i ∙ g

        by : (a : Bool) → is_out p ≡ a → (b : Bool) → is_source p ≡ b
            → look_now world P (by_records (recorded t.names t.records) told) own (map enc_task us) l p (kind_of p) ≡ Some (stamp_of stamp)
        by true i b j = now_at Out (kinded true b i j) (out_agrees own kind l f p stamp (h.out i))
        by false i true j = now_at Source (kinded false true i j) (ap Some (still (kinded false true i j)))
        by false i false j = now_at Kept (kinded false false i j) (ap (λ z. Some (stamp_of z)) (sym ((h.other i).reserved j)))

    file_agrees : (own : List (Path × List ℕ)) (kind : DepKind) (p : Path) (stamp : Stamp)
        → FileStands (record { tables = t; rows = rows; known = n; own = own }) required kind p stamp
        → SourceStampStill world P (asked_of kind p) (stamp_of stamp)
        → stamp_now world P (by_records (recorded t.names t.records) told) own (map enc_task us) (asked_of kind p) ≡ Some (stamp_of stamp)
    file_agrees own kinds.Exists p stamp h still = look_agrees own kinds.Exists looks.Exists (λ x. refl) p stamp h still
    file_agrees own kinds.ReadHash p stamp h still = look_agrees own kinds.ReadHash looks.ByHash (λ x. refl) p stamp h still
    file_agrees own kinds.ReadMark p stamp h still = look_agrees own kinds.ReadMark looks.ByMark (λ x. refl) p stamp h still
    file_agrees own kinds.Digest p stamp h still = look_agrees own kinds.Digest looks.Digest (λ x. refl) p stamp h still
    file_agrees own kinds.List p stamp h still = still
    file_agrees own kinds.Require p stamp h still = let i = h.looks in cc
    file_agrees own kinds.RequireHash p stamp h still = let i = h.looks in cc
    file_agrees own kinds.Run p stamp h still = let i = h.looks in cc

  -- ---- required tasks

  output_agrees : (kind : DepKind) (v : Value) (stamp : Stamp) → called_stamp kind (Some v) ≡ Some stamp
      → outcome_now world (how_by kind) (outcome_of (Done v)) ≡ Some (stamp_of stamp)
  unfolding world
  output_agrees kinds.Require v stamp h = ap (λ z. Some (stamp_of z)) (one_some (stamps.Whole v) stamp h)
  output_agrees kinds.RequireHash v stamp h = ap (λ z. Some (stamp_of z)) (one_some (stamps.Hash (sha256 (enc (tree_of v)))) stamp h)
  output_agrees kinds.Run v stamp h = ap (λ z. Some (stamp_of z)) (one_some stamps.Done stamp h)
  output_agrees kinds.Exists v stamp h = absurd (no_some h)
  output_agrees kinds.ReadHash v stamp h = absurd (no_some h)
  output_agrees kinds.ReadMark v stamp h = absurd (no_some h)
  output_agrees kinds.Digest v stamp h = absurd (no_some h)
  output_agrees kinds.List v stamp h = absurd (no_some h)

  ended_agrees : (kind : DepKind) (o : Outcome) (stamp : Stamp) → called_stamp kind (output_of o) ≡ Some stamp
      → outcome_now world (how_by kind) (outcome_of o) ≡ Some (stamp_of stamp)
  ended_agrees kind (Done v) stamp h = output_agrees kind v stamp h
  ended_agrees kind (Failed f) stamp h = absurd (no_some h)
  ended_agrees kind (Cycled ts) stamp h = absurd (no_some h)

  called_agrees : (kind : DepKind) (task : Task) (k : ℕ) (stamp : Stamp) → slice_get t.names k ≡ Some task
      → called_stamp kind (output_in (kept_of t.records k)) ≡ Some stamp
      → outcome_now world (how_by kind) (recorded_outcome (recorded t.names t.records (enc_task task))) ≡ Some (stamp_of stamp)
  called_agrees kind task k stamp at h =
      ap (λ o. outcome_now world (how_by kind) (recorded_outcome o)) (record_by_number t.names t.records k task present.tasks at)
      ∙ by (kept_of t.records k) h
    where
      by : (o : Option TaskRecord) → called_stamp kind (output_in o) ≡ Some stamp
          → outcome_now world (how_by kind) (recorded_outcome (option_map record_of o)) ≡ Some (stamp_of stamp)
      by None i = absurd (no_some i)
      by (Some rec) i = ended_agrees kind rec.outcome stamp i

  -- ---- one after another

  pub numbers_more : (required : List ℕ) (us : List Task) (k : ℕ) (task : Task) → AreNumbersOf t.names required us → slice_get t.names k ≡ Some task
      → AreNumbersOf t.names (required ++ k ∷ []) (us ++ task ∷ [])
  numbers_more required us k task e at =
      map-append (slice_get t.names) required (k ∷ []) ∙ ap (λ xs. xs ++ slice_get t.names k ∷ []) e ∙ ap (λ o. map Some us ++ o ∷ []) at
      ∙ sym (map-append Some us (task ∷ []))

  pub settled_more : (required : List ℕ) (k : ℕ) → ((j : ℕ) → Contains required j → settled j ≡ true) → settled k ≡ true → (j : ℕ)
      → Contains (required ++ k ∷ []) j → settled j ≡ true
  settled_more required k all h j i = by (Contains-push_cases required k j i)
    where
      by : Contains required j ⊎ (k ≡ j) → settled j ≡ true
      by (inl m) = all j m
      by (inr e) = subst (λ z. settled z ≡ true) e h

  pub deps_agree : (own : List (Path × List ℕ)) (deps : List Dep) (required : List ℕ) (us : List Task)
      → ((u : Task) (k : ℕ) → Contains (called_in deps) u → slice_get t.names k ≡ Some u → settled k ≡ true) → AreNumbersOf t.names required us
      → ((k : ℕ) → Contains required k → settled k ≡ true) → SourcesStill world P (map observation_of deps)
      → DepsStand (record { tables = t; rows = rows; known = n; own = own }) required deps
      → StampsAgree world P (by_records (recorded t.names t.records) told) own (map enc_task us) (map observation_of deps)
  deps_agree own [] required us ready e all still h = tt
  deps_agree own (d ∷ deps) required us ready e all still h =
      by d.what refl ready still.0 h.1 (λ us r f g. deps_agree own deps h.0 us r f g still.1 h.2)
    where
      later : (u : Task) (k : ℕ) → Contains (called_in deps) u → slice_get t.names k ≡ Some u → settled k ≡ true
      later u k i at = ready u k (Contains-append_right (called_on d.what) (called_in deps) u i) at

      by : (what : DepOn) → d.what ≡ what
          → ((u : Task) (k : ℕ) → Contains (called_on what ++ called_in deps) u → slice_get t.names k ≡ Some u → settled k ≡ true)
          → SourceStampStill world P (query_of d.kind what) (stamp_of d.stamp)
          → OnStands (record { tables = t; rows = rows; known = n; own = own }) required d.kind what d.stamp h.0
          → ((vs : List Task) → ((u : Task) (k : ℕ) → Contains (called_in deps) u → slice_get t.names k ≡ Some u → settled k ≡ true)
          → AreNumbersOf t.names h.0 vs → ((k : ℕ) → Contains h.0 k → settled k ≡ true)
          → StampsAgree world P (by_records (recorded t.names t.records) told) own (map enc_task vs) (map observation_of deps))
          → (stamp_now world P (by_records (recorded t.names t.records) told) own (map enc_task us) (query_of d.kind what) ≡ Some (stamp_of d.stamp))
          × StampsAgree world P (by_records (recorded t.names t.records) told) own (asked_before (map enc_task us) (query_of d.kind what))
          (map observation_of deps)
      by (File p) w r s q go = (
        file_agrees required us e all own d.kind p d.stamp q.0 s,
        subst (λ xs. StampsAgree world P (by_records (recorded t.names t.records) told) own xs (map observation_of deps))
            (sym (asked_of_path (map enc_task us) d.kind p))
            (go us later (subst (λ xs. AreNumbersOf t.names xs us) (sym q.1) e) (subst (λ xs. (k : ℕ) → Contains xs k → settled k ≡ true) (sym q.1) all)),
      )
      by (Called task) w r s q go =
          let now : settled q.0 ≡ true = r task q.0 (Contains-append_left (task ∷ []) (called_in deps) task (here task [])) q.1 in (
            called_agrees d.kind task q.0 d.stamp q.1 q.2.stamped,
            subst (λ xs. StampsAgree world P (by_records (recorded t.names t.records) told) own xs (map observation_of deps))
                (map-append enc_task us (task ∷ []))
                (go (us ++ task ∷ []) later (subst (λ xs. AreNumbersOf t.names xs (us ++ task ∷ [])) (sym q.3) (numbers_more required us q.0 task e q.1))
                (subst (λ xs. (j : ℕ) → Contains xs j → settled j ≡ true) (sym q.3) (settled_more required q.0 all now))),
          )

-- ---- a whole record

pub standing_agree : (P : Project) (t : Tables) (rows : List Row) (n : Named) (settled : ℕ → Bool) (told : List (List ℕ) → Path → Told) (no : ℕ)
    (rec : TaskRecord) → ArePresent t.names t.records rows settled told → RestsOn t.names t.records rows settled no rec
    → SourcesStill world P (map observation_of rec.deps) → DepsStand (record { tables = t; rows = rows; known = n; own = rec.writes }) [] rec.deps
    → RecordAgrees world P (by_records (recorded t.names t.records) told) (record_of rec)
standing_agree P t rows n settled told number rec present rests still h =
    deps_agree P t rows n settled told present rec.writes rec.deps [] [] ready refl (λ k i. absurd (none_in k i)) still h
  where
    ready : (u : Task) (k : ℕ) → Contains (called_in rec.deps) u → slice_get t.names k ≡ Some u → settled k ≡ true
    ready u k i at =
        let m = number_of t.names (row_at rows number).needs (called_in rec.deps) u rests.row.0 i in
        rests.ready k (subst (λ z. Contains (row_at rows number).needs z) (one_place t.names present.tasks m.number k u m.named at) m.listed)
