-- How a build without a list begins, in the words of the model.
use Rattle.std.proofs.Common.{◌≡◌, ℕ, zero, suc, ◌<◌, Bool, true, false, cond, List, [], ◌∷◌, Option, None, Some, length, map, get_or, refl, sym, ap, subst, ◌∙◌, inl, inr, arith, bytes_eq}
use Rattle.std.specs.Prelude.{slice_get}
use Rattle.std.specs.List.{All}
use Rattle.std.proofs.lemmas.List.{get_or-map, length-map}
use Rattle.std.proofs.lemmas.List.Elements.{All-contains}
use Rattle.std.proofs.lemmas.Option.{slice_get_within, get_or_from_slice_get}
use Rattle.pie_value.specs.declared.task.Task.{Task}
use Rattle.pie_value.specs.Canonical.{enc_task}
use Rattle.pie_code.specs.declared.code.Code.{Code}
use Rattle.pie_parser.specs.FunctionTrees.{FunctionTree}
use Rattle.pie_files.specs.Directory.{Directory}
use Rattle.pie_graph.specs.Numbers.{IsMarked}
use Rattle.pie_record.specs.Canonical.{IsStorable, IsTrueRecord}
use Rattle.pie_record.specs.declared.task_record.TaskRecord.{TaskRecord}
use Rattle.pie_record.specs.inner.Records.{record_of as kept_of}
use Rattle.pie_store.specs.Canonical.{tasks_in}
use Rattle.pie_store.specs.inner.Offers.{Offered}
use Rattle.pie_old.specs.inner.Code.{digest_in, kept, is_same_code}
use Rattle.pie_model.specs.Paths.{among}
use Rattle.pie_model.specs.Running.{IsDistinct}
use Rattle.pie_model.proofs.Basics.{bytes_same, same_bytes, clash}
use Rattle.pie_model_pipeline.specs.Rows.{record_of}
use Rattle.pie_builder_laws.specs.Events.{AreCompiled}
use Rattle.pie_builder_laws.proofs.Naming.{among_at, canonical_at, distinct_names, placed}
use Rattle.pie_earlier_laws.specs.Functions.{digest_under}
use Rattle.pie_earlier_laws.specs.Rows.{record_among}
use Rattle.pie_core_laws.specs.Update.{Update}
use Rattle.pie_core_laws.proofs.Joined.{same_codes}
use Rattle.pie_topdown_result_laws.specs.Builds.{AreHonest, IsFromStore, IsNowHere}
use Rattle.pie_topdown.specs.declared.plan.Plan.{Plan}
use Rattle.pie_topdown.specs.inner.Right.{IsPlanNow}
use Rattle.pie_topdown.specs.inner.Rooted.{AreOldTables, IsBuildOf, IsPlanOf, IsProgram}
use Rattle.pie_topdown.proofs.Topmost.{never, one_some}

-- ---- records of a store

pub task_at : (rows : List TaskRecord) (n : ℕ) (rec : TaskRecord) → slice_get rows n ≡ Some rec → slice_get (tasks_in rows) n ≡ Some rec.task
task_at [] n rec e = cc
task_at (r ∷ rs) zero rec e = ap (λ (x : TaskRecord). Some x.task) (one_some r rec e)
task_at (r ∷ rs) (suc n) rec e = task_at rs n rec e

-- a row of distinct tasks is the one of its task
row_among : (rows : List TaskRecord) (n : ℕ) (rec : TaskRecord) → IsDistinct (map enc_task (tasks_in rows)) → slice_get rows n ≡ Some rec
    → record_among (map record_of rows) (enc_task rec.task) ≡ Some (record_of rec)
row_among [] n rec d e = cc
row_among (r ∷ rs) zero rec d e =
    subst (λ (x : TaskRecord). record_among (map record_of (r ∷ rs)) (enc_task x.task) ≡ Some (record_of x)) (one_some r rec e)
    (ap (λ z. cond z (Some (record_of r)) (record_among (map record_of rs) (enc_task r.task))) (bytes_same (enc_task r.task)))
row_among (r ∷ rs) (suc n) rec d e =
    by (bytes_eq (enc_task rec.task) (enc_task r.task)) refl (row_among rs n rec d.1 e)
  where
    by : (z : Bool) → bytes_eq (enc_task rec.task) (enc_task r.task) ≡ z → record_among (map record_of rs) (enc_task rec.task) ≡ Some (record_of rec)
        → cond z (Some (record_of r)) (record_among (map record_of rs) (enc_task rec.task)) ≡ Some (record_of rec)
    by false q below = below
    by true q below =
        clash (among (enc_task r.task) (map enc_task (tasks_in rs)))
        (subst (λ x. among x (map enc_task (tasks_in rs)) ≡ true) (same_bytes (enc_task rec.task) (enc_task r.task) q)
        (among_at (tasks_in rs) n rec.task (task_at rs n rec e))) d.0

-- ---- digests

pub digests_same : (rows : List (List ℕ × List ℕ)) (name : List ℕ) → digest_in rows name ≡ digest_under rows name
digests_same [] name = refl
digests_same (r ∷ rows) name = by (bytes_eq name r.0) (digests_same rows name)
  where
    by : (b : Bool) → digest_in rows name ≡ digest_under rows name
        → kept (cond b (Some r.1) None) (digest_in rows name) ≡ cond b (Some r.1) (digest_under rows name)
    by true e = refl
    by false e = e

-- a task whose flag is set is of a function with one digest
flagged_same : (funcs digests : List (List ℕ × List ℕ)) (names : List Task) (same : List Bool)
    → same ≡ map (λ (t : Task). is_same_code funcs digests t.func) names → (n : ℕ) (t : Task) → IsMarked same n → slice_get names n ≡ Some t
    → is_same_code funcs digests t.func ≡ true
flagged_same funcs digests names same e n t flag named =
    let f : Task → Bool = λ (x : Task). is_same_code funcs digests x.func in
    let l : n < length names = slice_get_within names n t named in
    let here : get_or (map f names) n false ≡ true = subst (λ (flags : List Bool). IsMarked flags n) e flag in
    let at : f (get_or names n t) ≡ get_or (map f names) n false = sym (get_or-map f names n t false (omega (arith, l, length-map names f))) in
    ap f (sym (get_or_from_slice_get names n t t named)) ∙ at ∙ here

-- ---- a plan

module _ (fs : List FunctionTree) (codes : List Code) (funcs digests : List (List ℕ × List ℕ)) (rows : List TaskRecord) (p : Plan)
    (is : IsPlanOf fs codes funcs digests rows p) where
  -- its records are rows, of the tasks by their numbers
  pub old_row : (n : ℕ) (rec : TaskRecord) → kept_of p.earlier.records n ≡ Some rec → (slice_get rows n ≡ Some rec) × (p.earlier.names ≡ tasks_in rows)
  old_row n rec have = by is.old
    where
      by : AreOldTables rows p.earlier → (slice_get rows n ≡ Some rec) × (p.earlier.names ≡ tasks_in rows)
      by (inl t) = (sym (t.records n) ∙ have, t.names)
      by (inr t) = absurd (never rec (sym (t.1.records n) ∙ have))

  module _ (u : Update) (held : Option Directory) (roots : List Task) (program : IsProgram fs codes rows) (storable : All IsStorable rows)
      (here : IsNowHere u held fs roots) (stored : IsFromStore u funcs digests rows) where
    pub plan_now : IsPlanNow u p
    plan_now = record {
      build = here.build;
      functions = is.typed ∙ here.functions;
      compiled = subst (AreCompiled u.functions) (sym is.code) (subst (λ (gs : List FunctionTree). AreCompiled gs codes) here.functions program.compiled);
      apart = here.separates;
      met = here.met;
      old = λ n rec have.
          let row = old_row n rec have in
          record {
            left = ap (λ rs. record_among rs (enc_task rec.task)) (sym stored.rows_are)
                ∙ row_among rows n rec (subst (λ (ts : List Task). IsDistinct (map enc_task ts)) row.1 (distinct_names p.earlier.names is.tasks)) row.0;
            storable = All-contains IsStorable rows rec storable (placed rows n rec row.0);
          };
      parts = λ n rec have. All-contains IsTrueRecord rows rec program.parts (placed rows n rec (old_row n rec have).0);
      meaning = λ n rec have flag.
          let row = old_row n rec have in
          let named : slice_get p.earlier.names n ≡ Some rec.task =
          subst (λ (ts : List Task). slice_get ts n ≡ Some rec.task) (sym row.1) (task_at rows n rec row.0) in
          stored.meaning rec.task (canonical_at p.earlier.names is.tasks n rec.task named)
          (same_codes funcs digests rec.task.func (flagged_same funcs digests p.earlier.names p.same.items is.same n rec.task flag named));
    }

    -- a build of it, where offers are honest
    pub build_now : (told : Directory → Task → List ℕ → List Offered) → AreHonest u digests told → IsBuildOf u held told p
    build_now told honest = record {
      holds = here.holds;
      plan = plan_now;
      honest = λ t digest found. honest t digest (sym (digests_same digests t.func) ∙ sym (is.digest t.func) ∙ found);
    }

-- ---- too many rows

tasks_length : (rows : List TaskRecord) → length (tasks_in rows) ≡ length rows
tasks_length [] = refl
tasks_length (r ∷ rs) = ap suc (tasks_length rs)

pub many_rows : (rows : List TaskRecord) (t : Task) → slice_get (tasks_in rows) 50000 ≡ Some t → 50000 < length rows
many_rows rows t e = let within = slice_get_within (tasks_in rows) 50000 t e in let size = tasks_length rows in omega (arith, within, size)
