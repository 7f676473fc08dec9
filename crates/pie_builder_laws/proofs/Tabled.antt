-- Records and contents under names.
use Rattle.std.proofs.Common.{◌≡◌, ◌⊎◌, inl, inr, ℕ, true, false, cond, Option, Some, None, List, [], ◌∷◌, ◌++◌, map, length, refl, sym, ap, ◌∙◌, arith}
use Rattle.std.specs.Prelude.{slice_get, option_map}
use Rattle.std.specs.Ordering.{nat_cmp, is_eq}
use Rattle.std.specs.declared.cmp.Ordering.TheVariants.{Equal}
use Rattle.std.specs.Cmp.{nat_cmp_is, Equal-is}
use Rattle.std.specs.FinMap.{nat_cmp-IsAntisymmetric}
use Rattle.pie_value.specs.declared.task.Task.{Task}
use Rattle.pie_value.specs.Canonical.{enc_task}
use Rattle.pie_record.specs.declared.dep.Dep.{Dep}
use Rattle.pie_record.specs.declared.dep.DepKind.{DepKind}
use Rattle.pie_record.specs.declared.dep.DepKind.TheVariants as kinds
use Rattle.pie_record.specs.declared.dep.DepOn.{DepOn}
use Rattle.pie_record.specs.declared.dep.DepOn.TheVariants.{File, Called}
use Rattle.pie_record.specs.declared.records.Records.{Records}
use Rattle.pie_record.specs.declared.task_record.TaskRecord.{TaskRecord}
use Rattle.pie_record.specs.inner.Records.{record_of as kept_of, Puts}
use Rattle.pie_model.specs.Records.{Record, task_asked, needs_of}
use Rattle.pie_model.specs.inner.Steps.{ChangesAt}
use Rattle.pie_model.proofs.Basics.{cases}
use Rattle.pie_step_laws.specs.Contents.{KeepsMore}
use Rattle.pie_model_pipeline.specs.Rows.{asked_of, query_of, observation_of, record_of}
use Rattle.pie_builder_laws.specs.Names.{AreTasks, called_on, called_in}
use Rattle.pie_builder_laws.specs.Tables.{record_at, recorded, Kept, kept, HasNumber}
use Rattle.pie_builder_laws.proofs.Naming.{distinct_names, under_found, under_number, under_more, under_nothing, under_others}

-- ---- what observations require

asked_none : (k : DepKind) (p : List ℕ) → task_asked (asked_of k p) ≡ []
asked_none kinds.Exists p = refl
asked_none kinds.ReadHash p = refl
asked_none kinds.ReadMark p = refl
asked_none kinds.Digest p = refl
asked_none kinds.List p = refl
asked_none kinds.Require p = refl
asked_none kinds.RequireHash p = refl
asked_none kinds.Run p = refl

pub needs_called : (deps : List Dep) → needs_of (map observation_of deps) ≡ map enc_task (called_in deps)
needs_called [] = refl
needs_called (d ∷ ds) = by d.what (needs_called ds)
  where
    by : (what : DepOn) → needs_of (map observation_of ds) ≡ map enc_task (called_in ds)
        → task_asked (query_of d.kind what) ++ needs_of (map observation_of ds) ≡ map enc_task (called_on what ++ called_in ds)
    by (File p) r = ap (λ xs. xs ++ needs_of (map observation_of ds)) (asked_none d.kind p) ∙ r
    by (Called t) r = ap (λ xs. enc_task t ∷ xs) r

-- ---- records

pub record_by_number : (names : List Task) (records : Records) (n : ℕ) (t : Task) → AreTasks names → slice_get names n ≡ Some t
    → recorded names records (enc_task t) ≡ record_at records n
record_by_number names records n t a e =
    under_number None (record_at records) 0 names n t (distinct_names names a) e ∙ ap (record_at records) (omega arith)

pub record_has_number : (names : List Task) (records : Records) (x : List ℕ) (r : Record) → recorded names records x ≡ Some r
    → HasNumber names records x r
record_has_number names records x r h =
    let m = under_found (record_at records) 0 names x r h in
    there m.number m.task m.named m.bytes (kept_of records m.number) refl (ap (record_at records) (omega arith) ∙ m.kept)
  where
    there : (n : ℕ) (t : Task) → slice_get names n ≡ Some t → x ≡ enc_task t → (o : Option TaskRecord) → kept_of records n ≡ o
        → option_map record_of o ≡ Some r → HasNumber names records x r
    there n t e b None k f = cc
    there n t e b (Some rec) k f = record { number = n; task = t; rec = rec; named = e; bytes = b; kept = k; same = same (record_of rec) r f }
      where
        same : (p q : Record) → Some p ≡ Some q → q ≡ p
        same p q g = cc

pub no_records : (names : List Task) (records : Records) (x : List ℕ) → ((n : ℕ) → kept_of records n ≡ None) → recorded names records x ≡ None
no_records names records x h = under_nothing None (record_at records) 0 names x (λ n. ap (option_map record_of) (h n))

pub no_record_named : (names : List Task) (records : Records) (t : Task) (x : List ℕ) → kept_of records (length names) ≡ None
    → recorded (names ++ t ∷ []) records x ≡ recorded names records x
no_record_named names records t x h =
    under_more None (record_at records) 0 names t x (ap (record_at records) (omega arith) ∙ ap (option_map record_of) h)

pub record_put : (names : List Task) (old new : Records) (n : ℕ) (t : Task) (rec : TaskRecord) → AreTasks names → slice_get names n ≡ Some t
    → Puts old new n rec → ChangesAt (recorded names old) (recorded names new) (enc_task t) (record_of rec)
record_put names old new n t rec a e p = record {
  now = record_by_number names new n t a e ∙ ap (option_map record_of) (p n ∙ ap (λ b. cond b (Some rec) (kept_of old n)) (here n));
  others = under_others None (record_at old) (record_at new) names n t a e
      (λ m d. ap (option_map record_of) (p m ∙ ap (λ b. cond b (Some rec) (kept_of old m)) (there n m (λ i. d (sym i)))));
}
  where
    here : (m : ℕ) → is_eq (nat_cmp m m) ≡ true
    here m = ap is_eq (sym (nat_cmp_is m m Equal refl))

    there : (i j : ℕ) → (i ≡ j → ⊥) → is_eq (nat_cmp i j) ≡ false
    there i j d = by (cases (is_eq (nat_cmp i j)))
      where
        by : (is_eq (nat_cmp i j) ≡ true) ⊎ (is_eq (nat_cmp i j) ≡ false) → is_eq (nat_cmp i j) ≡ false
        by (inl k) = absurd (d (nat_cmp-IsAntisymmetric i j ((Equal-is (nat_cmp i j)).0 k)))
        by (inr k) = k

-- ---- contents

pub contents_by_number : (names : List Task) (contents : Kept) (n : ℕ) (t : Task) → AreTasks names → slice_get names n ≡ Some t
    → kept names contents (enc_task t) ≡ contents n
contents_by_number names contents n t a e =
    under_number [] contents 0 names n t (distinct_names names a) e ∙ ap contents (omega arith)

pub no_contents_named : (names : List Task) (contents : Kept) (t : Task) (x : List ℕ) → contents (length names) ≡ []
    → kept (names ++ t ∷ []) contents x ≡ kept names contents x
no_contents_named names contents t x h = under_more [] contents 0 names t x (ap contents (omega arith) ∙ h)

pub contents_put : (names : List Task) (old new : Kept) (n : ℕ) (t : Task) → AreTasks names → slice_get names n ≡ Some t
    → ((m : ℕ) → (m ≡ n → ⊥) → new m ≡ old m) → KeepsMore (kept names old) (kept names new) (enc_task t) (new n)
contents_put names old new n t a e same = record {
  now = contents_by_number names new n t a e;
  others = under_others [] old new names n t a e same;
}
