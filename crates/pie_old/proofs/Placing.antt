-- Tasks and records by their places, one after another.
use Rattle.std.proofs.Common.{◌≡◌, ℕ, ◌+◌, ◌-◌, ◌<◌, ◌≤◌, ◌^◌, Bool, true, false, cond, List, [], ◌∷◌, ◌++◌, length, get_or, drop, Some, None}
use Rattle.std.proofs.Common.{refl, sym, ap, subst, ◌∙◌, arith, inl, inr}
use Rattle.std.specs.Prelude.{Contains, slice_get}
use Rattle.std.specs.declared.cmp.Ordering.TheVariants.{Less, Equal, Greater}
use Rattle.std.specs.Ordering.{nat_cmp, is_eq, MatchOrdering}
use Rattle.std.specs.Cmp.{ranks}
use Rattle.std.proofs.lemmas.List.{drop_all, drop_more, get_or_append_left, get_or_at, length-append, length-drop, length-map}
use Rattle.std.proofs.lemmas.Bool.{cases_lt}
use Rattle.std.proofs.lemmas.Option.{slice_get-get_or, slice_get_past}
use Rattle.pie_value.specs.declared.task.Task.{Task}
use Rattle.pie_record.specs.declared.records.Records.{Records}
use Rattle.pie_record.specs.declared.task_record.TaskRecord.{TaskRecord}
use Rattle.pie_record.specs.inner.Names.{AreDistinct}
use Rattle.pie_record.specs.inner.Records.{record_of, Puts}
use Rattle.pie_store.specs.Canonical.{tasks_in}

-- what comes later isn't there yet
distinct_before : (xs ys : List Task) (x : Task) → AreDistinct (xs ++ x ∷ ys) → Contains xs x → ⊥
distinct_before xs ys x h c =
    let long = length-append xs (x ∷ ys) in
    let here : get_or (xs ++ x ∷ ys) c.0 x ≡ x = get_or_append_left xs (x ∷ ys) x c.0 c.1 ∙ c.2 in
    let there : get_or (xs ++ x ∷ ys) (length xs) x ≡ x = get_or_at xs x ys x (length xs) refl in
    h c.0 (length xs) x c.1 (omega (arith, long)) (here ∙ sym there)

tasks_from : (rows : List TaskRecord) (i : ℕ) (r : TaskRecord) → i < length rows → r ≡ get_or rows i r
    → tasks_in (drop i rows) ≡ r.task ∷ tasks_in (drop (i + 1) rows)
tasks_from rows i r l e = ap tasks_in (drop_more rows i r l) ∙ ap (λ (x : TaskRecord). x.task ∷ tasks_in (drop (i + 1) rows)) (sym e)

pub is_absent : (rows : List TaskRecord) (names : List Task) (i : ℕ) (r : TaskRecord) (t : Task) → i < length rows → r ≡ get_or rows i r → t ≡ r.task
    → names ++ tasks_in (drop i rows) ≡ tasks_in rows → AreDistinct (tasks_in rows) → ¬ (Contains names t)
is_absent rows names i r t l e same inv distinct c =
    let whole = ap (λ (ts : List Task). names ++ ts) (sym (tasks_from rows i r l e)) ∙ inv in
    distinct_before names (tasks_in (drop (i + 1) rows)) r.task (subst AreDistinct (sym whole) distinct)
    (subst (λ (x : Task). Contains names x) same c)

-- a fact on whether two numbers are equal, from both cases
by_equality : (P : Bool → Type 0) (n k : ℕ) → (n ≡ k → P true) → ((n ≡ k → ⊥) → P false) → P (is_eq (nat_cmp n k))
by_equality P n k same apart =
    elim (nat_cmp n k) as (λ r. MatchOrdering r (n < k) (n ≡ k) (k < n) → P (is_eq r)) [
      | Less ↦ λ lt. apart (λ e. omega (arith, lt, e))
      | Equal ↦ λ e. same e
      | Greater ↦ λ gt. apart (λ e. omega (arith, gt, e))
    ] (ranks n k)

inside : {X : Type 0} (xs ys : List X) (n : ℕ) (x : X) → drop n xs ≡ x ∷ ys → n < length xs
inside xs ys n x e = elim (cases_lt n (length xs)) [
  | inl lt ↦ lt
  | inr ge ↦ let none = drop_all n xs ge in absurd (cc)
]

pub tail_same : {X : Type 0} (x y : X) (xs ys : List X) → x ∷ xs ≡ y ∷ ys → xs ≡ ys
tail_same x y xs ys e = cc

pub head_same : {X : Type 0} (x y : X) (xs ys : List X) → x ∷ xs ≡ y ∷ ys → x ≡ y
head_same x y xs ys e = cc

-- the records before a place are kept under their numbers, and the others are still to come
pub record AreNumbered (rows rest : List TaskRecord) (records : Records) (count : ℕ) : Type 0 where
  pub within : count ≤ length rows
  pub left : rest ≡ drop count rows
  pub before : (n : ℕ) → n < count → record_of records n ≡ slice_get rows n
  pub after : (n : ℕ) → count ≤ n → record_of records n ≡ None

pub numbered_first : (rows : List TaskRecord) (records : Records) → ((n : ℕ) → record_of records n ≡ None) → AreNumbered rows rows records 0
numbered_first rows records none = record {
  within = omega arith;
  left = refl;
  before = λ n l. absurd (omega (arith, l));
  after = λ n l. none n;
}

pub numbered_more : (rows rest : List TaskRecord) (r : TaskRecord) (old new : Records) (count : ℕ) → AreNumbered rows (r ∷ rest) old count
    → Puts old new count r → AreNumbered rows rest new (count + 1)
numbered_more rows rest r old new count is puts =
    let at = inside rows rest count r (sym is.left) in
    let split : r ∷ rest ≡ get_or rows count r ∷ drop (count + 1) rows = is.left ∙ drop_more rows count r at in
    let here : slice_get rows count ≡ Some r =
    slice_get-get_or rows count r at ∙ ap Some (sym (head_same r (get_or rows count r) rest (drop (count + 1) rows) split)) in
    record {
      within = omega (arith, at);
      left = tail_same r (get_or rows count r) rest (drop (count + 1) rows) split;
      before = λ n l. puts n ∙ by_equality (λ b. cond b (Some r) (record_of old n) ≡ slice_get rows n) count n
          (λ e. sym here ∙ ap (slice_get rows) e)
          (λ apart. elim (cases_lt n count) [
            | inl lt ↦ is.before n lt
            | inr ge ↦ absurd (apart (omega (arith, ge, l)))
          ]);
      after = λ n l. puts n ∙ by_equality (λ b. cond b (Some r) (record_of old n) ≡ None) count n
          (λ e. absurd (omega (arith, e, l)))
          (λ apart. is.after n (omega (arith, l)));
    }

pub is_empty : {X : Type 0} (xs : List X) → length xs ≡ 0 → xs ≡ []
is_empty [] e = refl
is_empty (x ∷ xs) e = absurd (omega (arith, e))

pub numbered_all : (rows : List TaskRecord) (records : Records) (count : ℕ) → AreNumbered rows [] records count → (n : ℕ)
    → record_of records n ≡ slice_get rows n
numbered_all rows records count is n = elim (cases_lt n count) [
  | inl lt ↦ is.before n lt
  | inr ge ↦
      let size : 0 ≡ length rows - count = ap length is.left ∙ length-drop count rows in
      let full : length rows ≤ count = omega (arith, size) in
      is.after n ge ∙ sym (slice_get_past rows n (omega (arith, full, ge)))
]

pub few_names : (rows : List TaskRecord) (names : List Task) (i : ℕ) → names ++ tasks_in (drop i rows) ≡ tasks_in rows → length rows ≤ 50000
    → length names < 2 ^ 32
few_names rows names i inv few =
    let size : length names + length (tasks_in (drop i rows)) ≡ length (tasks_in rows) =
    sym (length-append names (tasks_in (drop i rows))) ∙ ap length inv in
    let all : length (tasks_in rows) ≡ length rows = length-map rows (λ (r : TaskRecord). r.task) in
    omega (arith, size, all, few)
