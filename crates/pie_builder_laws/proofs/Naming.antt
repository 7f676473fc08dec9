-- Tasks among others, by their canonical bytes.
use Rattle.std.proofs.Common.{◌≡◌, ◌≢◌, ◌⊎◌, inl, inr, ℕ, suc, zero, ◌+◌, ◌<◌, Bool, true, false, cond, Some, None, List, [], ◌∷◌, ◌++◌, map, length}
use Rattle.std.proofs.Common.{Option, bytes_eq, refl, sym, ap, subst, ◌∙◌, arith}
use Rattle.std.specs.Prelude.{slice_get, Contains}
use Rattle.std.proofs.lemmas.Option.{slice_get_within, get_or_from_slice_get, slice_get_read}
use Rattle.std.proofs.lemmas.List.Elements.{All-contains}
use Rattle.std.proofs.lemmas.Bool.{cases_order}
use Rattle.pie_value.specs.declared.task.Task.{Task}
use Rattle.pie_value.specs.Canonical.{enc_task, IsCanonicalTask}
use Rattle.pie_model.specs.Paths.{among}
use Rattle.pie_model.specs.Running.{IsDistinct}
use Rattle.pie_model.proofs.Basics.{same_bytes, bytes_same, bytes_same, clash, cases, among_here, among_there, among_split}
use Rattle.pie_model_pipeline.proofs.Joining.{tasks_told}
use Rattle.pie_builder_laws.specs.Names.{AreTasks, under_name}

-- ---- elements by their places

pub placed : {X : Type 0} (xs : List X) (n : ℕ) (x : X) → slice_get xs n ≡ Some x → Contains xs x
placed xs n x e = (n, slice_get_within xs n x e, get_or_from_slice_get xs n x x e)

pub place : {X : Type 0} (xs : List X) (x : X) (m : Contains xs x) → slice_get xs m.0 ≡ Some x
place xs x m = slice_get_read xs (length xs) m.0 x refl m.1 (sym m.2)

-- ---- canonical bytes among those of tasks

pub among_at : (names : List Task) (n : ℕ) (t : Task) → slice_get names n ≡ Some t → among (enc_task t) (map enc_task names) ≡ true
among_at [] n t e = absurd (none e)
  where
    none : {X : Type 0} {x : X} → None ≡ Some x → ⊥
    none h = cc
among_at (u ∷ us) zero t e = subst (λ z. among (enc_task z) (enc_task u ∷ map enc_task us) ≡ true) (same u t e) (among_here (enc_task u) (map enc_task us))
  where
    same : (x y : Task) → Some x ≡ Some y → x ≡ y
    same x y h = cc
among_at (u ∷ us) (suc n) t e = among_there (enc_task t) (enc_task u) (map enc_task us) (among_at us n t e)

-- a task among some, with its place
pub record IsAt (names : List Task) (x : List ℕ) : Type 0 where
  pub number : ℕ
  pub task : Task
  pub named : slice_get names number ≡ Some task
  pub bytes : x ≡ enc_task task

pub among_from : (names : List Task) (x : List ℕ) → among x (map enc_task names) ≡ true → IsAt names x
among_from [] x h = clash false h refl
among_from (u ∷ us) x h = by (among_split x (enc_task u) (map enc_task us) h) (among_from us x)
  where
    by : (x ≡ enc_task u) ⊎ (among x (map enc_task us) ≡ true) → (among x (map enc_task us) ≡ true → IsAt us x) → IsAt (u ∷ us) x
    by (inl e) r = record { number = 0; task = u; named = refl; bytes = e }
    by (inr k) r = let m = r k in record { number = suc m.number; task = m.task; named = m.named; bytes = m.bytes }

-- each has canonical bytes, and no two places have one task
abbrev AllCanonical : List Task → Type 0
AllCanonical names = (n : ℕ) (t : Task) → slice_get names n ≡ Some t → IsCanonicalTask t (enc_task t)

abbrev AllApart : List Task → Type 0
AllApart names = (i j : ℕ) (t u : Task) → i < j → slice_get names i ≡ Some t → slice_get names j ≡ Some u → t ≢ u

pub canonical_at : (names : List Task) → AreTasks names → (n : ℕ) (t : Task) → slice_get names n ≡ Some t → IsCanonicalTask t (enc_task t)
canonical_at names a n t e = All-contains (λ x. IsCanonicalTask x (enc_task x)) names t a.canonical (placed names n t e)

apart_at : (names : List Task) → AreTasks names → AllApart names
apart_at names a i j t u l e f h =
    a.distinct i j t l (slice_get_within names j u f) (get_or_from_slice_get names i t t e ∙ h ∙ sym (get_or_from_slice_get names j u t f))

distinct_by : (names : List Task) → AllCanonical names → AllApart names → IsDistinct (map enc_task names)
distinct_by [] c a = tt
distinct_by (t ∷ ts) c a = (
  by (cases (among (enc_task t) (map enc_task ts))),
  distinct_by ts (λ n. c (suc n)) (λ i j u v l. a (suc i) (suc j) u v (omega (arith, l))),
)
  where
    by : (among (enc_task t) (map enc_task ts) ≡ true) ⊎ (among (enc_task t) (map enc_task ts) ≡ false) → among (enc_task t) (map enc_task ts) ≡ false
    by (inl h) =
        let m = among_from ts (enc_task t) h in
        absurd (a 0 (suc m.number) t m.task (omega arith) refl m.named (tasks_told t m.task (c 0 t refl) (c (suc m.number) m.task m.named) m.bytes))
    by (inr h) = h

pub distinct_names : (names : List Task) → AreTasks names → IsDistinct (map enc_task names)
distinct_names names a = distinct_by names (canonical_at names a) (apart_at names a)

pub named_to : (names : List Task) (t : Task) → AreTasks names → IsCanonicalTask t (enc_task t) → among (enc_task t) (map enc_task names) ≡ true
    → Contains names t
named_to names t a c h =
    let m = among_from names (enc_task t) h in
    subst (Contains names) (sym (tasks_told t m.task c (canonical_at names a m.number m.task m.named) m.bytes)) (placed names m.number m.task m.named)

pub named_back : (names : List Task) (t : Task) → Contains names t → among (enc_task t) (map enc_task names) ≡ true
named_back names t m = among_at names m.0 t (place names t m)

pub other_to : (names : List Task) (t : Task) → among (enc_task t) (map enc_task names) ≡ false → Contains names t → ⊥
other_to names t h m = clash (among (enc_task t) (map enc_task names)) (named_back names t m) h

pub other_back : (names : List Task) (t : Task) → AreTasks names → IsCanonicalTask t (enc_task t) → (Contains names t → ⊥)
    → among (enc_task t) (map enc_task names) ≡ false
other_back names t a c h = by (cases (among (enc_task t) (map enc_task names)))
  where
    by : (among (enc_task t) (map enc_task names) ≡ true) ⊎ (among (enc_task t) (map enc_task names) ≡ false) → among (enc_task t) (map enc_task names) ≡ false
    by (inl e) = absurd (h (named_to names t a c e))
    by (inr e) = e

-- tasks at two places are the same only at one place
pub one_place : (names : List Task) → AreTasks names → (i j : ℕ) (t : Task) → slice_get names i ≡ Some t → slice_get names j ≡ Some t → i ≡ j
one_place names a i j t e f = by (cases_order i j)
  where
    by : (i ≡ j) ⊎ ((i < j) ⊎ (j < i)) → i ≡ j
    by (inl h) = h
    by (inr (inl l)) = absurd (apart_at names a i j t t l e f refl)
    by (inr (inr l)) = absurd (apart_at names a j i t t l f e refl)

-- ---- what stands under names

pub under_number : {A : Type 0} (none : A) (at : ℕ → A) (m : ℕ) (names : List Task) (n : ℕ) (t : Task) → IsDistinct (map enc_task names)
    → slice_get names n ≡ Some t → under_name none at m names (enc_task t) ≡ at (m + n)
under_number none at m [] n t d e = absurd (no e)
  where
    no : {X : Type 0} {x : X} → None ≡ Some x → ⊥
    no h = cc
under_number {A} none at m (u ∷ us) zero t d e =
    ap (λ b. cond b (at m) (under_name none at (m + 1) us (enc_task t)))
    (subst (λ z. bytes_eq (enc_task t) (enc_task z) ≡ true) (sym (same u t e)) (bytes_same (enc_task t)))
    ∙ ap at (omega arith)
  where
    same : (x y : Task) → Some x ≡ Some y → x ≡ y
    same x y h = cc
under_number {A} none at m (u ∷ us) (suc n) t d e =
    by (bytes_eq (enc_task t) (enc_task u)) refl (under_number none at (m + 1) us n t d.1 e ∙ ap at (omega arith))
  where
    by : (b : Bool) → bytes_eq (enc_task t) (enc_task u) ≡ b → under_name none at (m + 1) us (enc_task t) ≡ at (m + suc n)
        → cond b (at m) (under_name none at (m + 1) us (enc_task t)) ≡ at (m + suc n)
    by true h r = clash (among (enc_task u) (map enc_task us))
        (subst (λ z. among z (map enc_task us) ≡ true) (same_bytes (enc_task t) (enc_task u) h) (among_at us n t e)) d.0
    by false h r = r

pub under_absent : {A : Type 0} (none : A) (at : ℕ → A) (m : ℕ) (names : List Task) (x : List ℕ) → among x (map enc_task names) ≡ false
    → under_name none at m names x ≡ none
under_absent none at m [] x h = refl
under_absent {A} none at m (u ∷ us) x h = by (bytes_eq x (enc_task u)) h (under_absent none at (m + 1) us x)
  where
    by : (b : Bool) → cond b true (among x (map enc_task us)) ≡ false → (among x (map enc_task us) ≡ false → under_name none at (m + 1) us x ≡ none)
        → cond b (at m) (under_name none at (m + 1) us x) ≡ none
    by true k r = clash true refl k
    by false k r = r k

-- what is found under a name stands under its number
pub record IsFound {A : Type 0} (at : ℕ → Option A) (m : ℕ) (names : List Task) (x : List ℕ) (a : A) : Type 0 where
  pub number : ℕ
  pub task : Task
  pub named : slice_get names number ≡ Some task
  pub bytes : x ≡ enc_task task
  pub kept : at (m + number) ≡ Some a

pub under_found : {A : Type 0} (at : ℕ → Option A) (m : ℕ) (names : List Task) (x : List ℕ) (a : A) → under_name None at m names x ≡ Some a
    → IsFound at m names x a
under_found at m [] x a h = cc
under_found {A} at m (u ∷ us) x a h = by (bytes_eq x (enc_task u)) refl h (under_found at (m + 1) us x a)
  where
    by : (b : Bool) → bytes_eq x (enc_task u) ≡ b → cond b (at m) (under_name None at (m + 1) us x) ≡ Some a
        → (under_name None at (m + 1) us x ≡ Some a → IsFound at (m + 1) us x a) → IsFound at m (u ∷ us) x a
    by true e k r = record { number = 0; task = u; named = refl; bytes = same_bytes x (enc_task u) e; kept = ap at (omega arith) ∙ k }
    by false e k r =
        let f = r k in
        record { number = suc f.number; task = f.task; named = f.named; bytes = f.bytes; kept = ap at (omega arith) ∙ f.kept }

-- one more name, under which there is nothing
pub under_more : {A : Type 0} (none : A) (at : ℕ → A) (m : ℕ) (names : List Task) (t : Task) (x : List ℕ) → at (m + length names) ≡ none
    → under_name none at m (names ++ t ∷ []) x ≡ under_name none at m names x
under_more {A} none at m [] t x h = by (bytes_eq x (enc_task t))
  where
    by : (b : Bool) → cond b (at m) none ≡ none
    by true = ap at (omega arith) ∙ h
    by false = refl
under_more none at m (u ∷ us) t x h =
    ap (λ z. cond (bytes_eq x (enc_task u)) (at m) z) (under_more none at (m + 1) us t x (ap at (omega arith) ∙ h))

-- where nothing stands under any number
pub under_nothing : {A : Type 0} (none : A) (at : ℕ → A) (m : ℕ) (names : List Task) (x : List ℕ) → ((n : ℕ) → at n ≡ none)
    → under_name none at m names x ≡ none
under_nothing none at m [] x h = refl
under_nothing {A} none at m (u ∷ us) x h = by (bytes_eq x (enc_task u)) (under_nothing none at (m + 1) us x h)
  where
    by : (b : Bool) → under_name none at (m + 1) us x ≡ none → cond b (at m) (under_name none at (m + 1) us x) ≡ none
    by true r = h m
    by false r = r

-- what changes under one number alone changes under no other name
pub under_others : {A : Type 0} (none : A) (old new : ℕ → A) (names : List Task) (n : ℕ) (t : Task) → AreTasks names → slice_get names n ≡ Some t
    → ((m : ℕ) → (m ≡ n → ⊥) → new m ≡ old m) → (x : List ℕ) → (x ≡ enc_task t → ⊥) → under_name none new 0 names x ≡ under_name none old 0 names x
under_others {A} none old new names n t a e same x apart = by (cases (among x (map enc_task names)))
  where
    by_number : (at : ℕ → A) (m : ℕ) (u : Task) → slice_get names m ≡ Some u → under_name none at 0 names (enc_task u) ≡ at m
    by_number at m u f = under_number none at 0 names m u (distinct_names names a) f ∙ ap at (omega arith)

    one_task : (y z : Task) → Some y ≡ Some z → y ≡ z
    one_task y z h = cc

    by : (among x (map enc_task names) ≡ true) ⊎ (among x (map enc_task names) ≡ false) → under_name none new 0 names x ≡ under_name none old 0 names x
    by (inl h) =
        let m = among_from names x h in
        subst (λ z. under_name none new 0 names z ≡ under_name none old 0 names z) (sym m.bytes)
        (by_number new m.number m.task m.named
        ∙ same m.number (λ i. apart (m.bytes ∙ ap enc_task (one_task m.task t (sym m.named ∙ ap (slice_get names) i ∙ e))))
        ∙ sym (by_number old m.number m.task m.named))
    by (inr h) = under_absent none new 0 names x h ∙ sym (under_absent none old 0 names x h)
