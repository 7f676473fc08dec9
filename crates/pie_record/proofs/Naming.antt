-- Tasks by their canonical bytes.
use Rattle.std.proofs.Common.{◌≡◌, ◌≢◌, ℕ, suc, ◌<◌, ◌^◌, Bool, true, false, cond, List, [], ◌∷◌, ◌++◌, length, get_or, map, take, drop, All, Ok, Result, take-append-drop}
use Rattle.std.proofs.Common.{refl, sym, ap, subst, ◌∙◌, arith}
use Rattle.std.specs.Prelude.{Contains, Option, Some, None, IfSome, Vec, slice_get, position}
use Rattle.std.specs.List.{list_any, position_or_len}
use Rattle.std.specs.Str.{bytes_eq}
use Rattle.std.specs.declared.cmp.Ordering.{Ordering}
use Rattle.std.specs.declared.cmp.Ordering.TheVariants.{Equal}
use Rattle.std.proofs.lemmas.Slice.Eq.{bytes_eq-Decides}
use Rattle.std.proofs.lemmas.Bool.{ltb-false}
use Rattle.std.proofs.lemmas.List.{get_or-map, get_or_default, length-map, map-append, length_push}
use Rattle.std.proofs.lemmas.List.Sums.{fails_before_first}
use Rattle.std.proofs.lemmas.List.Quantifiers.{position-Some, all_pairs_push}
use Rattle.std.proofs.lemmas.List.Elements.{All-push}
use Rattle.std.proofs.lemmas.Map.Lookups.{exact_bytes}
use Rattle.std.proofs.lemmas.Option.{slice_get-get_or, slice_get_within, get_or_from_slice_get}
use Rattle.pie_value.specs.declared.task.Task.{Task}
use Rattle.pie_value.specs.Canonical.{enc_task, IsCanonicalTask, IsEncodableTask}
use Rattle.pie_value.specs.Order.{byte_order}
use Rattle.pie_value.specs.Reading.{task_prefix}
use Rattle.pie_value.specs.declared.value_fault.ValueFault.{ValueFault}
use Rattle.pie_value.proofs.Taking.{same_value}
use Rattle.pie_value.proofs.Decoded.{task_again}
use Rattle.pie_record.specs.Reading.{Parsed, told, task_at}
use Rattle.pie_record.specs.inner.Names.{AreNamed, IsFree, IsPlace, IsKeyAt}

-- ---- where bytes stand

apart_from : (a b : List ℕ) → bytes_eq a b ≡ false → b ≢ a
apart_from a b e same = let t : bytes_eq a b ≡ true = (bytes_eq-Decides a b).1 (sym same) in cc

first_is : (b : Bool) (n : ℕ) → cond b (Some n) None ≡ None → b ≡ false
first_is true n e = absurd (cc)
first_is false n e = refl

pub place_none : {Z : Type 0} (keys : List (Vec ℕ Z)) (bytes : List ℕ) → position (λ (k : Vec ℕ Z). bytes_eq bytes k.items) keys ≡ None → IsFree keys bytes
place_none {Z} keys bytes e =
    let test : Vec ℕ Z → Bool = λ k. bytes_eq bytes k.items in
    let past = ltb-false (position_or_len test keys) (length keys) (first_is _ _ e) in
    record { apart = λ i d lt. apart_from bytes _ (fails_before_first test keys i d (omega arith)) }

inside : {X : Type 0} (test : X → Bool) (xs : List X) (i : ℕ) → position test xs ≡ Some i → i < length xs
inside test [] i e = absurd (cc)
inside test (x ∷ xs) i e = (position-Some test (x ∷ xs) i x e).0

pub place_some : {Z : Type 0} (keys : List (Vec ℕ Z)) (bytes : List ℕ) (i : ℕ) → position (λ (k : Vec ℕ Z). bytes_eq bytes k.items) keys ≡ Some i
    → IsPlace keys bytes (Some i)
place_some {Z} keys bytes i e =
    let test : Vec ℕ Z → Bool = λ k. bytes_eq bytes k.items in
    (inside test keys i e, λ d. sym ((bytes_eq-Decides bytes _).0 (position-Some test keys i d e).1))

pub place_is : {Z : Type 0} (keys : List (Vec ℕ Z)) (bytes : List ℕ) (r : Option ℕ) → r ≡ position (λ (k : Vec ℕ Z). bytes_eq bytes k.items) keys
    → IsPlace keys bytes r
place_is keys bytes None e = place_none keys bytes (sym e)
place_is keys bytes (Some i) e = place_some keys bytes i (sym e)

-- ---- keys that are the bytes of tasks

pub bytes_tell : (t u : Task) → IsCanonicalTask t (enc_task t) → IsCanonicalTask u (enc_task u) → enc_task t ≡ enc_task u → t ≡ u
bytes_tell t u c d e =
    same_value t u [] []
    (sym (task_again t (enc_task t) [] c) ∙ ap (λ (bs : List ℕ). task_prefix (bs ++ [])) e ∙ task_again u (enc_task u) [] d)

many : {Z : Type 0} (keys : List (Vec ℕ Z)) (tasks : List Task) → AreNamed keys tasks → length keys ≡ length tasks
many {Z} keys tasks n = sym (length-map keys (λ (k : Vec ℕ Z). k.items)) ∙ ap length n.same ∙ length-map tasks enc_task

key_at : {Z : Type 0} (keys : List (Vec ℕ Z)) (tasks : List Task) → AreNamed keys tasks → (i : ℕ) (d : Vec ℕ Z) (t : Task) → i < length keys
    → (get_or keys i d).items ≡ enc_task (get_or tasks i t)
key_at {Z} keys tasks n i d t lt =
    let long = many keys tasks n in
    sym (get_or-map (λ (k : Vec ℕ Z). k.items) keys i d [] lt) ∙ ap (λ (l : List (List ℕ)). get_or l i []) n.same
    ∙ get_or-map enc_task tasks i t [] (omega arith)

pub key_bytes : {Z : Type 0} (keys : List (Vec ℕ Z)) (tasks : List Task) (i : ℕ) (bytes : List ℕ) → AreNamed keys tasks → i < length tasks
    → IsKeyAt keys i bytes → IfSome (slice_get tasks i) (λ t. IsCanonicalTask t bytes)
key_bytes {Z} keys [] i bytes n lt at = absurd (omega (arith, lt))
key_bytes {Z} [] (t ∷ ts) i bytes n lt at = let long = many {Z = Z} [] (t ∷ ts) n in absurd (omega (arith, long))
key_bytes {Z} (k ∷ ks) (t ∷ ts) i bytes n lt at =
    let long = many (k ∷ ks) (t ∷ ts) n in
    let u = get_or (t ∷ ts) i t in
    let same : enc_task u ≡ bytes = sym (key_at (k ∷ ks) (t ∷ ts) n i k t (omega arith)) ∙ at k in
    rw (slice_get-get_or (t ∷ ts) i t lt) (subst (IsCanonicalTask u) same (n.canonical i t lt))

pub number_some : {Z : Type 0} (keys : List (Vec ℕ Z)) (tasks : List Task) (t : Task) (bytes : List ℕ) (i : ℕ) → AreNamed keys tasks
    → IsCanonicalTask t bytes → IsPlace keys bytes (Some i) → slice_get tasks i ≡ Some t
number_some {Z} [] tasks t bytes i n c p = absurd (omega (arith, p.0))
number_some {Z} (k ∷ keys) tasks t bytes i n c p =
    let long = many (k ∷ keys) tasks n in
    let lt : i < length tasks = omega (arith, p.0) in
    let same : enc_task (get_or tasks i t) ≡ enc_task t = sym (key_at (k ∷ keys) tasks n i k t p.0) ∙ p.1 k ∙ c.bytes in
    slice_get-get_or tasks i t lt ∙ ap Some (bytes_tell (get_or tasks i t) t (n.canonical i t lt) (subst (IsCanonicalTask t) c.bytes c) same)

pub number_none : {Z : Type 0} (keys : List (Vec ℕ Z)) (tasks : List Task) (t : Task) (bytes : List ℕ) → AreNamed keys tasks
    → IsCanonicalTask t bytes → IsFree keys bytes → ¬ (Contains tasks t)
number_none {Z} [] tasks t bytes n c f h = let long = many {Z = Z} [] tasks n in absurd (omega (arith, h.1))
number_none {Z} (k ∷ keys) tasks t bytes n c f h =
    let long = many (k ∷ keys) tasks n in
    let lt : h.0 < length (k ∷ keys) = omega (arith, h.1) in
    f.apart h.0 k lt (key_at (k ∷ keys) tasks n h.0 k t lt ∙ ap enc_task h.2 ∙ sym c.bytes)

pub free_is : {Z : Type 0} (keys : List (Vec ℕ Z)) (tasks : List Task) (t : Task) (bytes : List ℕ) → AreNamed keys tasks
    → IsCanonicalTask t bytes → ¬ (Contains tasks t) → IsFree keys bytes
free_is keys tasks t bytes n c absent = record {
  apart = λ i d lt same.
      let long = many keys tasks n in
      let inside : i < length tasks = omega arith in
      let e : enc_task (get_or tasks i t) ≡ enc_task t = sym (key_at keys tasks n i d t lt) ∙ same ∙ c.bytes in
      absent (i, inside, bytes_tell (get_or tasks i t) t (n.canonical i t inside) (subst (IsCanonicalTask t) c.bytes c) e);
}

pub named_more : {Z : Type 0} (keys : List (Vec ℕ Z)) (tasks : List Task) (k : Vec ℕ Z) (t : Task) → AreNamed keys tasks
    → IsCanonicalTask t k.items → ¬ (Contains tasks t) → length tasks < 2 ^ 32 → AreNamed (keys ++ k ∷ []) (tasks ++ t ∷ [])
named_more {Z} keys tasks k t n c absent few = record {
  same =
      map-append (λ (x : Vec ℕ Z). x.items) keys (k ∷ []) ∙ ap (λ (l : List (List ℕ)). l ++ k.items ∷ []) n.same
      ∙ ap (λ (x : List ℕ). map enc_task tasks ++ x ∷ []) c.bytes ∙ sym (map-append enc_task tasks (t ∷ []));
  canonical = All-push (λ u. IsCanonicalTask u (enc_task u)) tasks t n.canonical (subst (IsCanonicalTask t) c.bytes c);
  distinct = all_pairs_push (λ u v. u ≢ v) tasks t n.distinct (λ i d lt same. absent (i, lt, same_at tasks i d t lt ∙ same));
  few = omega (arith, length_push tasks t);
}
  where
    same_at : (ts : List Task) (i : ℕ) (d e : Task) → i < length ts → get_or ts i e ≡ get_or ts i d
    same_at ts i d e lt = get_or_default ts i e d lt

-- ---- a key that is added

pub added : {Z : Type 0} (keys : List (Vec ℕ Z)) (bytes : List ℕ) → IsFree keys bytes → list_any (λ (k : Vec ℕ Z). bytes_eq bytes k.items) keys ≡ false
added {Z} [] bytes f = refl
added {Z} (k ∷ keys) bytes f =
    let first : bytes_eq bytes k.items ≡ false = unequal (bytes_eq bytes k.items)
    (λ e. f.apart 0 k (omega arith) (sym ((bytes_eq-Decides bytes k.items).0 e))) in
    let rest = added keys bytes (record { apart = λ i d lt. f.apart (suc i) d (omega arith) }) in
    rw (first, rest) refl
  where
    unequal : (b : Bool) → (b ≡ true → ⊥) → b ≡ false
    unequal true h = absurd (h refl)
    unequal false h = refl

-- ---- a task at a number

pub same_as : (tasks : List Task) (i : ℕ) (other t : Task) → All (λ u. IsCanonicalTask u (enc_task u)) tasks → slice_get tasks i ≡ Some other
    → IsCanonicalTask t (enc_task t) → (o : Ordering)
    → (IsEncodableTask other → IsEncodableTask t → o ≡ byte_order (enc_task other) (enc_task t)) → o ≡ Equal → slice_get tasks i ≡ Some t
same_as tasks i other t all at c o told_order equal =
    let told : IsCanonicalTask other (enc_task other) =
    subst (λ u. IsCanonicalTask u (enc_task u)) (get_or_from_slice_get tasks i other other at) (all i other (slice_get_within tasks i other at)) in
    at ∙ ap Some (bytes_tell other t told c (exact_bytes (enc_task other) (enc_task t) (sym (told_order told.encodable c.encodable) ∙ equal)))

-- a task whose canonical bytes come is what is read
pub met_task : (o : Option Task) (t copy : Task) (front bs rest : List ℕ) → IfSome o (λ u. IsCanonicalTask u front) → o ≡ Some t → copy ≡ t
    → bytes_eq (take (length front) bs) front ≡ true → rest ≡ drop (length front) bs → task_at bs ≡ Ok (copy, rest)
met_task o t copy front bs rest canonical named copied comes left =
    let c : IsCanonicalTask t front = subst (λ (p : Option Task). IfSome p (λ u. IsCanonicalTask u front)) named canonical in
    let parts : front ++ rest ≡ bs =
    ap (λ (x : List ℕ). x ++ rest) (sym ((bytes_eq-Decides (take (length front) bs) front).0 comes))
    ∙ ap (λ (x : List ℕ). take (length front) bs ++ x) left ∙ take-append-drop (length front) bs in
    ap (λ (x : List ℕ). task_at x) (sym parts) ∙ ap at_front (task_again t front rest c) ∙ ap (λ (u : Task). Ok (u, rest)) (sym copied)
  where
    at_front : Result (Task × List ℕ) ValueFault → Parsed Task
    at_front = told
