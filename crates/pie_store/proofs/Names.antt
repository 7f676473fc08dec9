-- A set of names has those that were inserted.
use Rattle.std.proofs.Common.{◌≡◌, ℕ, ◌+◌, ◌<◌, Bool, true, false, ◌||◌, cond, List, [], ◌∷◌, ◌++◌, length, get_or, drop, refl, sym, ap, ◌∙◌}
use Rattle.std.specs.Prelude.{Vec}
use Rattle.std.specs.List.{list_any}
use Rattle.std.specs.Str.{bytes_eq}
use Rattle.std.proofs.lemmas.Slice.Eq.{bytes_eq-Decides}
use Rattle.std.proofs.lemmas.List.{drop_more}
use Rattle.indexmap.specs.IndexSet.{insert_key}

abbrev same_key : {Z : Type 0} → Vec ℕ Z → Vec ℕ Z → Bool
same_key k x = bytes_eq k.items x.items

abbrev named : {Z : Type 0} → List ℕ → Vec ℕ Z → Bool
named name k = bytes_eq name k.items

abbrev is_func : List ℕ → List ℕ × List ℕ → Bool
is_func name f = bytes_eq name f.0

any_push : {Z : Type 0} (p : Vec ℕ Z → Bool) (ks : List (Vec ℕ Z)) (k : Vec ℕ Z) → list_any p (ks ++ k ∷ []) ≡ (p k || list_any p ks)
any_push p [] k = refl
any_push p (x ∷ ks) k = ap (λ (b : Bool). p x || b) (any_push p ks k) ∙ turned (p x) (p k) (list_any p ks)
  where
    turned : (a b c : Bool) → (a || (b || c)) ≡ (b || (a || c))
    turned true true c = refl
    turned true false c = refl
    turned false b c = refl

either : (a b : Bool) → (a || b) ≡ true → (a ≡ false → b ≡ true)
either true b e f = absurd (cc)
either false b e f = e

any_held : {Z : Type 0} (name : List ℕ) (ks : List (Vec ℕ Z)) (k : Vec ℕ Z) → list_any (same_key k) ks ≡ true → named name k ≡ true
    → list_any (named name) ks ≡ true
any_held name [] k e h = absurd (cc)
any_held {Z} name (x ∷ ks) k e h = held_by (same_key k x) refl (any_held name ks k)
  where
    always : (a : Bool) → (a || true) ≡ true
    always true = refl
    always false = refl

    held_by : (b : Bool) → same_key k x ≡ b
        → (list_any (same_key k) ks ≡ true → named name k ≡ true → list_any (named name) ks ≡ true) → list_any (named name) (x ∷ ks) ≡ true
    held_by true s more =
        let same : k.items ≡ x.items = (bytes_eq-Decides k.items x.items).0 s in
        let y : named name x ≡ true = sym (ap (bytes_eq name) same) ∙ h in ap (λ (b : Bool). b || list_any (named name) ks) y
    held_by false s more =
        ap (λ (b : Bool). named name x || b) (more (either (same_key k x) (list_any (same_key k) ks) e s) h) ∙ always (named name x)

any_insert : {Z : Type 0} (name : List ℕ) (ks : List (Vec ℕ Z)) (k : Vec ℕ Z)
    → list_any (named name) (insert_key same_key ks k) ≡ (named name k || list_any (named name) ks)
any_insert {Z} name ks k = by (list_any (same_key k) ks) (named name k) refl refl
  where
    by : (b c : Bool) → list_any (same_key k) ks ≡ b → named name k ≡ c
        → list_any (named name) (cond b ks (ks ++ k ∷ [])) ≡ (c || list_any (named name) ks)
    by true true e h = any_held name ks k e h
    by true false e h = refl
    by false c e h = any_push (named name) ks k ∙ ap (λ (a : Bool). a || list_any (named name) ks) h

-- a set after an insertion
pub inserted : {Z : Type 0} (old new : List (Vec ℕ Z)) (k : Vec ℕ Z) (name other : List ℕ) → k.items ≡ name → new ≡ insert_key same_key old k
    → list_any (named other) new ≡ (bytes_eq other name || list_any (named other) old)
inserted old new k name other e ins =
    ap (λ l. list_any (named other) l) ins
    ∙ any_insert other old k
    ∙ ap (λ (x : List ℕ). bytes_eq other x || list_any (named other) old) e

pub known_more : (name : List ℕ) (old new : Bool) (funcs : List (List ℕ × List ℕ)) (i : ℕ)
    (f : List ℕ × List ℕ) (all : Bool) → i < length funcs → f ≡ get_or funcs i f → new ≡ (bytes_eq name f.0 || old)
    → (old || list_any (is_func name) (drop i funcs)) ≡ all
    → (new || list_any (is_func name) (drop (i + 1) funcs)) ≡ all
known_more name old new funcs i f all lt is e inv =
    let rest = list_any (is_func name) (drop (i + 1) funcs) in
    ap (λ (b : Bool). b || rest) e
    ∙ moved (bytes_eq name f.0) old rest
    ∙ ap (λ (x : List ℕ × List ℕ). old || (is_func name x || rest)) is
    ∙ sym (ap (λ (l : List (List ℕ × List ℕ)). old || list_any (is_func name) l) (drop_more funcs i f lt)) ∙ inv
  where
    moved : (a b c : Bool) → ((a || b) || c) ≡ (b || (a || c))
    moved true true c = refl
    moved true false c = refl
    moved false b c = refl

pub known_step : {Z : Type 0} (name : List ℕ) (old new : List (Vec ℕ Z)) (k : Vec ℕ Z) (funcs : List (List ℕ × List ℕ)) (i : ℕ)
    (f : List ℕ × List ℕ) (all : Bool) → i < length funcs → f ≡ get_or funcs i f → k.items ≡ f.0 → new ≡ insert_key same_key old k
    → (list_any (named name) old || list_any (is_func name) (drop i funcs)) ≡ all
    → (list_any (named name) new || list_any (is_func name) (drop (i + 1) funcs)) ≡ all
known_step {Z} name old new k funcs i f all lt is e ins inv = known_more name _ _ funcs i f all lt is (inserted old new k f.0 name e ins) inv
