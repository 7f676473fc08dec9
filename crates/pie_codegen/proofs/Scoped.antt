-- Names that are kept in the order in which they came, as a scope with the newest first.
use Rattle.std.proofs.Common.{◌≡◌, ℕ, suc, ◌+◌, ◌-◌, ◌≤◌, ◌<◌, get_or, List, [], ◌∷◌, ◌++◌, map, reverse, length, take, drop, refl, sym, ap, ◌∙◌, arith}
use Rattle.std.specs.Prelude.{Bool, true, false, ◌==◌, cond}
use lib.Pointwise.{pointwise}
use Rattle.std.proofs.lemmas.List.{reverse-append, map-append, length-reverse, take-append-drop, length-drop, take_more, take_all}
use Rattle.std.proofs.Math.Seq.{drop-append_seam}
use Rattle.pie_codegen.specs.declared.scope.Bound.{Bound}
use Rattle.pie_codegen.specs.Compiled.{Scope, slot_of}
use Rattle.pie_codegen.specs.Scopes.{entry_of, as_scope, oldest}

scope_append : (xs ys : List Bound) → as_scope (xs ++ ys) ≡ as_scope ys ++ as_scope xs
scope_append xs ys = ap reverse (map-append entry_of xs ys) ∙ reverse-append (map entry_of xs) (map entry_of ys)

pub scope_end : (xs : List Bound) (x : Bound) → as_scope (xs ++ x ∷ []) ≡ entry_of x ∷ as_scope xs
scope_end xs x = scope_append xs (x ∷ [])

length_entries : (xs : List Bound) → length (map entry_of xs) ≡ length xs
length_entries [] = refl
length_entries (x ∷ xs) = omega (arith, length_entries xs)

pub scope_length : (xs : List Bound) → length (as_scope xs) ≡ length xs
scope_length xs = length-reverse (map entry_of xs) ∙ length_entries xs

pub scope_take : (n : ℕ) (xs : List Bound) → as_scope (take n xs) ≡ oldest n (as_scope xs)
scope_take n xs =
    let newer = as_scope (drop n xs) in
    let k : length newer ≡ length (as_scope xs) - n = scope_length (drop n xs) ∙ length-drop n xs ∙ ap (λ k. k - n) (sym (scope_length xs)) in
    let whole : as_scope xs ≡ newer ++ as_scope (take n xs) = ap as_scope (sym (take-append-drop n xs)) ∙ scope_append (take n xs) (drop n xs) in
    sym (drop-append_seam newer (as_scope (take n xs)))
    ∙ ap (λ m. drop m (newer ++ as_scope (take n xs))) k
    ∙ ap (drop (length (as_scope xs) - n)) (sym whole)

pub oldest_all : (sc : Scope) → oldest (length sc) sc ≡ sc
oldest_all sc = let e : length sc - length sc ≡ 0 = omega arith in ap (λ n. drop n sc) e

pub oldest_more : (n : ℕ) (x : List ℕ × ℕ) (sc : Scope) → n ≤ length sc → oldest n (x ∷ sc) ≡ oldest n sc
oldest_more n x sc h = let e : length (x ∷ sc) - n ≡ suc (length sc - n) = omega arith in ap (λ k. drop k (x ∷ sc)) e

pub from_the_end : (bs : List Bound) (name : List ℕ) → slot_of name (as_scope (take (length bs) bs)) ≡ slot_of name (as_scope bs)
from_the_end bs name = ap (λ xs. slot_of name (as_scope xs)) (take_all (length bs) bs (omega arith))

one_older : (bs : List Bound) (name : List ℕ) (n : ℕ) (b : Bound) → 0 < n → n ≤ length bs → b ≡ get_or bs (n - 1) b
    → slot_of name (as_scope (take n bs)) ≡ cond (pointwise ◌==◌ name b.name) b.slot (slot_of name (as_scope (take (n - 1) bs)))
one_older bs name n b some h p =
    let e : n ≡ n - 1 + 1 = omega arith in
    ap (λ k. slot_of name (as_scope (take k bs))) e
    ∙ ap (λ xs. slot_of name (as_scope xs)) (take_more bs (n - 1) b (omega arith))
    ∙ ap (slot_of name) (scope_end (take (n - 1) bs) (get_or bs (n - 1) b))
    ∙ ap (λ (x : Bound). slot_of name (entry_of x ∷ as_scope (take (n - 1) bs))) (sym p)

chosen : (b : Bool) (i j : ℕ) → b ≡ true → cond b i j ≡ i
chosen true i j h = refl
chosen false i j h = let f : ⊥ = cc in absurd f

passed : (b : Bool) (i j : ℕ) → b ≡ false → cond b i j ≡ j
passed true i j h = let f : ⊥ = cc in absurd f
passed false i j h = refl

pub hit : (bs : List Bound) (name : List ℕ) (n : ℕ) (b : Bound) → 0 < n → n ≤ length bs → b ≡ get_or bs (n - 1) b → pointwise ◌==◌ name b.name ≡ true
    → slot_of name (as_scope (take n bs)) ≡ slot_of name (as_scope bs) → b.slot ≡ slot_of name (as_scope bs)
hit bs name n b some h p t so =
    sym (chosen (pointwise ◌==◌ name b.name) b.slot (slot_of name (as_scope (take (n - 1) bs))) t) ∙ sym (one_older bs name n b some h p) ∙ so

pub miss : (bs : List Bound) (name : List ℕ) (n : ℕ) (b : Bound) → 0 < n → n ≤ length bs → b ≡ get_or bs (n - 1) b → pointwise ◌==◌ name b.name ≡ false
    → slot_of name (as_scope (take n bs)) ≡ slot_of name (as_scope bs) → slot_of name (as_scope (take (n - 1) bs)) ≡ slot_of name (as_scope bs)
miss bs name n b some h p t so =
    sym (passed (pointwise ◌==◌ name b.name) b.slot (slot_of name (as_scope (take (n - 1) bs))) t) ∙ sym (one_older bs name n b some h p) ∙ so

pub oldest_one : (x : List ℕ × ℕ) (sc : Scope) → oldest (length sc) (x ∷ sc) ≡ sc
oldest_one x sc = oldest_more (length sc) x sc (omega arith) ∙ oldest_all sc
