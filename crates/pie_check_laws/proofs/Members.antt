-- What is among the elements of a list, of a map and of lists joined end to end.
use Rattle.std.proofs.Common.{◌≡◌, ◌⊎◌, inl, inr, List, [], ◌∷◌, ◌++◌, map, sym, subst, arith}
use Rattle.std.specs.List.{Contains, flat_map}
use Rattle.std.proofs.lemmas.List.Elements.{Contains-append_left, Contains-append_right, Contains-append_cases, Contains-push, Contains-push_cases}

pub none_in : {X : Type 0} (x : X) → Contains [] x → ⊥
none_in x h = let l = h.1 in omega arith

pub here : {X : Type 0} (x : X) (xs : List X) → Contains (x ∷ xs) x
here x xs = Contains-append_left (x ∷ []) xs x (Contains-push [] x)

pub there : {X : Type 0} (x y : X) (xs : List X) → Contains xs y → Contains (x ∷ xs) y
there x y xs h = Contains-append_right (x ∷ []) xs y h

pub only_one : {X : Type 0} (x y : X) → Contains (x ∷ []) y → x ≡ y
only_one x y h = by (Contains-push_cases [] x y h)
  where
    by : Contains [] y ⊎ (x ≡ y) → x ≡ y
    by (inl k) = absurd (none_in y k)
    by (inr e) = e

pub here_or_there : {X : Type 0} (x y : X) (xs : List X) → Contains (x ∷ xs) y → (x ≡ y) ⊎ Contains xs y
here_or_there x y xs h = by (Contains-append_cases (x ∷ []) xs y h)
  where
    by : Contains (x ∷ []) y ⊎ Contains xs y → (x ≡ y) ⊎ Contains xs y
    by (inl k) = inl (only_one x y k)
    by (inr k) = inr k

pub into_flat : {X A : Type 0} (f : X → List A) (xs : List X) (x : X) (a : A) → Contains xs x → Contains (f x) a → Contains (flat_map f xs) a
into_flat f [] x a h k = absurd (none_in x h)
into_flat f (y ∷ ys) x a h k = by (here_or_there y x ys h) (λ m. into_flat f ys x a m k)
  where
    by : (y ≡ x) ⊎ Contains ys x → (Contains ys x → Contains (flat_map f ys) a) → Contains (f y ++ flat_map f ys) a
    by (inl e) r = Contains-append_left (f y) (flat_map f ys) a (subst (λ z. Contains (f z) a) (sym e) k)
    by (inr m) r = Contains-append_right (f y) (flat_map f ys) a (r m)

pub from_flat : {X A : Type 0} (f : X → List A) (xs : List X) (a : A) → Contains (flat_map f xs) a → (x : X) × Contains xs x × Contains (f x) a
from_flat f [] a h = absurd (none_in a h)
from_flat {X} {A} f (y ∷ ys) a h = by (Contains-append_cases (f y) (flat_map f ys) a h) (from_flat f ys a)
  where
    by : Contains (f y) a ⊎ Contains (flat_map f ys) a → (Contains (flat_map f ys) a → (x : X) × Contains ys x × Contains (f x) a)
        → (x : X) × Contains (y ∷ ys) x × Contains (f x) a
    by (inl k) r = (y, here y ys, k)
    by (inr k) r = let m = r k in (m.0, there y m.0 ys m.1, m.2)

pub into_map : {X A : Type 0} (f : X → A) (xs : List X) (x : X) → Contains xs x → Contains (map f xs) (f x)
into_map f [] x h = absurd (none_in x h)
into_map f (y ∷ ys) x h = by (here_or_there y x ys h) (into_map f ys x)
  where
    by : (y ≡ x) ⊎ Contains ys x → (Contains ys x → Contains (map f ys) (f x)) → Contains (f y ∷ map f ys) (f x)
    by (inl e) r = subst (λ z. Contains (f y ∷ map f ys) (f z)) e (here (f y) (map f ys))
    by (inr k) r = there (f y) (f x) (map f ys) (r k)

pub from_map : {X A : Type 0} (f : X → A) (xs : List X) (a : A) → Contains (map f xs) a → (x : X) × Contains xs x × (f x ≡ a)
from_map f [] a h = absurd (none_in a h)
from_map {X} {A} f (y ∷ ys) a h = by (here_or_there (f y) a (map f ys) h) (from_map f ys a)
  where
    by : (f y ≡ a) ⊎ Contains (map f ys) a → (Contains (map f ys) a → (x : X) × Contains ys x × (f x ≡ a))
        → (x : X) × Contains (y ∷ ys) x × (f x ≡ a)
    by (inl e) r = (y, here y ys, e)
    by (inr k) r = let m = r k in (m.0, there y m.0 ys m.1, m.2)
