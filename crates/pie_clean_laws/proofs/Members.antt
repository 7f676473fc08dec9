-- Paths in a list, and the paths of the builder's own files.
use Rattle.std.proofs.Common.{ℕ, ◌≡◌, ◌⊎◌, inl, inr, true, List, [], ◌∷◌, sym, subst}
use Rattle.std.specs.List.{Contains}
use Rattle.std.proofs.lemmas.List.Elements.{All-contains}
use Rattle.pie_check_laws.proofs.Members.{none_in, here_or_there, here, there}
use Rattle.pie_model.specs.Paths.{among}
use Rattle.pie_model.proofs.Basics.{among_here, among_there, among_split}
use Rattle.pie_store.specs.Pending.{in_order}
use Rattle.pie_store.proofs.InOrder.{in_path_order}

pub among_in : (p : List ℕ) (xs : List (List ℕ)) → Contains xs p → among p xs ≡ true
among_in p [] h = absurd (none_in p h)
among_in p (x ∷ xs) h = by (here_or_there x p xs h) (λ i. among_in p xs i)
  where
    by : (x ≡ p) ⊎ Contains xs p → (Contains xs p → among p xs ≡ true) → among p (x ∷ xs) ≡ true
    by (inl e) f = subst (λ z. among p (z ∷ xs) ≡ true) (sym e) (among_here p xs)
    by (inr i) f = among_there p x xs (f i)

pub in_among : (p : List ℕ) (xs : List (List ℕ)) → among p xs ≡ true → Contains xs p
in_among p [] h = cc
in_among p (x ∷ xs) h = by (among_split p x xs h) (λ i. in_among p xs i)
  where
    by : (p ≡ x) ⊎ (among p xs ≡ true) → (among p xs ≡ true → Contains xs p) → Contains (x ∷ xs) p
    by (inl e) f = subst (λ z. Contains (x ∷ xs) z) (sym e) (here x xs)
    by (inr i) f = there x p xs (f i)

-- the paths of a list are those of it in order
pub among_ordered : (p : List ℕ) (xs : List (List ℕ)) → among p xs ≡ true → among p (in_order xs) ≡ true
among_ordered p xs h = among_in p (in_order xs) (All-contains (λ q. Contains (in_order xs) q) xs p (in_path_order xs).all (in_among p xs h))
