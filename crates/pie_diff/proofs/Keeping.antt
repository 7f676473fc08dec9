-- Some of the files of a list.
use Rattle.std.proofs.Common.{◌≡◌, ℕ, Bool, List, [], ◌∷◌}
use Rattle.std.proofs.Common.{Vec}
use Rattle.std.specs.declared.cmp.Ordering.TheVariants.{Less}
use Rattle.std.specs.List.{filter, AllByRecursion as ByRecursion}
use Rattle.std.specs.List.Sorted.{IsStrictlySortedBy}
use Rattle.std.proofs.lemmas.Bool.{cond_both}
use Rattle.pie_reach.specs.Plan.{path_cmp}
use Rattle.pie_diff.specs.Hashes.{files_paths}

module _ {Z : Type 0} (p : List ℕ × Vec ℕ Z → Bool) where
  above_filter : (P : List ℕ → Type 0) (files : List (List ℕ × Vec ℕ Z)) → ByRecursion P (files_paths files) → ByRecursion P (files_paths (filter p files))
  above_filter P [] h = h
  above_filter P (f ∷ files) h =
      let rest = above_filter P files h.1 in
      cond_both (p f) (f ∷ filter p files) (filter p files) (λ (l : List (List ℕ × Vec ℕ Z)). ByRecursion P (files_paths l)) (λ _. (h.0, rest)) (λ _. rest)

  pub order_filter : (files : List (List ℕ × Vec ℕ Z)) → IsStrictlySortedBy path_cmp (files_paths files) → IsStrictlySortedBy path_cmp (files_paths (filter p files))
  unfolding IsStrictlySortedBy
  order_filter [] h = h
  order_filter (f ∷ files) h =
      let rest = order_filter files h.1 in
      let above = above_filter (λ q. path_cmp f.0 q ≡ Less) files h.0 in
      cond_both (p f) (f ∷ filter p files) (filter p files) (λ (l : List (List ℕ × Vec ℕ Z)). IsStrictlySortedBy path_cmp (files_paths l)) (λ _. (above, rest)) (λ _. rest)
