-- A set of paths is the list of its keys.
use Rattle.std.proofs.Common.{◌≡◌, ℕ, Bool, true, false, cond, ◌||◌, List, [], ◌∷◌, ◌++◌, map, Vec, refl, sym, ap, ◌∙◌}
use Rattle.std.specs.List.{list_any}
use Rattle.std.proofs.lemmas.List.{map-append}
use Rattle.pie_value.specs.BuiltinTexts.{same_bytes}
use Rattle.pie_operators.specs.Domain.{holds, with_path}
use Rattle.pie_vm.specs.Stacks.{bytes_of}

module _ {Z : Type 0} where
  pub held : (keys : List (Vec ℕ Z)) (p : List ℕ) → list_any (λ (k : Vec ℕ Z). same_bytes p k.items) keys ≡ holds (bytes_of keys) p
  held [] p = refl
  held (k ∷ ks) p = ap (λ b. same_bytes p k.items || b) (held ks p)

  by_test : (b : Bool) (keys : List (Vec ℕ Z)) (v : Vec ℕ Z) → bytes_of (cond b keys (keys ++ v ∷ [])) ≡ cond b (bytes_of keys) (bytes_of keys ++ v.items ∷ [])
  by_test true keys v = refl
  by_test false keys v = map-append (λ (k : Vec ℕ Z). k.items) keys (v ∷ [])

  pub added : (keys : List (Vec ℕ Z)) (v : Vec ℕ Z)
      → bytes_of (cond (list_any (λ (k : Vec ℕ Z). same_bytes v.items k.items) keys) keys (keys ++ v ∷ [])) ≡ with_path (bytes_of keys) v.items
  added keys v = by_test (list_any (λ (k : Vec ℕ Z). same_bytes v.items k.items) keys) keys v
      ∙ ap (λ b. cond b (bytes_of keys) (bytes_of keys ++ v.items ∷ [])) (held keys v.items)
