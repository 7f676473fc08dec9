-- What a task stages is what it wrote first, in the model.
use Rattle.std.proofs.Common.{◌≡◌, ℕ, true, false, cond, Option, Some, None, List, [], ◌∷◌, ◌++◌, bytes_eq, refl, sym, ap, subst, ◌∙◌}
use Rattle.std.specs.Prelude.{Bool, ◌&&◌}
use Rattle.std.specs.Ordering.{nat_cmp, is_eq}
use Rattle.std.specs.declared.cmp.Ordering.TheVariants.{Equal}
use Rattle.std.specs.Cmp.{nat_cmp_is, Equal-is}
use Rattle.std.specs.Cmp.Lexicographic.{slice_cmp}
use Rattle.std.specs.FinMap.{nat_cmp-IsAntisymmetric}
use Rattle.std.proofs.lemmas.Map.Text.{is_eq-slice_cmp}
use Rattle.sha2.specs.Sha256.{sha256}
use Rattle.pie_view.specs.Content.{Staged, content}
use Rattle.pie_model.specs.Paths.{Path}
use Rattle.pie_model.specs.Seen.{first_write}
use Rattle.pie_model.specs.Evaluation.{World}
use Rattle.pie_model.specs.Records.{hashed}
use Rattle.pie_model.proofs.Basics.{same_bytes, bytes_same, clash}
use Rattle.pie_model_pipeline.specs.World.{world}
use Rattle.pie_running.specs.inner.Told.{StagesFirst, KeepsFirst}

-- this one, or else another
abbrev or_else : Option (List ℕ) → Option (List ℕ) → Option (List ℕ)
or_else (Some b) o = Some b
or_else None o = o

or_none : (o : Option (List ℕ)) → o ≡ or_else o None
or_none (Some b) = refl
or_none None = refl

first_end : (p : Path) (ws : List (Path × List ℕ)) (q : Path) (b : List ℕ)
    → first_write p (ws ++ (q, b) ∷ []) ≡ or_else (first_write p ws) (cond (bytes_eq p q) (Some b) None)
first_end p [] q b = refl
first_end p (w ∷ ws) q b = by (bytes_eq p w.0) (first_end p ws q b)
  where
    by : (z : Bool) → first_write p (ws ++ (q, b) ∷ []) ≡ or_else (first_write p ws) (cond (bytes_eq p q) (Some b) None)
        → cond z (Some w.1) (first_write p (ws ++ (q, b) ∷ [])) ≡ or_else (cond z (Some w.1) (first_write p ws)) (cond (bytes_eq p q) (Some b) None)
    by true r = refl
    by false r = r

pub same_number : (n : ℕ) → is_eq (nat_cmp n n) ≡ true
same_number n = ap is_eq (sym (nat_cmp_is n n Equal refl))

pub other_number : (n m : ℕ) → (m ≡ n → ⊥) → is_eq (nat_cmp n m) ≡ false
other_number n m d = by (is_eq (nat_cmp n m)) refl
  where
    by : (z : Bool) → is_eq (nat_cmp n m) ≡ z → z ≡ false
    by true e = absurd (d (sym (nat_cmp-IsAntisymmetric n m ((Equal-is (nat_cmp n m)).0 e))))
    by false e = refl

bytes_turn : (p q : Path) (z : Bool) → bytes_eq p q ≡ z → bytes_eq q p ≡ z
bytes_turn p q true e = subst (λ x. bytes_eq q x ≡ true) (sym (same_bytes p q e)) (bytes_same q)
bytes_turn p q false e = by (bytes_eq q p) refl
  where
    by : (z : Bool) → bytes_eq q p ≡ z → z ≡ false
    by true f = clash (bytes_eq p q) (subst (λ x. bytes_eq p x ≡ true) (sym (same_bytes q p f)) (bytes_same p)) e
    by false f = refl

module _ (old new : Staged) (n : ℕ) (q : Path) (b : List ℕ) (h : KeepsFirst old new n q b) where
  -- the contents of other tasks stay
  pub others_stay : (m : ℕ) → (m ≡ n → ⊥) → (p : Path) → content new m p ≡ content old m p
  others_stay m d p = by (content old n q) h
    where
      by : (o : Option (List ℕ)) → StagesFirst o old new n q b → content new m p ≡ content old m p
      by (Some c) e = ap (λ z. content z m p) e
      by None e = e m p ∙ ap (λ z. cond (z && is_eq (slice_cmp nat_cmp q p)) (Some b) (content old m p)) (other_number n m d)

  -- those of the task are the first ones that it wrote
  pub first_after : (own : List (Path × List ℕ)) → ((p : Path) → content old n p ≡ first_write p own)
      → (p : Path) → content new n p ≡ first_write p (own ++ (q, b) ∷ [])
  first_after own same p = by (content old n q) refl h ∙ sym (first_end p own q b)
    where
      by : (o : Option (List ℕ)) → content old n q ≡ o → StagesFirst o old new n q b
          → content new n p ≡ or_else (first_write p own) (cond (bytes_eq p q) (Some b) None)
      by (Some c) e k = ap (λ z. content z n p) k ∙ same p ∙ at (bytes_eq p q) refl
        where
          at : (z : Bool) → bytes_eq p q ≡ z → first_write p own ≡ or_else (first_write p own) (cond z (Some b) None)
          at true f = subst (λ o. o ≡ or_else o (Some b)) (sym (sym (same p) ∙ ap (λ x. content old n x) (same_bytes p q f) ∙ e)) refl
          at false f = or_none (first_write p own)
      by None e k =
          k n p ∙ ap (λ z. cond (z && is_eq (slice_cmp nat_cmp q p)) (Some b) (content old n p)) (same_number n)
          ∙ ap (λ z. cond z (Some b) (content old n p)) (is_eq-slice_cmp q p) ∙ at (bytes_eq p q) refl
        where
          at : (z : Bool) → bytes_eq p q ≡ z → cond (bytes_eq q p) (Some b) (content old n p) ≡ or_else (first_write p own) (cond z (Some b) None)
          at true f =
              ap (λ y. cond y (Some b) (content old n p)) (bytes_turn p q true f)
              ∙ ap (λ o. or_else o (Some b)) (sym (sym (same p) ∙ ap (λ x. content old n x) (same_bytes p q f) ∙ e))
          at false f = ap (λ y. cond y (Some b) (content old n p)) (bytes_turn p q false f) ∙ same p ∙ or_none (first_write p own)

-- ---- writes with their hashes

pub hashed_end : (w : World) (ws : List (Path × List ℕ)) (p : Path) (b : List ℕ) → hashed w (ws ++ (p, b) ∷ []) ≡ hashed w ws ++ (p, w.hash b) ∷ []
hashed_end w [] p b = refl
hashed_end w (x ∷ xs) p b = ap (λ z. (x.0, w.hash x.1) ∷ z) (hashed_end w xs p b)

pub hash_is_sha : (b : List ℕ) → world.hash b ≡ sha256 b
unfolding world
hash_is_sha b = refl
