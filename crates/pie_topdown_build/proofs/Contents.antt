-- The contents of writes, one after another.
use Rattle.std.proofs.Common.{◌≡◌, ℕ, ◌+◌, ◌<◌, ◌^◌, List, [], ◌∷◌, ◌++◌, length, map, take, get_or, Vec, Global, refl, sym, ap, subst, ◌∙◌}
use Rattle.std.proofs.lemmas.List.{take_more, take_all}
use Rattle.std.specs.Prelude.{◌≤◌}
use Rattle.sha2.specs.Sha256.{sha256}
use Rattle.pie_cache.specs.inner.Texts.{AreContents}

-- one write more, with its content
contents_push : (ws : List (List ℕ × List ℕ)) (cs : List (List ℕ)) (w : List ℕ × List ℕ) (c : List ℕ) → AreContents ws cs → sha256 c ≡ w.1
    → length c < 2 ^ 32 → AreContents (ws ++ w ∷ []) (cs ++ c ∷ [])
contents_push [] [] w c are hash short = (hash, short, tt)
contents_push [] (d ∷ cs) w c are hash short = absurd are
contents_push (v ∷ ws) [] w c are hash short = absurd are
contents_push (v ∷ ws) (d ∷ cs) w c are hash short = (are.0, are.1, contents_push ws cs w c are.2 hash short)

mapped_push : {A B : Type 0} (f : A → B) (xs : List A) (x : A) → map f (xs ++ x ∷ []) ≡ map f xs ++ f x ∷ []
mapped_push f [] x = refl
mapped_push f (y ∷ ys) x = ap (λ zs. f y ∷ zs) (mapped_push f ys x)

-- the contents of the first writes
abbrev pub AreFirst : List (List ℕ × List ℕ) → ℕ → List (Vec ℕ Global) → Type 0
AreFirst ws n cs = AreContents (take n ws) (map (λ (v : Vec ℕ Global). v.items) cs)

pub first_none : (ws : List (List ℕ × List ℕ)) → AreFirst ws 0 []
first_none ws = tt

pub first_more : (ws : List (List ℕ × List ℕ)) (n : ℕ) (cs ds : List (Vec ℕ Global)) (w : List ℕ × List ℕ) (c : Vec ℕ Global) → n < length ws
    → AreFirst ws n cs → sha256 c.items ≡ (get_or ws n w).1 → length c.items < 2 ^ 32 → ds ≡ cs ++ c ∷ [] → AreFirst ws (n + 1) ds
first_more ws n cs ds w c inside are hash short more =
    subst (λ (xs : List (List ℕ × List ℕ)). AreContents xs (map (λ (v : Vec ℕ Global). v.items) ds)) (sym (take_more ws n w inside))
    (subst (AreContents (take n ws ++ get_or ws n w ∷ [])) (sym (ap (map (λ (v : Vec ℕ Global). v.items)) more ∙ mapped_push (λ (v : Vec ℕ Global). v.items) cs c))
    (contents_push (take n ws) (map (λ (v : Vec ℕ Global). v.items) cs) (get_or ws n w) c.items are hash short))

pub first_all : (ws : List (List ℕ × List ℕ)) (n : ℕ) (cs : List (Vec ℕ Global)) → length ws ≤ n → AreFirst ws n cs
    → AreContents ws (map (λ (v : Vec ℕ Global). v.items) cs)
first_all ws n cs past are = subst (λ (xs : List (List ℕ × List ℕ)). AreContents xs (map (λ (v : Vec ℕ Global). v.items) cs)) (take_all n ws past) are
