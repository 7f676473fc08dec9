-- A listing comes back from its canonical bytes.
use Rattle.std.proofs.Common.{ℕ, ◌≡◌, ◌<◌, ◌≤◌, ◌^◌, true, leb, List, [], ◌∷◌, ◌++◌, length, map, Ok, Err, refl, sym, ◌∙◌, ap, ap₂, arith}
use Rattle.std.proofs.lemmas.Bool.{leb-true}
use Rattle.pie_value.specs.Tree.{Trees, TPath, TList, items_of, count_of}
use Rattle.pie_value.specs.Size.{size_of}
use Rattle.pie_value.specs.Canonical.{be32, counted, enc, encs, HaveShortParts}
use Rattle.pie_value.specs.Reading.{Parsed, number_of, counted_of}
use Rattle.pie_value.proofs.Lengths.{length_enc, short_by_size}
use Rattle.pie_value.proofs.Taking.{number_again, counted_again}
use Rattle.pie_model_pipeline.specs.World.{world}

-- the paths of a listing as items
abbrev paths_in : List (List ℕ) → Trees
paths_in ps = items_of (map TPath ps)

abbrev read_or : {A : Type 0} → A → Parsed A → A
read_or x (Ok p) = p.0
read_or x (Err e) = x

abbrev left_or : {A : Type 0} → List ℕ → Parsed A → List ℕ
left_or r (Ok p) = p.1
left_or r (Err e) = r

one_read : {A : Type 0} (x y : A) (r s : List ℕ) → (p q : Parsed A) → p ≡ Ok (x, r) → q ≡ Ok (y, s) → p ≡ q → (x ≡ y) × (r ≡ s)
one_read x y r s p q h k e = (ap (read_or x) (sym h ∙ e ∙ k), ap (left_or r) (sym h ∙ e ∙ k))

same_prefix : (p q r s : List ℕ) → length p < 2 ^ 32 → length q < 2 ^ 32 → counted p ++ r ≡ counted q ++ s → (p ≡ q) × (r ≡ s)
same_prefix p q r s a b e = one_read p q r s _ _ (counted_again p r a) (counted_again q s b) (ap counted_of e)

same_number : (m n : ℕ) (r s : List ℕ) → m < 2 ^ 32 → n < 2 ^ 32 → be32 m ++ r ≡ be32 n ++ s → r ≡ s
same_number m n r s a b e = (one_read m n r s _ _ (number_again m r a) (number_again n s b) (ap number_of e)).1

tails : (c : ℕ) (r s : List ℕ) → c ∷ r ≡ c ∷ s → r ≡ s
tails c r s e = cc

items_differ : (a b : List (List ℕ)) → HaveShortParts (paths_in a) → HaveShortParts (paths_in b) → encs (paths_in a) ≡ encs (paths_in b) → a ≡ b
items_differ [] [] x y e = refl
items_differ [] (q ∷ qs) x y e = cc
items_differ (p ∷ ps) [] x y e = cc
items_differ (p ∷ ps) (q ∷ qs) x y e =
    let f = same_prefix p q (encs (paths_in ps)) (encs (paths_in qs)) x.0 y.0 (tails 4 _ _ e) in
    ap₂ (λ u us. u ∷ us) f.0 (items_differ ps qs x.1 y.1 f.1)

within : (ps : List (List ℕ)) → leb (length (enc (TList (paths_in ps)))) 1048576 ≡ true → size_of (TList (paths_in ps)) < 2 ^ 32
within ps h =
    let s : length (enc (TList (paths_in ps))) ≡ size_of (TList (paths_in ps)) = length_enc (TList (paths_in ps)) in
    let k : length (enc (TList (paths_in ps))) ≤ 1048576 = leb-true _ _ h in omega (arith, s, k)

pub listings_tell : (a b : List (List ℕ)) → leb (length (world.listing_bytes a)) world.most_bytes ≡ true
    → leb (length (world.listing_bytes b)) world.most_bytes ≡ true → world.listing_bytes a ≡ world.listing_bytes b → a ≡ b
unfolding world
listings_tell a b la lb e =
    let x = short_by_size (TList (paths_in a)) (within a la) in
    let y = short_by_size (TList (paths_in b)) (within b lb) in
    items_differ a b x.1 y.1 (same_number (count_of (paths_in a)) (count_of (paths_in b)) _ _ x.0 y.0 (tails 5 _ _ e))
