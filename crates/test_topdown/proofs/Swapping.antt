-- Offers one after another, and with another content.
use Rattle.std.proofs.Common.{◌≡◌, ℕ, ◌+◌, ◌<◌, ◌≤◌, List, [], ◌∷◌, ◌++◌, length, map, take, get_or, sym, ap, subst, ◌∙◌}
use Rattle.std.specs.List.{All}
use Rattle.std.proofs.lemmas.List.{map-append, take_more, take_all}
use Rattle.std.proofs.lemmas.List.Elements.{All-append}
use Rattle.pie_store.specs.declared.offers.Offer.{Offer}
use Rattle.pie_store.specs.inner.Offers.{Offered, offered, IsOffer}
use Rattle.test_topdown.specs.Swaps.{swapped_by}

pub joined_offers : (xs ys zs : List Offer) (one other : List Offered) → zs ≡ xs ++ ys → map offered xs ≡ one → map offered ys ≡ other
    → map offered zs ≡ one ++ other
joined_offers xs ys zs one other joined first second =
    ap (map offered) joined ∙ map-append offered xs ys ∙ ap (λ os. os ++ map offered ys) first ∙ ap (λ os. one ++ os) second

pub joined_rows : (xs ys zs : List Offer) → zs ≡ xs ++ ys → All IsOffer xs → All IsOffer ys → All IsOffer zs
joined_rows xs ys zs joined first second = subst (All IsOffer) (sym joined) (All-append IsOffer xs ys first second)

-- the first entries with another content
abbrev pub AreSwapped : List ℕ → List Offer → ℕ → List Offer → Type 0
AreSwapped content es n os = map offered os ≡ map (swapped_by content) (map offered (take n es))

pub swapped_more : (content : List ℕ) (es os more : List Offer) (n : ℕ) (e o : Offer) → n < length es → e ≡ get_or es n e → AreSwapped content es n os
    → offered o ≡ swapped_by content (offered e) → more ≡ os ++ o ∷ [] → AreSwapped content es (n + 1) more
swapped_more content es os more n e o inside at before one pushed =
    ap (map offered) pushed ∙ map-append offered os (o ∷ []) ∙ ap (λ xs. xs ++ offered o ∷ []) before
    ∙ ap (λ x. map (swapped_by content) (map offered (take n es)) ++ x ∷ []) one
    ∙ sym (ap (λ xs. map (swapped_by content) (map offered xs)) (take_more es n e inside ∙ ap (λ x. take n es ++ x ∷ []) (sym at))
    ∙ ap (map (swapped_by content)) (map-append offered (take n es) (e ∷ []))
    ∙ map-append (swapped_by content) (map offered (take n es)) (offered e ∷ []))

pub swapped_all : (content : List ℕ) (es os : List Offer) (n : ℕ) → length es ≤ n → AreSwapped content es n os
    → map offered os ≡ map (swapped_by content) (map offered es)
swapped_all content es os n past all = all ∙ ap (λ xs. map (swapped_by content) (map offered xs)) (take_all n es past)
