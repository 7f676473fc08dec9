-- Writing entries as the program holds them.
use Rattle.std.proofs.Common.{◌≡◌, ℕ, List, [], ◌∷◌, ◌++◌, length, get_or, refl, sym, ap, ◌∙◌, append_assoc, Vec, Global}
use Rattle.std.specs.Prelude.{All, map}
use Rattle.std.specs.List.{flat_map}
use Rattle.std.proofs.lemmas.List.Elements.{All-nil, All-cons, All-head, All-tail, All-map}
use Rattle.std.proofs.lemmas.List.{length-map}
use Rattle.pie_value.specs.Canonical.{counted}
use Rattle.pie_record.specs.Canonical.{enc_record}
use Rattle.pie_store.specs.declared.offers.Offer.{Offer}
use Rattle.pie_store.specs.inner.Offers.{offered}
use Rattle.pie_cache.specs.inner.Texts.{magic, enc_entry, enc_body, AreContents, IsEntry}
use Rattle.pie_cache.specs.inner.Contents.{enc_offer, IsKeptOffer, IsTrueOffer, IsShort}

-- what is written of things is what is written of what they stand for
pub flat_of : {X Y : Type 0} (f : X → Y) (bytes : Y → List ℕ) (xs : List X) → flat_map (λ x. bytes (f x)) xs ≡ flat_map bytes (map f xs)
flat_of f bytes [] = refl
flat_of f bytes (x ∷ xs) = ap (λ (l : List ℕ). bytes (f x) ++ l) (flat_of f bytes xs)

-- a record and contents behind it
pub entry_written : (o : Offer) (cs : List (Vec ℕ Global)) (a b c : List ℕ) → cs ≡ o.contents.items → b ≡ a ++ enc_record o.row
    → c ≡ b ++ flat_map (λ (v : Vec ℕ Global). counted v.items) cs → c ≡ a ++ enc_offer o
unfolding enc_entry
entry_written o cs a b c same first second =
    second ∙ ap (λ (l : List ℕ). l ++ flat_map (λ (v : Vec ℕ Global). counted v.items) cs) first
    ∙ append_assoc a (enc_record o.row) (flat_map (λ (v : Vec ℕ Global). counted v.items) cs)
    ∙ ap (λ (l : List (Vec ℕ Global)). a ++ (enc_record o.row ++ flat_map (λ (v : Vec ℕ Global). counted v.items) l)) same
    ∙ ap (λ (l : List ℕ). a ++ (enc_record o.row ++ l)) (flat_of (λ (v : Vec ℕ Global). v.items) counted o.contents.items)

-- all parts of a cache file but its digest
pub body_written : (os : List Offer) (a b c d : List ℕ) (n : ℕ) → n ≡ length os → b ≡ a ++ magic → c ≡ b ++ (1 ∷ (n ∷ []))
    → d ≡ c ++ flat_map enc_offer os → d ≡ a ++ enc_body (map offered os)
body_written os a b c d n same first second third =
    third ∙ ap (λ (l : List ℕ). l ++ flat_map enc_offer os) (second ∙ ap (λ (l : List ℕ). l ++ (1 ∷ (n ∷ []))) first)
    ∙ append_assoc (a ++ magic) (1 ∷ (n ∷ [])) (flat_map enc_offer os)
    ∙ append_assoc a magic (1 ∷ (n ∷ flat_map enc_offer os))
    ∙ ap (λ (k : ℕ). a ++ (magic ++ (1 ∷ (k ∷ flat_map enc_offer os)))) (same ∙ sym (length-map os offered))
    ∙ ap (λ (l : List ℕ). a ++ (magic ++ (1 ∷ (length (map offered os) ∷ l)))) (flat_of offered enc_entry os)

-- contents that can be kept have lengths that fit
pub are_short : (writes : List (List ℕ × List ℕ)) (cs : List (Vec ℕ Global)) → AreContents writes (map (λ c. c.items) cs) → All IsShort cs
are_short [] [] h = All-nil IsShort
are_short [] (c ∷ cs) h = absurd h
are_short (w ∷ writes) [] h = All-nil IsShort
are_short (w ∷ writes) (c ∷ cs) h = All-cons IsShort c cs h.1 (are_short writes cs h.2)

-- an entry that can be kept is one
is_entry : (o : Offer) → IsKeptOffer o → IsTrueOffer o → IsEntry (offered o)
is_entry o kept true_parts = (record { storable = kept.0; parts = true_parts; bytes = refl }, kept.1)

pub all_entries : (os : List Offer) → All IsKeptOffer os → All IsTrueOffer os → All IsEntry (map offered os)
all_entries os kept true_parts = All-map IsEntry offered os (λ k d lt. is_entry (get_or os k d) (kept k d lt) (true_parts k d lt))

-- an entry can be kept
pub entries_kept : (os : List Offer) → All IsEntry (map offered os) → All IsKeptOffer os
entries_kept [] h = All-nil IsKeptOffer
entries_kept (o ∷ os) h =
    let first = All-head IsEntry (offered o) (map offered os) h in
    All-cons IsKeptOffer o os (first.0.storable, first.1) (entries_kept os (All-tail IsEntry (offered o) (map offered os) h))
