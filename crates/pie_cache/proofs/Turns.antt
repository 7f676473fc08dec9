-- Reading contents, and entries, one after another.
use Rattle.std.proofs.Common.{◌≡◌, ℕ, suc, ◌+◌, ◌-◌, ◌<◌, ◌≤◌, List, [], ◌∷◌, ◌++◌, length, get_or, drop, Ok, Err, sym, ap, ◌∙◌, arith}
use Rattle.std.specs.Prelude.{map, Vec}
use Rattle.std.specs.Global.{Global}
use Rattle.std.proofs.lemmas.List.{drop_more, drop_all}
use mathlib.Core.List.{map-append}
use Rattle.pie_record.specs.declared.record_fault.RecordFault.{RecordFault}
use Rattle.pie_record.specs.Reading.{Parsed as Part, then_on as then_part}
use Rattle.pie_store.specs.declared.offers.Offer.{Offer}
use Rattle.pie_store.specs.inner.Offers.{Offered, offered}
use Rattle.pie_cache.specs.declared.cache_fault.CacheFault.{CacheFault}
use Rattle.pie_cache.specs.inner.Reading.{Parsed, then_on, part_at, content_at, contents_at, entry_part, some_at}

left_is : (n i : ℕ) → i < n → n - i ≡ suc (n - (i + 1))
left_is n i h = omega arith

-- one more entry
pub one_more : (end n i : ℕ) (xs : List Offer) (bs : List ℕ) (x : Offer) (rest : List ℕ) → i < n → part_at end entry_part bs ≡ Ok (offered x, rest)
    → some_at end (n - i) (map offered xs) bs ≡ some_at end (n - (i + 1)) (map offered (xs ++ x ∷ [])) rest
one_more end n i xs bs x rest h e =
    ap (λ (k : ℕ). some_at end k (map offered xs) bs) (left_is n i h)
    ∙ ap (λ (p : Parsed Offered). then_on p (λ y after. some_at end (n - (i + 1)) (map offered xs ++ y ∷ []) after)) e
    ∙ ap (λ (l : List Offered). some_at end (n - (i + 1)) l rest) (sym (map-append offered xs (x ∷ [])))

-- one that can't be read
pub one_fails : (end n i : ℕ) (xs : List Offered) (bs : List ℕ) (d : CacheFault) → i < n → part_at end entry_part bs ≡ Err d
    → some_at end (n - i) xs bs ≡ Err d
one_fails end n i xs bs d h e =
    ap (λ (k : ℕ). some_at end k xs bs) (left_is n i h)
    ∙ ap (λ (p : Parsed Offered). then_on p (λ y after. some_at end (n - (i + 1)) (xs ++ y ∷ []) after)) e

-- the bytes of contents
abbrev pub bytes_in : List (Vec ℕ Global) → List (List ℕ)
bytes_in contents = map (λ (c : Vec ℕ Global). c.items) contents

-- one more content
pub content_more : (writes : List (List ℕ × List ℕ)) (i : ℕ) (w : List ℕ × List ℕ) (cs : List (Vec ℕ Global)) (bs : List ℕ) (c : Vec ℕ Global)
    (rest : List ℕ) → i < length writes → w ≡ get_or writes i w → content_at w.1 bs ≡ Ok (c.items, rest)
    → contents_at (drop i writes) (bytes_in cs) bs ≡ contents_at (drop (i + 1) writes) (bytes_in (cs ++ c ∷ [])) rest
content_more writes i w cs bs c rest h e r =
    ap (λ (l : List (List ℕ × List ℕ)). contents_at l (bytes_in cs) bs) (drop_more writes i w h)
    ∙ ap (λ (v : List ℕ × List ℕ). contents_at (v ∷ drop (i + 1) writes) (bytes_in cs) bs) (sym e)
    ∙ ap (λ (p : Part (List ℕ)). then_part p (λ d after. contents_at (drop (i + 1) writes) (bytes_in cs ++ d ∷ []) after)) r
    ∙ ap (λ (l : List (List ℕ)). contents_at (drop (i + 1) writes) l rest) (sym (map-append (λ (d : Vec ℕ Global). d.items) cs (c ∷ [])))

-- one that can't be read
pub content_fails : (writes : List (List ℕ × List ℕ)) (i : ℕ) (w : List ℕ × List ℕ) (cs : List (List ℕ)) (bs : List ℕ) (d : RecordFault)
    → i < length writes → w ≡ get_or writes i w → content_at w.1 bs ≡ Err d → contents_at (drop i writes) cs bs ≡ Err d
content_fails writes i w cs bs d h e r =
    ap (λ (l : List (List ℕ × List ℕ)). contents_at l cs bs) (drop_more writes i w h)
    ∙ ap (λ (v : List ℕ × List ℕ). contents_at (v ∷ drop (i + 1) writes) cs bs) (sym e)
    ∙ ap (λ (p : Part (List ℕ)). then_part p (λ c after. contents_at (drop (i + 1) writes) (cs ++ c ∷ []) after)) r

-- no more
pub contents_end : (writes : List (List ℕ × List ℕ)) (i : ℕ) (cs : List (List ℕ)) (bs : List ℕ) → length writes ≤ i
    → contents_at (drop i writes) cs bs ≡ Ok (cs, bs)
contents_end writes i cs bs le = ap (λ (l : List (List ℕ × List ℕ)). contents_at l cs bs) (drop_all i writes le)
