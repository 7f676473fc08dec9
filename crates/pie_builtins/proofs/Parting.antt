-- A text taken apart from the left: one piece, and then the pieces of what is left.
use Rattle.std.proofs.Common.{◌≡◌, ℕ, zero, suc, ◌+◌, ◌-◌, ◌<◌, ◌≤◌, List, [], ◌∷◌, ◌++◌, take, drop, length, map, refl, ap, sym, ◌∙◌, arith, Err, append_assoc}
use Rattle.std.specs.Prelude.{Option, Some, None}
use Rattle.std.proofs.lemmas.List.{length-drop, append-nil}
use Rattle.std.specs.Str.Pattern.{FindsText, SplitsAroundMatch}
use Rattle.pie_base.specs.declared.fault.FaultKind.TheVariants.{Range as RangeFault}
use Rattle.pie_value.specs.Tree.{Tree, TText}
use Rattle.pie_value.specs.BuiltinForms.{made}
use Rattle.pie_value.specs.BuiltinItems.{text_list}
use Rattle.pie_value.specs.BuiltinTexts.{first_place, pieces, pieces_from, pieces_within, replaced, with_between, without_last_empty}
use Rattle.pie_value.specs.Builtins.{split_answer}
use Rattle.pie_builtins.proofs.Places.{nowhere, at_first}

from_fuel : (n m : ℕ) (b : ℕ) (p : List ℕ)
    → ((s : List ℕ) → length s ≤ n → length s ≤ m → pieces_within n s (b ∷ p) ≡ pieces_within m s (b ∷ p))
    → (o : Option ℕ) (s : List ℕ) → length s ≤ suc n → length s ≤ suc m
    → pieces_from o s (b ∷ p) (pieces_within n) ≡ pieces_from o s (b ∷ p) (pieces_within m)
from_fuel n m b p ih None s h k = refl
from_fuel n m b p ih (Some i) s h k =
    let left : length (drop (i + length (b ∷ p)) s) ≡ length s - (i + length (b ∷ p)) = length-drop (i + length (b ∷ p)) s in
    ap (λ rest. take i s ∷ rest) (ih (drop (i + length (b ∷ p)) s) (omega arith) (omega arith))

-- the pieces don't depend on how many occurrences are looked for, if these are enough
fuel : (n m : ℕ) (b : ℕ) (p : List ℕ) (s : List ℕ) → length s ≤ n → length s ≤ m
    → pieces_within n s (b ∷ p) ≡ pieces_within m s (b ∷ p)
fuel zero zero b p s h k = refl
fuel zero (suc m) b p [] h k = refl
fuel zero (suc m) b p (x ∷ s) h k = absurd (omega arith)
fuel (suc n) zero b p [] h k = refl
fuel (suc n) zero b p (x ∷ s) h k = absurd (omega arith)
fuel (suc n) (suc m) b p s h k = from_fuel n m b p (λ t i j. fuel n m b p t i j) (first_place s (b ∷ p)) s h k

from_all : (n : ℕ) (b : ℕ) (p : List ℕ) (o : Option ℕ) (s : List ℕ) → length s ≤ suc n
    → pieces_from o s (b ∷ p) (pieces_within n) ≡ pieces_from o s (b ∷ p) pieces
from_all n b p None s h = refl
from_all n b p (Some i) s h =
    let left : length (drop (i + length (b ∷ p)) s) ≡ length s - (i + length (b ∷ p)) = length-drop (i + length (b ∷ p)) s in
    ap (λ rest. take i s ∷ rest) (fuel n (length (drop (i + length (b ∷ p)) s)) b p (drop (i + length (b ∷ p)) s) (omega arith) (omega arith))

-- the first piece, and then those of what is left
one_piece : (s : List ℕ) (b : ℕ) (p : List ℕ) → pieces s (b ∷ p) ≡ pieces_from (first_place s (b ∷ p)) s (b ∷ p) pieces
one_piece [] b p = refl
one_piece (x ∷ s) b p = from_all (length s) b p (first_place (x ∷ s) (b ∷ p)) (x ∷ s) (omega arith)

pub no_more : (s p : List ℕ) → 0 < length p → FindsText p s None → pieces s p ≡ s ∷ []
no_more s [] h f = absurd (omega arith)
no_more s (b ∷ p) h f = one_piece s b p ∙ ap (λ o. pieces_from o s (b ∷ p) pieces) (nowhere s (b ∷ p) f)

pub one_more : (s p front back : List ℕ) → 0 < length p → SplitsAroundMatch (FindsText p) s front back
    → pieces s p ≡ front ∷ pieces back p
one_more s [] front back h f = absurd (omega arith)
one_more s (b ∷ p) front back h f =
    let first : first_place s (b ∷ p) ≡ Some f.0 = at_first s (b ∷ p) (drop f.1 s) f.0 f.2.0 f.2.1.split in
    let end : f.1 ≡ f.0 + length (b ∷ p) = f.2.1.ends in
    let at_front : front ≡ take f.0 s = f.3 in
    let at_back : back ≡ drop f.1 s = f.4 in
    one_piece s b p ∙ ap (λ o. pieces_from o s (b ∷ p) pieces) first
    ∙ rw (at_front, at_back, end) refl

pub shorter : (s p front back : List ℕ) → 0 < length p → SplitsAroundMatch (FindsText p) s front back → length back < length s
shorter s p front back h f =
    let end : f.1 ≡ f.0 + length p = f.2.1.ends in
    let left : length back + f.1 ≡ length s = f.7 in
    omega arith

first_of_pieces : (o : Option ℕ) (s p : List ℕ) → (t : List ℕ) × (ts : List (List ℕ)) × (pieces_from o s p pieces ≡ t ∷ ts)
first_of_pieces None s p = (s, [], refl)
first_of_pieces (Some i) s p = (take i s, pieces (drop (i + length p) s) p, refl)

-- there is a piece
some_piece : (s p : List ℕ) → 0 < length p → (t : List ℕ) × (ts : List (List ℕ)) × (pieces s p ≡ t ∷ ts)
some_piece s [] h = absurd (omega arith)
some_piece s (b ∷ p) h =
    let some = first_of_pieces (first_place s (b ∷ p)) s (b ∷ p) in
    (some.0, some.1, one_piece s b p ∙ some.2)

-- one piece more at the end of the items
pub grows : (xs : List Tree) (s p front back : List ℕ) → 0 < length p → SplitsAroundMatch (FindsText p) s front back
    → (xs ++ TText front ∷ []) ++ map TText (pieces back p) ≡ xs ++ map TText (pieces s p)
grows xs s p front back h f = rw (one_more s p front back h f) (append_assoc xs (TText front ∷ []) (map TText (pieces back p)))

pub ends : (xs : List Tree) (s p : List ℕ) → 0 < length p → FindsText p s None → xs ++ TText s ∷ [] ≡ xs ++ map TText (pieces s p)
ends xs s p h f = rw (no_more s p h f) refl

kept_first : (s : List ℕ) (t : List ℕ) (ts : List (List ℕ)) → without_last_empty (s ∷ t ∷ ts) ≡ s ∷ without_last_empty (t ∷ ts)
kept_first [] t ts = refl
kept_first (b ∷ s) t ts = refl

lines_more : (s p front back : List ℕ) → 0 < length p → SplitsAroundMatch (FindsText p) s front back
    → without_last_empty (pieces s p) ≡ front ∷ without_last_empty (pieces back p)
lines_more s p front back h f =
    let some = some_piece back p h in
    rw (one_more s p front back h f, some.2) (kept_first front some.0 some.1)

pub lines_grow : (xs : List Tree) (s p front back : List ℕ) → 0 < length p → SplitsAroundMatch (FindsText p) s front back
    → (xs ++ TText front ∷ []) ++ map TText (without_last_empty (pieces back p)) ≡ xs ++ map TText (without_last_empty (pieces s p))
lines_grow xs s p front back h f = rw (lines_more s p front back h f) (append_assoc xs (TText front ∷ []) (map TText (without_last_empty (pieces back p))))

pub lines_end : (xs : List Tree) (s p : List ℕ) → 0 < length p → 0 < length s → FindsText p s None
    → xs ++ TText s ∷ [] ≡ xs ++ map TText (without_last_empty (pieces s p))
lines_end xs [] p h k f = absurd (omega arith)
lines_end xs (b ∷ s) p h k f = rw (no_more (b ∷ s) p h f) refl

pub lines_ended : (xs : List Tree) (s p : List ℕ) → 0 < length p → length s ≡ 0 → FindsText p s None
    → xs ≡ xs ++ map TText (without_last_empty (pieces s p))
lines_ended xs [] p h k f = sym (append-nil xs)
lines_ended xs (b ∷ s) p h k f = absurd (omega arith)

between_more : (r front : List ℕ) (rest : List (List ℕ)) → (t : List ℕ) × (ts : List (List ℕ)) × (rest ≡ t ∷ ts)
    → with_between r (front ∷ rest) ≡ front ++ (r ++ with_between r rest)
between_more r front rest some = rw some.2 refl

-- one piece more at the end of the text, and what stands between two
pub puts : (out s p r front back : List ℕ) → 0 < length p → SplitsAroundMatch (FindsText p) s front back
    → ((out ++ front) ++ r) ++ with_between r (pieces back p) ≡ out ++ with_between r (pieces s p)
puts out s p r front back h f =
    rw (one_more s p front back h f, between_more r front (pieces back p) (some_piece back p h)) (simp append_assoc)

pub puts_last : (out s p r : List ℕ) → 0 < length p → FindsText p s None → out ++ s ≡ out ++ with_between r (pieces s p)
puts_last out s p r h f = rw (no_more s p h f) refl

pub split_at_none : (s p : List ℕ) → length p ≡ 0 → split_answer s p ≡ Err RangeFault
split_at_none s [] h = refl
split_at_none s (b ∷ p) h = absurd (omega arith)

pub split_at_some : (s p : List ℕ) → 0 < length p → split_answer s p ≡ made (text_list (pieces s p))
split_at_some s [] h = absurd (omega arith)
split_at_some s (b ∷ p) h = refl

pub replaced_none : (s p r : List ℕ) → length p ≡ 0 → replaced s p r ≡ s
replaced_none s [] r h = refl
replaced_none s (b ∷ p) r h = absurd (omega arith)

pub replaced_some : (s p r : List ℕ) → 0 < length p → replaced s p r ≡ with_between r (pieces s p)
replaced_some s [] r h = absurd (omega arith)
replaced_some s (b ∷ p) r h = refl
