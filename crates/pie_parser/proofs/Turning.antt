-- A loop over parts, a turn at a time.
use Rattle.std.proofs.Common.{◌≡◌, ℕ, ◌+◌, ◌-◌, ◌<◌, ◌≤◌, zero, suc, List, [], ◌∷◌, ◌++◌, refl, sym, subst, ap, ◌∙◌, append_assoc, Err, arith}
use Rattle.std.proofs.lemmas.List.{append-nil}
use Rattle.pie_parser.specs.declared.error.ParseFault.{ParseFault}
use Rattle.pie_parser.specs.declared.error.ParseFault.TheVariants.{Expected, TooDeep, OutOfMemory}
use Rattle.pie_parser.specs.At.{At}
use Rattle.pie_parser.specs.Places.{Parsed, Got, Miss, then_on, ParseAgrees}
use Rattle.pie_parser.specs.inner.Turns.{Turn, Stop, Part, Turns, on_turn, many, onto}

onto_more : {A : Type 0} (xs : List A) (x : A) (p : Parsed (List A)) → onto xs (then_on p (λ ys k. Got (x ∷ ys) k)) ≡ onto (xs ++ x ∷ []) p
onto_more xs x (Got ys m) = ap (λ zs. Got zs m) (sym (append_assoc xs (x ∷ []) ys))
onto_more xs x (Miss e m) = refl

one_less : (n i : ℕ) → i < n → n - i ≡ suc (n - (i + 1))
one_less n i h = omega arith

turned : {A : Type 0} (turn : At → Turn A) (n i : ℕ) (s : At) → i < n → many turn (n - i) s ≡ on_turn (turn s) s (many turn (n - (i + 1)))
turned turn n i s h = ap (λ k. many turn k s) (one_less n i h)

pub goes_on : {A : Type 0} (turn : At → Turn A) (n i : ℕ) (s m : At) (xs : List A) (x : A) (p : Parsed (List A)) → i < n → turn s ≡ Part (Got x m)
    → onto xs (many turn (n - i) s) ≡ p → onto (xs ++ x ∷ []) (many turn (n - (i + 1)) m) ≡ p
goes_on turn n i s m xs x p h t e =
    sym (onto_more xs x (many turn (n - (i + 1)) m)) ∙ sym (ap (λ u. onto xs (on_turn u s (many turn (n - (i + 1))))) t)
    ∙ sym (ap (onto xs) (turned turn n i s h)) ∙ e

pub stops : {A : Type 0} (turn : At → Turn A) (n i : ℕ) (s : At) (xs : List A) (p : Parsed (List A)) → i < n → turn s ≡ Stop
    → onto xs (many turn (n - i) s) ≡ p → p ≡ Got xs s
stops turn n i s xs p h t e =
    sym e ∙ ap (onto xs) (turned turn n i s h) ∙ ap (λ u. onto xs (on_turn u s (many turn (n - (i + 1))))) t ∙ ap (λ ys. Got ys s) (append-nil xs)

pub fails : {A : Type 0} (turn : At → Turn A) (n i : ℕ) (s m : At) (xs : List A) (f : ParseFault) (p : Parsed (List A)) → i < n → turn s ≡ Part (Miss f m)
    → onto xs (many turn (n - i) s) ≡ p → p ≡ Miss f m
fails turn n i s m xs f p h t e =
    sym e ∙ ap (onto xs) (turned turn n i s h) ∙ ap (λ u. onto xs (on_turn u s (many turn (n - (i + 1))))) t

pub runs_out : {A : Type 0} (turn : At → Turn A) (n i : ℕ) (s : At) (xs : List A) (p : Parsed (List A)) → n ≤ i
    → onto xs (many turn (n - i) s) ≡ p → p ≡ Got xs s
runs_out turn n i s xs p h e =
    let z : n - i ≡ 0 = omega arith in
    sym e ∙ ap (λ k. onto xs (many turn k s)) z ∙ ap (λ ys. Got ys s) (append-nil xs)

-- where a turn fails in the code, so does the loop
pub fails_so : {A V : Type 0} (view : V → List A) (turn : At → Turn A) (n i : ℕ) (s m : At) (xs : List A) (f : ParseFault) (p : Parsed (List A)) → i < n
    → Turns {A = A} (Err f) s m (turn s)
    → onto xs (many turn (n - i) s) ≡ p → ParseAgrees view (Err f) m p
fails_so view turn n i s m xs Expected p h t e = fails turn n i s m xs Expected p h t e
fails_so view turn n i s m xs TooDeep p h t e = fails turn n i s m xs TooDeep p h t e
fails_so view turn n i s m xs OutOfMemory p h t e = tt
