-- What a refusal of the parser on lists says of the tokens.
use Rattle.std.proofs.Common.{◌≡◌, ℕ, ◌<◌, Bool, true, false, cond, inl, inr, List, [], ◌∷◌, ◌++◌, length, Result, Ok, Err, IfOk, IfErr, refl, sym, subst, ap}
use Rattle.std.proofs.Common.{◌∙◌, append_assoc, arith}
use Rattle.std.proofs.lemmas.List.{append-nil, append_cancel_right}
use Rattle.pie_lexer.specs.declared.token.Token.{Token}
use Rattle.pie_lexer.specs.declared.token.TokenKind.{TokenKind}
use Rattle.pie_lexer.specs.declared.token.TokenKind.TheVariants as tokens
use Rattle.pie_parser.specs.declared.kind.Kind.TheVariants as kinds
use Rattle.pie_parser.specs.declared.error.ParseFault.{ParseFault}
use Rattle.pie_parser.specs.declared.error.ParseFault.TheVariants as faults
use Rattle.pie_parser.specs.declared.error.ParseError.{ParseError}
use Rattle.pie_parser.specs.declared.error.ParseError.TheVariants.{Expected, TooDeep, OutOfMemory}
use Rattle.pie_parser.specs.declared.tree.Pipeline.{Pipeline}
use Rattle.pie_parser.specs.Kinds.{is, kind_of_token}
use Rattle.pie_parser.specs.At.{At}
use Rattle.pie_parser.specs.Places.{Parsed, Got, Miss, first_kind, next, start_of}
use Rattle.pie_parser.specs.FunctionTrees.{FunctionTree}
use Rattle.pie_parser.specs.FunctionReading.{functions, read_all, last_end, Reads}
use Rattle.pie_parser.specs.FunctionGrammar.{IsPipeline}
use Rattle.pie_parser.specs.inner.Whole.{functions_of}
use Rattle.pie_parser.proofs.Readings.{is_same, chosen, missed, bound}
use Rattle.pie_parser.proofs.Hits.{Hits}
use Rattle.pie_parser.proofs.FunctionsComplete.{pipeline_hits}
use Rattle.pie_grammar_laws.specs.Brackets.{opens, IsShallow}
use Rattle.pie_grammar_laws.specs.Refusals.{BeginsPipeline, CannotGoOn, StopsAt, NestsTooDeepAt, IsShallowPipeline, OnExpected, OnTooDeep}
use Rattle.pie_grammar_laws.proofs.Twins.{Texts, place, before, gone, Takes, Missed, Alike, both_got, both_miss, past_got, past_miss}
use Rattle.pie_grammar_laws.proofs.FunctionsAlike.{pipeline_alike}
use Rattle.pie_grammar_laws.proofs.Words.{Open, Fine, fine_got, fine_miss, no_memory}
use Rattle.pie_grammar_laws.proofs.FunctionsFine.{FunctionsR, pipeline_fine, begins_by, begins_with}
use Rattle.pie_grammar_laws.proofs.OneAnswer.{pipeline_never_stops, shallow_not_deep}
use Rattle.pie_grammar_laws.proofs.Nesting.{open_is, shallow_is}

miss_same : {A : Type 0} {f g : ParseFault} {m k : At} → (let p : Parsed A = Miss f m in p) ≡ Miss g k → (f ≡ g) × (m ≡ k)
miss_same h = (cc, cc)

missed_is : {A : Type 0} {z : Texts} {c d e : ℕ} {ts : List Token} {p q : Parsed A} (f : ParseFault) (m : At) → Alike A z c d e ts p q → p ≡ Miss f m
    → Missed z.limit d ts f m.rest
missed_is f m (both_got a k i w x) h = absurd cc
missed_is {z = z} {d = d} {ts = ts} f m (both_miss g k i w x) h = let s = miss_same h in
    subst (λ g. Missed z.limit d ts g m.rest) s.0 (subst (λ (k : At). Missed z.limit d ts g k.rest) s.1 x)
missed_is f m (past_got a k q l x) h = absurd cc
missed_is {z = z} {d = d} {ts = ts} f m (past_miss g k q l x) h = let s = miss_same h in
    subst (λ g. Missed z.limit d ts g m.rest) s.0 (subst (λ (k : At). Missed z.limit d ts g k.rest) s.1 x)

got_same : {A : Type 0} {a b : A} {m k : At} → Got a m ≡ Got b k → (a ≡ b) × (m ≡ k)
got_same h = (cc, cc)

got_is : {A : Type 0} {z : Texts} {c d e : ℕ} {ts : List Token} {p q : Parsed A} (a : A) (m : At) → Alike A z c d e ts p q → p ≡ Got a m
    → Takes z.limit c d e ts m.rest
got_is {z = z} {c = c} {d = d} {e = e} {ts = ts} a m (both_got b k i w x) h = subst (λ (k : At). Takes z.limit c d e ts k.rest) (got_same h).1 x
got_is a m (both_miss g k i w x) h = absurd cc
got_is {z = z} {c = c} {d = d} {e = e} {ts = ts} a m (past_got b k q l x) h = subst (λ (k : At). Takes z.limit c d e ts k.rest) (got_same h).1 x
got_is a m (past_miss g k q l x) h = absurd cc

-- a refusal before the shared token is that of the second text too
also_missed : {A : Type 0} {z : Texts} {c d e : ℕ} {ts : List Token} {p q : Parsed A} (f : ParseFault) (m : At) → Alike A z c d e ts p q → p ≡ Miss f m
    → length z.one < length m.rest → (k : At) × (q ≡ Miss f k)
also_missed f m (both_got a k i w x) h l = absurd cc
also_missed f m (both_miss g k i w x) h l = (i, ap (λ g. Miss g i) (miss_same h).0)
also_missed f m (past_got a k q o x) h l = absurd cc
also_missed f m (past_miss g k q o x) h l = let s = ap (λ (i : At). length i.rest) (miss_same h).1 in absurd (omega arith)

abbrev start_at : List Token → At
start_at ts = place 0 ts false

-- all tokens, with no second text
alone : (ts : List Token)
    → Alike (List FunctionTree) (record { token = record { kind = tokens.Func; at = 0; end = 0 }; one = ts; two = []; limit = 64 }) 0 64 64 ts (read_all ts)
    (read_all ts)
alone ts = pipeline_alike _ (record { brackets = 64; conditions = 100; in_read = false }) (omega arith) (start_at ts) (start_at ts)
    (gone (start_at ts) (omega arith))

beside : (a : List Token) (x : Token) (r u : List Token) → Alike (List FunctionTree) (record { token = x; one = r; two = u; limit = 64 }) 0 64 64 (a ++ x ∷ r)
    (read_all (a ++ x ∷ r)) (read_all (a ++ x ∷ u))
beside a x r u = pipeline_alike _ (record { brackets = 64; conditions = 100; in_read = false }) (omega arith) (start_at (a ++ x ∷ r)) (start_at (a ++ x ∷ u))
    (before 0 a false)

never_expected : (ts : List Token) (fs : List FunctionTree) (m : At) → read_all ts ≡ Miss faults.Expected m → IsPipeline ts fs → ⊥
never_expected ts fs m h k = let z = pipeline_hits ts fs k in subst (λ q. Hits q fs z.0) h z.1

ends_before : (a rest : List Token) (m : At) → read_all (a ++ rest) ≡ Miss faults.Expected m → m.rest ≡ rest → CannotGoOn a rest
ends_before a [] m h e = λ fs k. never_expected (a ++ []) fs m h (subst (λ ts. IsPipeline ts fs) (sym (append-nil a)) k)
ends_before a (x ∷ r) m h e = λ b.
    let l = ap length e in
    let z = also_missed faults.Expected m (beside a x r b.0) h (omega arith) in
    never_expected (a ++ x ∷ b.0) b.1 z.0 z.1 (subst (λ ts. IsPipeline ts b.1) (append_assoc a (x ∷ []) b.0) b.2)

open_of : {A : Type 0} {k : Bool} {R : At → At → Type 0} {s : At} {p : Parsed A} (f : ParseFault) (m : At) → Fine A k R s p → p ≡ Miss f m
    → (faults.OutOfMemory ≡ f → ⊥) → Open f R s m
open_of f m (fine_got a k x) h n = absurd cc
open_of {R = R} {s = s} f m (fine_miss g k x) h n = let e = miss_same h in subst (λ g. Open g R s m) e.0 (subst (λ (k : At). Open g R s k) e.1 x)
open_of f m (no_memory k) h n = absurd (n (miss_same h).0)

-- what was read up to a refusal, and its completion
completed : (ts : List Token) (f : ParseFault) (m : At) → read_all ts ≡ Miss f m → (faults.OutOfMemory ≡ f → ⊥) → Open f FunctionsR (start_at ts) m
completed ts f m h n = open_of f m (pipeline_fine (record { brackets = 64; conditions = 100; in_read = false }) (start_at ts) refl) h n

same_word : (ts v w ms : List Token) → ts ≡ v ++ ms → ts ≡ w ++ ms → v ≡ w
same_word ts v w ms d e = append_cancel_right v w ms (sym d ∙ e)

pub expected_is : (ts : List Token) (i : ℕ) → Reads (Err (Expected i)) ts → StopsAt ts i
expected_is ts i (m, h, e) =
    let x = missed_is faults.Expected m (alone ts) h in
    let y = completed ts faults.Expected m h (λ e. absurd cc) in
    record {
      before = x.word.word;
      rest = m.rest;
      splits = x.word.splits;
      place = e;
      begins = subst BeginsPipeline (same_word ts y.word x.word.word m.rest y.splits x.word.splits) (begins_by faults.Expected ts m y);
      stops = ends_before x.word.word m.rest m (subst (λ us. read_all us ≡ Miss faults.Expected m) x.word.splits h) refl;
      shallow = shallow_is x.word.keeps;
    }

pub too_deep_is : (ts : List Token) (i : ℕ) → Reads (Err (TooDeep i)) ts → NestsTooDeepAt ts i
too_deep_is ts i (m, h, e) = let x = missed_is faults.TooDeep m (alone ts) h in by_rest x m.rest refl
  where
    by_rest : Missed 64 64 ts faults.TooDeep m.rest → (rs : List Token) → m.rest ≡ rs → NestsTooDeepAt ts i
    by_rest x [] q = let z : false ≡ true = ap (λ us. opens (first_kind us)) (sym q) ∙ (x.deep refl).1 in absurd cc
    by_rest x (y ∷ rs) q =
        let o = open_is 0 x.word.keeps refl in
        let d = (x.deep refl).0 in
        let c = completed ts faults.TooDeep m h (λ e. absurd cc) in
        record {
          before = x.word.word;
          bracket = y;
          rest = rs;
          splits = x.word.splits ∙ ap (λ us. x.word.word ++ us) q;
          place = e ∙ ap (start_of (last_end 0 ts)) q;
          begins = subst (λ us. BeginsPipeline (us ++ y ∷ [])) (same_word ts c.word x.word.word m.rest c.splits x.word.splits) (begins_with ts m c y rs q);
          opening = ap (λ us. opens (first_kind us)) (sym q) ∙ (x.deep refl).1;
          inside = omega arith;
          shallow = shallow_is x.word.keeps;
        }

no_end : (k : TokenKind) → kind_of_token k ≡ kinds.End → ⊥
no_end (tokens.Name x) h = absurd cc
no_end k h = absurd cc

at_end : (m : At) → next m ≡ kinds.End → m.rest ≡ []
at_end m h = by_mark m.marked h
  where
    by_rest : (ts : List Token) → first_kind ts ≡ kinds.End → ts ≡ []
    by_rest [] h = refl
    by_rest (t ∷ ts) h = absurd (no_end t.kind h)

    by_mark : (b : Bool) → cond b kinds.Marked (first_kind m.rest) ≡ kinds.End → m.rest ≡ []
    by_mark true h = absurd cc
    by_mark false h = by_rest m.rest h

reads_to_end : (ts : List Token) (fs : List FunctionTree) (m : At) → read_all ts ≡ Got fs m → m.rest ≡ []
reads_to_end ts fs m h =
    let b = bound (functions (record { brackets = 64; conditions = 100; in_read = false }) (start_at ts))
    (λ fs m. cond (is (next m) kinds.End) (Got fs m) (Miss faults.Expected m)) fs m h in
    elim (chosen (is (next b.1) kinds.End) (Got b.0 b.1) (Miss faults.Expected b.1) (Got fs m) b.3) [
      | inl c ↦ (let e = (got_same c.1).1 in ap (λ (k : At). k.rest) (sym e) ∙ at_end b.1 (is_same (next b.1) kinds.End c.0))
      | inr c ↦ missed c.1
    ]

pub shallow_whole : (ts : List Token) (fs : List FunctionTree) → Reads (Ok fs) ts → IsShallow ts
shallow_whole ts fs (m, h) =
    let x = got_is fs m (alone ts) h in
    let e : ts ≡ x.word = x.splits ∙ ap (λ us. x.word ++ us) (reads_to_end ts fs m h) ∙ append-nil x.word in
    subst IsShallow (sym e) (shallow_is x.keeps)

pub expected_of : (r : Result Pipeline ParseError) (ts : List Token) → Reads (functions_of r) ts → OnExpected r (StopsAt ts)
expected_of (Ok p) ts h = tt
expected_of (Err (Expected i)) ts h = expected_is ts i h
expected_of (Err (TooDeep i)) ts h = tt
expected_of (Err OutOfMemory) ts h = tt

pub too_deep_of : (r : Result Pipeline ParseError) (ts : List Token) → Reads (functions_of r) ts → OnTooDeep r (NestsTooDeepAt ts)
too_deep_of (Ok p) ts h = tt
too_deep_of (Err (Expected i)) ts h = tt
too_deep_of (Err (TooDeep i)) ts h = too_deep_is ts i h
too_deep_of (Err OutOfMemory) ts h = tt

pub room_of : (r : Result Pipeline ParseError) (ts : List Token) → Reads (functions_of r) ts → IfOk r (λ p. IsShallow ts)
room_of (Ok p) ts h = shallow_whole ts p.functions.items h
room_of (Err e) ts h = tt

pub accepted_of : (r : Result Pipeline ParseError) (ts : List Token) → Reads (functions_of r) ts → IsShallowPipeline ts → IfErr r (λ e. e ≡ OutOfMemory)
accepted_of (Ok p) ts h k = tt
accepted_of (Err (Expected i)) ts h k = absurd (pipeline_never_stops ts k.1.0 i k.1.1 (expected_is ts i h))
accepted_of (Err (TooDeep i)) ts h k = absurd (shallow_not_deep ts i k.0 (too_deep_is ts i h))
accepted_of (Err OutOfMemory) ts h k = refl
