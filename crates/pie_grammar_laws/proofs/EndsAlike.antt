-- What may end an expression, projections and `by`, is read alike in two texts.
use Rattle.std.proofs.Common.{◌≡◌, ℕ, Bool, true, false, cond, List, [], refl, subst, ap}
use Rattle.pie_parser.specs.declared.kind.Kind.{Kind}
use Rattle.pie_parser.specs.declared.kind.Kind.TheVariants as kinds
use Rattle.pie_parser.specs.declared.error.ParseFault.TheVariants.{Expected}
use Rattle.pie_parser.specs.declared.tree.Index.{Index}
use Rattle.pie_parser.specs.declared.tree.CallKind.{CallKind}
use Rattle.pie_parser.specs.declared.tree.CallKind.TheVariants as calls
use Rattle.pie_parser.specs.declared.tree.EffectKind.{EffectKind}
use Rattle.pie_parser.specs.declared.tree.EffectKind.TheVariants as effects
use Rattle.pie_parser.specs.Kinds.{is}
use Rattle.pie_parser.specs.At.{At}
use Rattle.pie_parser.specs.Places.{Got, Miss, Parser, then_on, next, passed, want, index}
use Rattle.pie_parser.specs.ExprReading as reads
use Rattle.pie_parser.specs.ExprReading.{Around, around, by_conditions, expr_at, inner_at, test_at, nowhere, chain, projection}
use Rattle.pie_parser.proofs.Readings.{is_same}
use Rattle.pie_grammar_laws.proofs.Twins.{Texts, Twin, before, gone, next_is, past_is, mark_is, Alike, then_alike, any_alike, got_alike, wrong_alike, cond_alike}
use Rattle.pie_grammar_laws.proofs.Twins.{by_next}
use Rattle.pie_grammar_laws.proofs.Tokens.{is_plain, passing, plain_alike, index_alike}
use Rattle.pie_grammar_laws.proofs.Loops.{TurnsAlike, cond_turn, all_alike}

-- a reading that takes at least so many tokens, and is alike
abbrev pub Reads : (A : Type 0) → Texts → ℕ → ℕ → Parser A → Type 0
Reads A z c d p = (s t : At) → Twin z s t → Alike A z c d d s.rest (p s) (p t)

pub indices_alike : (z : Texts) (d : ℕ) → Reads (List Index) z 0 d reads.indices
indices_alike z d s t w = all_alike z d reads.another_index another [] s t w
  where
    another : (s t : At) → Twin z s t → TurnsAlike Index z d s.rest (reads.another_index s) (reads.another_index t)
    another s t w = cond_turn (ap (λ k. is k kinds.Dot) (next_is w))
        (λ e. passing d index index w (ap is_plain (is_same (next s) kinds.Dot e)) (λ a b u. any_alike (index_alike u)))

unmark : {z : Texts} {s t : At} → Twin z s t → Twin z (record s { marked = false }) (record t { marked = false })
unmark (before p v b) = before p v false
unmark (gone s l) = gone (record s { marked = false }) l

remark : {z : Texts} {s t : At} (i : ℕ) → Twin z s t → Twin z (record s { past = i; marked = true }) (record t { past = i; marked = true })
remark i (before p v b) = before i v true
remark i (gone s l) = gone (record s { past = i; marked = true }) l

pub by_of_read_alike : (z : Texts) (d : ℕ) → Reads EffectKind z 0 d reads.by_of_read
by_of_read_alike z d s t w = cond_alike (mark_is w) (λ e. got_alike (unmark w) refl) (λ e.
    cond_alike (ap (λ k. is k kinds.By) (next_is w))
    (λ e. any_alike (passing d (λ m. reads.read_by m (next m)) (λ m. reads.read_by m (next m)) w (ap is_plain (is_same (next s) kinds.By e))
    (λ m k u. by_next (reads.read_by m) (reads.read_by k) u (behind m k u))))
    (λ e. got_alike w refl))
  where
    behind : (m k : At) → Twin z m k → (j : Kind) → next m ≡ j → Alike EffectKind z 0 d d m.rest (reads.read_by m j) (reads.read_by k j)
    behind m k u kinds.Hash e = any_alike (passing d (Got effects.ReadByHash) (Got effects.ReadByHash) u (ap is_plain e) (λ a b v. got_alike v refl))
    behind m k u kinds.Mark e = any_alike (passing d (Got effects.ReadByMark) (Got effects.ReadByMark) u (ap is_plain e) (λ a b v. got_alike v refl))
    behind m k u j e = wrong_alike u

-- what is behind the `by` of a `require`, where the end before it is this one
abbrev behind_by : Bool → ℕ → Parser CallKind
behind_by r i m = cond (is (next m) kinds.Hash) (Got calls.RequireByHash (passed m))
    (cond r (then_on (want kinds.Mark m) (λ _ k. Got calls.Require (record k { past = i; marked = true }))) (Miss Expected m))

pub by_of_require_alike : (z : Texts) (d : ℕ) (r : Bool) → Reads CallKind z 0 d (reads.by_of_require r)
by_of_require_alike z d r s t w = cond_alike (ap (λ k. is k kinds.By) (next_is w))
    (λ e. subst (λ i. Alike CallKind z 0 d d s.rest (behind_by r s.past (passed s)) (behind_by r i (passed t))) (past_is w)
    (any_alike (passing d (behind_by r s.past) (behind_by r s.past) w (ap is_plain (is_same (next s) kinds.By e)) (behind s.past))))
    (λ e. got_alike w refl)
  where
    marks : (i : ℕ) (r : Bool) (m k : At) → Twin z m k → Alike CallKind z 0 d d m.rest
        (cond r (then_on (want kinds.Mark m) (λ _ k. Got calls.Require (record k { past = i; marked = true }))) (Miss Expected m))
        (cond r (then_on (want kinds.Mark k) (λ _ k. Got calls.Require (record k { past = i; marked = true }))) (Miss Expected k))
    marks i true m k u = any_alike (then_alike (plain_alike kinds.Mark u refl) (λ _ a b v _. got_alike (remark i v) refl))
    marks i false m k u = wrong_alike u

    behind : (i : ℕ) (m k : At) → Twin z m k → Alike CallKind z 0 d d m.rest (behind_by r i m) (behind_by r i k)
    behind i m k u = cond_alike (ap (λ k. is k kinds.Hash) (next_is u))
        (λ e. any_alike (passing d (Got calls.RequireByHash) (Got calls.RequireByHash) u (ap is_plain (is_same (next m) kinds.Hash e))
        (λ a b v. got_alike v refl)))
        (λ e. marks i r m k u)
