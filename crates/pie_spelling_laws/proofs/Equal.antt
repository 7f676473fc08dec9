-- Functions with equal spellings mean the same.
use Rattle.std.proofs.Common.{false, List, length, sym, subst, ap, arith}
use Rattle.pie_lexer.specs.declared.token.Token.{Token}
use Rattle.pie_parser.specs.At.{At}
use Rattle.pie_parser.specs.FunctionTrees.{FunctionTree}
use Rattle.pie_parser.specs.FunctionGrammar.{IsFunction}
use Rattle.pie_spelling_laws.specs.Spans.{bare_function}
use Rattle.pie_spelling_laws.specs.Spelling.{kinds_of, tokens_within}
use Rattle.pie_spelling_laws.specs.Standing.{IsStretch}
use Rattle.pie_spelling_laws.specs.Same.{KindsDecide, SpellingsTellKinds, EqualSpellingsAreOneTree, EqualSpellingsMeanTheSame}
use Rattle.pie_spelling_laws.proofs.Places.{blanks, front_stretch, cut}
use Rattle.pie_spelling_laws.proofs.Cut.{function_cut}
use Rattle.pie_spelling_laws.proofs.FunctionsRead.{one_function}
use Rattle.pie_spelling_laws.proofs.Stretches.{each_stands}
use Rattle.pie_spelling_laws.proofs.Blind.{equal_up_to_spans}
use Rattle.pie_spelling_laws.proofs.Apart.{kinds_same, stretch_spelled}

-- the place before tokens of these kinds, which have no spans
abbrev bare_place : List Token → At
bare_place us = record { past = 0; rest = blanks (kinds_of us); marked = false }

-- the function alone, without spans
alone : (us : List Token) (f : FunctionTree) (x : IsStretch us f) → IsFunction (bare_place us) (cut (length x.rest) x.stop) (bare_function f)
alone us f x =
    let l = ap length x.stops in
    subst (λ ts. IsFunction (record { past = 0; rest = ts; marked = false }) (cut (length x.rest) x.stop) (bare_function f)) (front_stretch us x.rest)
    (function_cut (length x.rest) x.grammar (omega arith))

pub kinds_decide : KindsDecide
kinds_decide us vs f g x y e =
    one_function (alone us f x) (subst (λ ks. IsFunction (record { past = 0; rest = blanks ks; marked = false }) (cut (length y.rest) y.stop)
    (bare_function g)) (sym e) (alone vs g y))

pub spellings_tell_kinds : SpellingsTellKinds
spellings_tell_kinds text other us vs f g x y e =
    kinds_same text other us vs (stretch_spelled text x.before us x.stretch.rest x.lexed) (stretch_spelled other y.before vs y.stretch.rest y.lexed) e

pub one_tree : EqualSpellingsAreOneTree
one_tree text other us vs f g x y e = kinds_decide us vs f g x.stretch y.stretch (spellings_tell_kinds text other us vs f g x y e)

pub equal_spellings : EqualSpellingsMeanTheSame
equal_spellings text other ts us f g x y e =
    equal_up_to_spans f g (one_tree text other (tokens_within f.at f.end ts) (tokens_within g.at g.end us) f g (each_stands text ts f x)
    (each_stands other us g y) e)
