use Rattle.std.proofs.Common.{[], Ok, subst}
use Rattle.std.proofs.lemmas.List.{append-nil}
use Rattle.pie_lexer.specs.Tokens.{Lexes}
use Rattle.pie_lexer.proofs.Passing.{all_passed}
use Rattle.pie_lexer.proofs.lexing.tokens_of.Goals as goal

pub returns : goal.returns
returns c =
    subst (λ ts. Lexes 0 c.args.text.now (Ok ts)) (append-nil c.loop-at.tokens.items)
    (c.loop-at.invariant (Ok []) (all_passed c.args.text.now c.loop-at.at c.loop-at-test.false))
