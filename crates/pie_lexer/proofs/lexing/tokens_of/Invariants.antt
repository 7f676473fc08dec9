use Rattle.std.proofs.Common.{◌-◌, length, drop, List, Result}
use Rattle.pie_lexer.specs.Tokens.{Lexes}
use Rattle.pie_lexer.specs.inner.Answers.{after}
use Rattle.pie_lexer.specs.declared.token.Token.{Token}
use Rattle.pie_lexer.specs.declared.error.LexError.{LexError}
use Rattle.pie_lexer.proofs.lexing.tokens_of.Given as goal

abbrev pub invariant-loop-at : goal.invariant-loop-at
invariant-loop-at l = (r : Result (List Token) LexError) → Lexes l.at (drop l.at l.text) r → Lexes 0 l.text (after l.tokens.items r)

abbrev pub decreases-loop-at : goal.decreases-loop-at
decreases-loop-at l = length l.text - l.at
