use Rattle.pie_lexer.proofs.OneAnswer.{only_answer}
use Rattle.pie_lexer.proofs.lexing.lex.Goals as goal

pub returns-clause-only : goal.returns-clause-only
returns-clause-only c = only_answer (λ tokens. tokens.items) c.tokens_of.result c.args.text.now c.tokens_of.ensures
