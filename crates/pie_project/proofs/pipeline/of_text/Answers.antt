use Rattle.std.proofs.Common.{Vec, Global}
use Rattle.pie_lexer.specs.declared.token.Token.{Token}
use Rattle.pie_project.specs.declared.pipeline.Digested.{Digested}
use Rattle.pie_project.proofs.Finding.{tokens_so, lexer_refuses}
use Rattle.pie_project.proofs.Digesting.{digested_text}
use Rattle.pie_project.proofs.pipeline.of_text.Goals as goal

pub returns-in-Ok-clause-found : goal.returns-in-Ok-clause-found
returns-in-Ok-clause-found c =
    tokens_so (λ (p : Digested). p.typed) c.args.text.now c.in-Ok.tokens.items c.as_slice.result.now c.of_tokens.result c.in-Ok.ensures.answer
    c.as_slice.ensures.value c.of_tokens.ensures.found

pub returns-in-Err-clause-found : goal.returns-in-Err-clause-found
returns-in-Err-clause-found c = rw c.lex_error.ensures (lexer_refuses (λ (p : Digested). p.typed) (λ (tokens : Vec Token Global). tokens.items) c.args.text.now
    c.in-Err.error c.in-Err.ensures.answer)

pub returns-in-Ok-clause-digested : goal.returns-in-Ok-clause-digested
returns-in-Ok-clause-digested c =
    digested_text c.args.text.now c.in-Ok.tokens.items c.as_slice.result.now c.of_tokens.result c.requires c.in-Ok.ensures.answer c.as_slice.ensures.value
    c.of_tokens.ensures.rows
