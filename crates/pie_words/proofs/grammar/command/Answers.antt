use Rattle.std.proofs.Common.{None, Some, ◌∙◌, rules}
use Rattle.pie_words.proofs.Taken.{found_is, met}
use Rattle.pie_words.proofs.grammar.command.Goals as goal

pub returns-in-Some : goal.returns-in-Some
returns-in-Some c = λ command plain is. c.named.ensures command plain
    (found_is c.args.found.now (Some (c.in-Some.name, c.in-Some.flags)) c.in-Some.ensures.name c.in-Some.ensures.rows ∙ is)

pub returns-in-None : goal.returns-in-None
returns-in-None c = λ command plain is.
    let none = found_is c.args.found.now None c.in-None.ensures.name c.in-None.ensures.rows ∙ (is ∙ met command plain) in
    absurd (search rules)
