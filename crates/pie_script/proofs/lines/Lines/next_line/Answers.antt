use Rattle.std.proofs.Common.{◌∙◌, sym, ap}
use Rattle.pie_script.specs.Line.{texts_left}
use Rattle.pie_script.proofs.Splitting.{first_text, last_text}
use Rattle.pie_script.proofs.lines.Lines.next_line.Goals as goal

pub returns-in-Some : goal.returns-in-Some
returns-in-Some c = sym c.self.view_is ∙ ap texts_left c.in_ok-rest.was
    ∙ first_text c.in_ok-rest.rest.now c.in-Some.end (sym c.newline_in.ensures ∙ c.in-Some.is)

pub returns-in-None : goal.returns-in-None
returns-in-None c = sym c.self.view_is ∙ ap texts_left c.in_ok-rest.was ∙ last_text c.in_ok-rest.rest.now (sym c.newline_in.ensures ∙ c.in-None.is)
