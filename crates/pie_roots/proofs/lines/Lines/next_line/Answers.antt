use Rattle.std.proofs.Common.{◌∙◌, sym, ap}
use Rattle.pie_roots.specs.Lines.{texts_left}
use Rattle.pie_roots.proofs.Splitting.{first_line, last_line}
use Rattle.pie_roots.proofs.lines.Lines.next_line.Goals as goal

pub returns-in-Some : goal.returns-in-Some
returns-in-Some c =
    sym c.self.view_is ∙ ap texts_left c.in_ok-rest.was
    ∙ first_line c.in_ok-rest.rest.now c.split_once.result (c.in-Some.line, c.in-Some.after) c.split_once.ensures.cases c.in-Some.is

pub returns-in-None : goal.returns-in-None
returns-in-None c = sym c.self.view_is ∙ ap texts_left c.in_ok-rest.was
    ∙ last_line c.in_ok-rest.rest.now c.split_once.result c.split_once.ensures.cases c.in-None.is
