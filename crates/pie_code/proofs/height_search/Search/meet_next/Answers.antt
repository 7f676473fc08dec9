use Rattle.std.proofs.Common.{◌∙◌, sym}
use Rattle.pie_code.proofs.Following.{next_met}
use Rattle.pie_code.proofs.height_search.Search.meet_next.Goals as goal

pub returns-in_ok-meet : goal.returns-in_ok-meet
returns-in_ok-meet c = next_met c.args.instr c.args.place c.args.height c.args.self.now c.meet.new.self
    (sym c.goes_on.ensures ∙ c.if-goes_on.true) c.in_ok-meet.ensures
