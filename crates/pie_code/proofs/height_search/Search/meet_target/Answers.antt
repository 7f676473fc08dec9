use Rattle.std.proofs.Common.{◌∙◌, sym}
use Rattle.pie_code.proofs.Following.{target_met}
use Rattle.pie_code.proofs.height_search.Search.meet_target.Goals as goal

pub returns-in_ok-meet : goal.returns-in_ok-meet
returns-in_ok-meet c = target_met c.args.instr c.in-Some.to c.args.height c.args.self.now c.meet.new.self
    (sym c.target.ensures ∙ c.in-Some.is) c.in_ok-meet.ensures
