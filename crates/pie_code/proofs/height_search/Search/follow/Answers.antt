use Rattle.std.proofs.Common.{Some, ◌≡◌, true, ◌+◌, ℕ}
use Rattle.pie_code.specs.Ways.{goes_on, target}
use Rattle.pie_code.proofs.Meeting.{meets_both}
use Rattle.pie_code.proofs.height_search.Search.follow.Goals as goal

pub returns : goal.returns
returns c =
    meets_both (λ (to : ℕ). (goes_on c.args.instr ≡ true) × (to ≡ c.args.place + 1)) (λ (to : ℕ). target c.args.instr ≡ Some to) c.args.height
    c.args.self.now c.meet_next.new.self c.meet_target.new.self c.in_ok-meet_next.ensures c.in_ok-meet_target.ensures
