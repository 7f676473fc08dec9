use Rattle.std.proofs.Common.{◌∙◌, sym}
use Rattle.pie_code.proofs.Following.{begins, started}
use Rattle.pie_code.proofs.heights.first_bad_height.Goals as goal

pub run-requires-clause-search : goal.run-requires-clause-search
run-requires-clause-search c =
    let n = c.in_ok-search.ensures in
    started c.args.code.now c.in_ok-search.search c.meet.new.self
    (begins c.args.code.now c.in_ok-search.search n.sized n.unmet n.empty n.none (n.bad ∙ sym n.limit))
    c.in_ok-meet.ensures
