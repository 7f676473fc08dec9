use Rattle.std.proofs.Common.{◌∙◌, sym, subst}
use Rattle.pie_graph.specs.Numbers.{numbers}
use Rattle.pie_reach.specs.inner.Walks.{Walked, Walking}
use Rattle.pie_reach.proofs.WalkSteps.{walk_starts}
use Rattle.pie_reach.proofs.walk.Walk.start.Goals as goal

pub returns : goal.returns
returns g c =
    let count = g.W.Ways.size c.args.ways.now in
    let goes = g.W.Ways.goes c.args.ways.now in
    subst (λ (w : Walked). Walking count goes (numbers c.args.starts.now) w) (sym c.in_ok-meet_all.ensures)
    (walk_starts count goes (numbers c.args.starts.now) c.in_ok-walk.walk
    (c.in_ok-walk.ensures.size ∙ c.size.ensures.size) c.in_ok-walk.ensures.none c.in_ok-walk.ensures.idle c.requires)
