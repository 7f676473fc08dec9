use Rattle.std.proofs.Common.{Bool, List, sym, subst}
use Rattle.pie_graph.specs.Numbers.{numbers}
use Rattle.pie_reach.specs.inner.Walks.{IsClosure}
use Rattle.pie_reach.proofs.WalkSteps.{walk_ends}
use Rattle.pie_reach.proofs.walk.closure.Goals as goal

pub returns : goal.returns
returns g c =
    let count = g.W.Ways.size c.args.ways.now in
    let goes = g.W.Ways.goes c.args.ways.now in
    let starts = numbers c.args.starts.now in
    subst (λ (marks : List Bool). IsClosure count goes starts marks) (sym c.into_marks.ensures)
    (walk_ends count goes starts c.run.new.self c.in_ok-run.ensures.over (c.in_ok-run.ensures.kept starts c.in_ok-walk.ensures))
