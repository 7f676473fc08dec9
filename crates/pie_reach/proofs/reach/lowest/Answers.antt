use Rattle.std.proofs.Common.{Bool, ℕ, List, subst}
use Rattle.pie_graph.specs.Numbers.{numbers}
use Rattle.pie_reach.specs.inner.LeastKey.{IsBest}
use Rattle.pie_reach.proofs.HeightFacts.{lowest_found}
use Rattle.pie_reach.proofs.reach.lowest.Goals as goal

pub returns : goal.returns
returns g c =
    let members = numbers c.args.among.now in
    lowest_found
    (g.R.TaskRows.rows c.args.rows.now) members c.args.under.0 c.in_ok-marks.marks.items c.in_ok-heights.heights.items c.least-found.result
    c.in_ok-marks.ensures c.in_ok-heights.ensures
    (subst (λ (ms : List Bool). IsBest members ms c.in_ok-heights.heights.items c.least-found.result) c.deref.ensures.value
    (subst (λ (hs : List ℕ). IsBest members c.deref.result.now hs c.least-found.result) c.deref-2.ensures.value c.least-found.ensures))
