use Rattle.std.proofs.Common.{refl}
use Rattle.std.proofs.lemmas.Option.{MatchOption-at_some}
use Rattle.pie_reach.proofs.HeightFacts.{done_acyclic}
use Rattle.pie_reach.proofs.reach.is_acyclic.Goals as goal

pub returns : goal.returns
returns g c = (
  (λ _. done_acyclic (g.R.TaskRows.rows c.args.rows.now) c.in-Some.states.items
      (MatchOption-at_some _ _ c.in-Some.states c.in-Some.is c.in_ok-states.ensures)),
  λ _. refl,
)
