use Rattle.std.proofs.Common.{◌∙◌, ap, map}
use Rattle.std.proofs.lemmas.Option.{MatchOption-at_some}
use Rattle.pie_reach.specs.inner.Descents.{height_of}
use Rattle.pie_reach.proofs.HeightFacts.{heights_are}
use Rattle.pie_reach.proofs.reach.heights.Goals as goal

pub returns : goal.returns
returns g c =
    heights_are (g.R.TaskRows.rows c.args.rows.now) c.in-Some.states.items c.in_ok-heights-in-Some.heights.items
    (MatchOption-at_some _ _ c.in-Some.states c.in-Some.is c.in_ok-states.ensures)
    (c.in_ok-heights-in-Some.ensures ∙ ap (map height_of) c.deref.ensures.value)
