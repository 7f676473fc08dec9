use Rattle.std.proofs.Common.{◌∙◌, ℕ, List, Some, None, ap, subst}
use Rattle.pie_graph.specs.Numbers.{numbers}
use Rattle.pie_order.specs.Candidates.{Leaves}
use Rattle.pie_order.proofs.SetSteps.{leaves, none_reached, first_reached, best_is}
use Rattle.pie_order.proofs.candidates.Candidates.take_lowest_under.Goals as goal

pub returns-in-Some-clause-first : goal.returns-in-Some-clause-first
returns-in-Some-clause-first g c =
    first_reached
    (g.R.TaskRows.rows c.args.rows.now) c.args.order.now c.args.self.now c.args.root.0 c.in_ok-marks.marks.items c.in-Some.first c.requires.agrees
    c.in_ok-marks.ensures
    (best_is (numbers c.deref.result.now) c.args.self.now c.deref-2.result.now c.in_ok-marks.marks.items c.places.result.now c.args.order.now
    (Some c.in-Some.first)
    (ap numbers c.deref.ensures.value ∙ c.in_ok-members.ensures ∙ c.self.view_is) c.deref-2.ensures.value c.places.ensures c.in-Some.ensures)

pub returns-in-Some-clause-leaves : goal.returns-in-Some-clause-leaves
returns-in-Some-clause-leaves g c =
    subst (λ (old : List ℕ). Leaves old c.remove-there.new.self.keys c.in-Some.first.0) c.self.view_is
    (leaves c.self.inside.members c.remove-there.new.self c.in-Some.first.0 (λ q. c.remove-there.ensures.updates.0 q))

pub returns-clause-first : goal.returns-clause-first
returns-clause-first g c =
    none_reached (g.R.TaskRows.rows c.args.rows.now) c.args.self.now c.args.order.now c.args.root.0 c.in_ok-marks.marks.items c.in_ok-marks.ensures
    (best_is (numbers c.deref.result.now) c.args.self.now c.deref-2.result.now c.in_ok-marks.marks.items c.places.result.now c.args.order.now None
    (ap numbers c.deref.ensures.value ∙ c.in_ok-members.ensures ∙ c.self.view_is) c.deref-2.ensures.value c.places.ensures c.in-None.ensures)
