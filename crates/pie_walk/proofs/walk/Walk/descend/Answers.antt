use Rattle.std.proofs.Common.{◌≡◌, ◌∙◌, ◌<◌, ℕ, List, length, get_or, sym, subst, ap, arith}
use Rattle.std.specs.Prelude.{slice_index}
use Rattle.pie_graph.specs.declared.edges.TaskNo.{TaskNo}
use Rattle.pie_graph.specs.Numbers.{numbers}
use Rattle.pie_reach.proofs.WalkSteps.{number_below}
use Rattle.pie_walk.specs.States.{WalkState}
use Rattle.pie_walk.specs.Standing.{needs_at, Stands}
use Rattle.pie_walk.proofs.ScanSteps.{number_at, length_numbers}
use Rattle.pie_walk.proofs.TurnSteps.{descends}
use Rattle.pie_walk.proofs.walk.Walk.descend.Goals as goal

pub returns : goal.returns
returns c =
    let zero : TaskNo = record { 0 = 0 } in
    let callees = c.callees.result.now in
    let needs : numbers callees ≡ needs_at c.args.self.now.rows c.args.no.0 = c.callees.ensures.callees ∙ ap (λ (s : WalkState). needs_at s.rows c.args.no.0) c.self.view_is in
    let within : c.args.at < length callees = omega (arith, length_numbers callees, ap length needs, c.requires.unsettled.within) in
    descends c.args.self.now c.pass.new.self c.meet.new.self c.args.no (get_or callees c.args.at zero) c.args.at c.requires.holds c.requires.unsettled
    (sym (number_at callees c.args.at zero within) ∙ ap (λ (ns : List ℕ). slice_index ns c.args.at) needs)
    (subst (λ (s : WalkState). (get_or callees c.args.at zero).0 < length s.rows) c.self.view_is
    (number_below (length c.self.inside.rows) callees c.args.at zero c.callees.ensures.needs_below within))
    c.in_ok-pass.ensures c.in_ok-meet.ensures
