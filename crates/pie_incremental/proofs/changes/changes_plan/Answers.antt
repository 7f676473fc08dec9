use Rattle.std.proofs.Common.{ap, ◌∙◌}
use Rattle.pie_incremental.specs.inner.Plans.{store_change}
use Rattle.pie_incremental.proofs.Changing.{plan_of, sound}
use Rattle.pie_incremental.proofs.changes.changes_plan.Goals as goal

pub returns-clause-plan : goal.returns-clause-plan
returns-clause-plan c =
    plan_of c.args.own.now c.args.held.now c.args.rows.now c.args.contents.items c.args.store c.in_ok-removals.removals c.writes-writes.result
    c.end_of_names-pending.result c.in_ok-plan.plan c.in_ok-plan.ensures.places c.in_ok-plan.ensures.removals c.in_ok-removals.ensures.gone
    c.in_ok-removals.ensures.out c.in_ok-plan.ensures.writes c.writes-writes.ensures.new (c.writes-writes.ensures.out c.requires)
    c.in_ok-plan.ensures.pending c.end_of_names-pending.ensures
    (c.in_ok-plan.ensures.store ∙ c.change_of-store.ensures ∙ ap (λ b. store_change b c.args.store) c.as_slice.ensures.value)

pub returns-clause-sound : goal.returns-clause-sound
returns-clause-sound c =
    sound c.args.own.now c.args.held.now c.args.rows.now c.args.contents.items c.args.store c.in_ok-plan.plan
    (plan_of c.args.own.now c.args.held.now c.args.rows.now c.args.contents.items c.args.store c.in_ok-removals.removals c.writes-writes.result
    c.end_of_names-pending.result c.in_ok-plan.plan c.in_ok-plan.ensures.places c.in_ok-plan.ensures.removals c.in_ok-removals.ensures.gone
    c.in_ok-removals.ensures.out c.in_ok-plan.ensures.writes c.writes-writes.ensures.new (c.writes-writes.ensures.out c.requires)
    c.in_ok-plan.ensures.pending c.end_of_names-pending.ensures
    (c.in_ok-plan.ensures.store ∙ c.change_of-store.ensures ∙ ap (λ b. store_change b c.args.store) c.as_slice.ensures.value))
