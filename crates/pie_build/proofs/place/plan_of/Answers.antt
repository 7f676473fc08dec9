use Rattle.std.proofs.Common.{ap, ◌∙◌}
use Rattle.pie_build.proofs.Removing.{sound_plan, all_out}
use Rattle.pie_build.proofs.place.plan_of.Goals as goal

pub returns-clause-plan : goal.returns-clause-plan
returns-clause-plan c = record {
  places = c.in_ok-plan.ensures.places;
  removals = ap (λ v. v.items) c.in_ok-plan.ensures.removals ∙ c.in_ok-removals.ensures;
  writes = ap (λ v. v.items) c.in_ok-plan.ensures.writes;
  pending = c.in_ok-plan.ensures.pending;
  store = c.in_ok-plan.ensures.store;
  removals_out = c.requires.removed;
  writes_out = all_out c.args.contents.items c.requires.contents.out;
}

pub returns-clause-sound : goal.returns-clause-sound
returns-clause-sound c = sound_plan c.args.removed.now c.args.contents.items c.args.pending c.args.store c.in_ok-plan.plan (record {
  places = c.in_ok-plan.ensures.places;
  removals = ap (λ v. v.items) c.in_ok-plan.ensures.removals ∙ c.in_ok-removals.ensures;
  writes = ap (λ v. v.items) c.in_ok-plan.ensures.writes;
  pending = c.in_ok-plan.ensures.pending;
  store = c.in_ok-plan.ensures.store;
  removals_out = c.requires.removed;
  writes_out = all_out c.args.contents.items c.requires.contents.out;
})
