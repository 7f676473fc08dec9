use Rattle.std.proofs.Common.{rules}
use Rattle.pie_auto.proofs.Keeping.{sound_one}
use Rattle.pie_auto.proofs.manifest.plan_with.Goals as goal

pub returns : goal.returns
returns c =
    let plan = c.in_ok-plan.plan in
    let text = c.args.text in
    record {
      sound = sound_one plan text c.in_ok-plan.ensures.places (search rules) (search rules);
      places = c.in_ok-plan.ensures.places;
      writes = search rules;
      removals = search rules;
      pending = c.in_ok-plan.ensures.pending;
      store = c.in_ok-plan.ensures.store;
    }
