-- One more task has its place.
use Rattle.std.proofs.Common.{arith, length}
use Rattle.std.proofs.lemmas.List.{length-map}
use Rattle.pie_graph.specs.declared.edges.TaskNo.{TaskNo}
use Rattle.pie_graph.specs.Numbers.{numbers}
use Rattle.pie_reach.proofs.WalkSteps.{number_below}
use Rattle.pie_order.proofs.RunSteps.{run_goes_on, run_ends}
use Rattle.pie_order.proofs.placing.place_run.Goals as goal

pub index_mut-requires : goal.index_mut-requires
index_mut-requires c = omega (
  arith,
  number_below (length c.args.places.now.items) c.args.tasks.now c.loop-i.i
      (record { 0 = 0 }) c.requires.below c.loop-i-test.true,
  c.loop-i.invariant.sized,
)

pub loop-i-preserved : goal.loop-i-preserved
loop-i-preserved c = run_goes_on c.args.tasks.now c.args.first c.loop-i.i
    (record { 0 = 0 }) c.args.places.now.items c.loop-i.places.items c.loop-i-test.true c.requires.below c.loop-i.invariant

pub returns : goal.returns
returns c =
    let size = length-map c.args.tasks.now (λ (t : TaskNo). t.0) in
    run_ends (numbers c.args.tasks.now) c.args.first c.loop-i.i c.args.places.now.items c.loop-i.places.items c.requires.order
    (omega (arith, size, c.loop-i-test.false)) (omega (arith, size, c.loop-i.auto.i-end)) c.loop-i.invariant
