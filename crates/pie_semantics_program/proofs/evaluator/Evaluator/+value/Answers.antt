use Rattle.std.proofs.Common.{rules, ◌≡◌, Err, subst, arith}
use Rattle.pie_value.specs.Tree.{Tree, TList, items_of}
use Rattle.pie_value.specs.Values.{tree_of, trees_of}
use Rattle.pie_operators.specs.Domain.{Outcome, State, done}
use Rattle.pie_semantics.specs.Meaning.{value_of}
use Rattle.pie_types.proofs.Left.{line_mass_at, step_mass_at, tree_mass_at}
use Rattle.pie_semantics_program.specs.Coming.{Comes}
use Rattle.pie_semantics_program.proofs.Turning.{either_stops, both_stops, each_list}
use Rattle.pie_semantics_program.proofs.evaluator.Evaluator.+value.Goals as goal

-- src/chain.rt: what is no truth value
pub both-returns-in_err-truth : goal.both-returns-in_err-truth
both-returns-in_err-truth t c =
    let h = both_stops tree_of c.args.steps.now c.loop-step.step-index c.step-item.result c.args.names.now (tree_of c.loop-step.value)
    c.in_err-truth.field-0.0 c.loop-step.self c.loop-step-test.true c.step-item.is c.in_err-truth.ensures in
    let k = subst (λ (o : Outcome Tree × State). Comes tree_of (Err c.in_err-truth.field-0.0) c.loop-step.self o) c.loop-step.invariant h in
    let is : c.from_residual.result ≡ Err c.in_err-truth.field-0.0 = search rules in
    rw is k

-- src/many.rt: a list
pub each-returns-in-List : goal.each-returns-in-List
each-returns-in-List t c =
    let is : value_of c.args.list.now c.args.names.now c.tick.new.self
    ≡ (done (TList (items_of (trees_of c.as_slice.result.now))), c.value.new.self) = search rules in
    let more = c.in_ok-tick.ensures in
    each_list tree_of c.turns.result c.args.item.now c.args.list.now c.args.name.now c.args.names.now (items_of (trees_of c.as_slice.result.now))
    c.args.self.now c.tick.new.self c.value.new.self c.turns.new.self more.0 more.1 is c.turns.ensures

-- src/chain.rt: what is no truth value
pub either-returns-in_err-truth : goal.either-returns-in_err-truth
either-returns-in_err-truth t c =
    let h = either_stops tree_of c.args.steps.now c.loop-step.step-index c.step-item.result c.args.names.now (tree_of c.loop-step.value)
    c.in_err-truth.field-0.0 c.loop-step.self c.loop-step-test.true c.step-item.is c.in_err-truth.ensures in
    let k = subst (λ (o : Outcome Tree × State). Comes tree_of (Err c.in_err-truth.field-0.0) c.loop-step.self o) c.loop-step.invariant h in
    let is : c.from_residual.result ≡ Err c.in_err-truth.field-0.0 = search rules in
    rw is k

pub either-value-requires : goal.either-value-requires
either-value-requires t c = grind (arith, step_mass_at)

pub both-value-requires : goal.both-value-requires
both-value-requires t c = grind (arith, step_mass_at)

pub steps-value-requires : goal.steps-value-requires
steps-value-requires t c = grind (arith, step_mass_at)

pub arguments-value-requires : goal.arguments-value-requires
arguments-value-requires t c = grind (arith, tree_mass_at)

pub items_onto-value-requires : goal.items_onto-value-requires
items_onto-value-requires t c = grind (arith, tree_mass_at)

pub lines-line-requires : goal.lines-line-requires
lines-line-requires t c = grind (arith, line_mass_at)
