-- All tasks got new places.
use Rattle.std.proofs.Common.{◌∙◌, List, ℕ, length, sym, subst, arith}
use Rattle.std.proofs.lemmas.List.{length-map}
use Rattle.pie_graph.specs.declared.edges.TaskNo.{TaskNo}
use Rattle.pie_graph.specs.Numbers.{numbers, AllBelow}
use Rattle.pie_order.specs.Runs.{IsRun}
use Rattle.pie_order.proofs.StandingSteps.{sorted_below, span_below, spread_all}
use Rattle.pie_order.proofs.placed.Placed.spread.Goals as goal

pub place_run-requires-clause-below : goal.place_run-requires-clause-below
place_run-requires-clause-below c =
    let count = length c.args.self.now.places.items in
    let tasks = numbers c.in_ok-tasks.tasks.items in
    let below = subst (λ (n : ℕ). AllBelow n tasks) {x = c.len-count.result} {y = count} (omega (arith, c.len-count.ensures, c.args.self.now.places.ok))
    (span_below 0 c.len-count.result tasks c.in_ok-tasks.ensures) in
    subst (λ (ts : List TaskNo). AllBelow count (numbers ts)) (sym c.deref.ensures.value)
    (sorted_below count tasks (numbers c.sort_by_place.new.tasks.items) (λ n. (c.sort_by_place.ensures.same n).0) below)

pub returns-clause-standing : goal.returns-clause-standing
returns-clause-standing c =
    let p = c.args.self.now in
    let tasks = c.in_ok-tasks.tasks.items in
    let sorted = c.sort_by_place.new.tasks.items in
    let long = length-map sorted (λ (t : TaskNo). t.0) ∙ c.sort_by_place.ensures.count ∙ sym (length-map tasks (λ (t : TaskNo). t.0)) in
    let run = subst
    (λ (ts : List TaskNo). IsRun (numbers ts) 2147483648 p.places.items c.place_run.new.places.items) c.deref.ensures.value c.place_run.ensures in
    (spread_all p.settled p.low p.high c.len-count.result 2147483648 p.places.items c.place_run.new.places.items (numbers tasks) (numbers sorted)
    (omega (arith, c.len-count.ensures, c.args.self.now.places.ok))
    (omega arith) c.requires.standing c.in_ok-tasks.ensures c.sort_by_place.ensures.same long run).0

pub returns-clause-order : goal.returns-clause-order
returns-clause-order c =
    let p = c.args.self.now in
    let tasks = c.in_ok-tasks.tasks.items in
    let sorted = c.sort_by_place.new.tasks.items in
    let long = length-map sorted (λ (t : TaskNo). t.0) ∙ c.sort_by_place.ensures.count ∙ sym (length-map tasks (λ (t : TaskNo). t.0)) in
    let run = subst
    (λ (ts : List TaskNo). IsRun (numbers ts) 2147483648 p.places.items c.place_run.new.places.items) c.deref.ensures.value c.place_run.ensures in
    (spread_all p.settled p.low p.high c.len-count.result 2147483648 p.places.items c.place_run.new.places.items (numbers tasks) (numbers sorted)
    (omega (arith, c.len-count.ensures, c.args.self.now.places.ok))
    (omega arith) c.requires.standing c.in_ok-tasks.ensures c.sort_by_place.ensures.same long run).1
