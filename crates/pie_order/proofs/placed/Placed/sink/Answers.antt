-- The tasks moved past all others.
use Rattle.std.proofs.Common.{◌≡◌, List, ℕ, length, ◌-◌, sym, subst, arith}
use Rattle.std.proofs.lemmas.List.{length-map}
use Rattle.pie_graph.specs.declared.edges.TaskNo.{TaskNo}
use Rattle.pie_graph.specs.Numbers.{numbers, AllBelow}
use Rattle.pie_order.specs.Runs.{IsRun}
use Rattle.pie_order.proofs.StandingSteps.{sorted_below, sink_all}
use Rattle.pie_order.proofs.placed.Placed.sink.Goals as goal

pub place_run-requires-clause-below : goal.place_run-requires-clause-below
place_run-requires-clause-below c =
    let count = length c.make_room.new.self.places.items in
    let below = subst (λ (n : ℕ). AllBelow n (numbers c.args.tasks.items)) (sym c.in_ok-make_room.ensures.order.sized) c.requires.below in
    subst (λ (ts : List TaskNo). AllBelow count (numbers ts)) (sym c.deref.ensures.value)
    (sorted_below count (numbers c.args.tasks.items) (numbers c.sort_by_place.new.tasks.items) (λ n. (c.sort_by_place.ensures.same n).0) below)

pub returns-clause-standing : goal.returns-clause-standing
returns-clause-standing c =
    let old = c.args.self.now in
    let mid = c.make_room.new.self in
    let sorted = c.sort_by_place.new.tasks.items in
    let many : c.len.result ≡ length (numbers sorted) = omega (arith, c.len.ensures, c.sort_by_place.new.tasks.ok, length-map sorted (λ (t : TaskNo). t.0)) in
    let run = subst (λ (ts : List TaskNo). IsRun (numbers ts)
    (mid.low - c.len.result) mid.places.items c.place_run.new.places.items) c.deref.ensures.value c.place_run.ensures in
    (sink_all mid.settled mid.low mid.high c.len.result old.places.items mid.places.items c.place_run.new.places.items (numbers c.args.tasks.items)
    (numbers sorted)
    c.in_ok-make_room.ensures.room.0 many (omega (
      arith,
      c.len.ensures,
      c.sort_by_place.new.tasks.ok,
      c.sort_by_place.ensures.count,
      c.requires.few,
    )) c.in_ok-make_room.ensures.room.1 c.in_ok-make_room.ensures.order c.make_room.ensures.standing c.sort_by_place.ensures.same run).0

pub returns-clause-first : goal.returns-clause-first
returns-clause-first c =
    let old = c.args.self.now in
    let mid = c.make_room.new.self in
    let sorted = c.sort_by_place.new.tasks.items in
    let many : c.len.result ≡ length (numbers sorted) = omega (arith, c.len.ensures, c.sort_by_place.new.tasks.ok, length-map sorted (λ (t : TaskNo). t.0)) in
    let run = subst (λ (ts : List TaskNo). IsRun (numbers ts)
    (mid.low - c.len.result) mid.places.items c.place_run.new.places.items) c.deref.ensures.value c.place_run.ensures in
    (sink_all mid.settled mid.low mid.high c.len.result old.places.items mid.places.items c.place_run.new.places.items (numbers c.args.tasks.items)
    (numbers sorted)
    c.in_ok-make_room.ensures.room.0 many (omega (
      arith,
      c.len.ensures,
      c.sort_by_place.new.tasks.ok,
      c.sort_by_place.ensures.count,
      c.requires.few,
    )) c.in_ok-make_room.ensures.room.1 c.in_ok-make_room.ensures.order c.make_room.ensures.standing c.sort_by_place.ensures.same run).1
