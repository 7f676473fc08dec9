use Rattle.std.proofs.Common.{subst, sym, length}
use Rattle.pie_graph.specs.Numbers.{AllBelow, numbers}
use Rattle.pie_order.specs.Cycles.{IsCycle, WouldCall}
use Rattle.pie_frames.specs.declared.parked.Parked.{Parked}
use Rattle.pie_frames.specs.inner.Turns.{HasParked}
use Rattle.pie_bottomup.specs.inner.Causes.{AreTurned}
use Rattle.pie_bottomup.specs.inner.States.{RunsOrRests}
use Rattle.pie_bottomup.proofs.Sites.{site_parked}
use Rattle.pie_bottomup.proofs.Cycles.{cycle_in_hand, there_is}
use Rattle.pie_bottomup.proofs.Ringing.{closes_ring}
use Rattle.pie_bottomup.proofs.GoingEvents.{parked_whole}
use Rattle.pie_bottomup.proofs.state.Core.park.Goals as goal

pub tasks_of-requires : goal.tasks_of-requires
tasks_of-requires c =
    let frames = c.args.self.now.frames in
    let cycle : IsCycle (WouldCall frames.walk.rows c.args.no.0 c.args.callee.0) (numbers c.in-Some.cycle.items) =
    there_is (λ found. IsCycle (WouldCall frames.walk.rows c.args.no.0 c.args.callee.0) (numbers found.items)) c.in_ok-cycle.field-0 c.in-Some.cycle
    c.in-Some.is c.in_ok-cycle.ensures.cycle in
    subst (λ nos. AllBelow (length c.args.self.now.tables.names) (numbers nos)) (sym c.as_slice.ensures.value)
    (cycle_in_hand c.args.no frames c.args.callee.0 (length c.args.self.now.tables.names) (numbers c.in-Some.cycle.items) c.requires.awaits.taken.site.sized
    c.requires.awaits.taken.holds cycle)

pub returns-in-None-clause-turns : goal.returns-in-None-clause-turns
returns-in-None-clause-turns c =
    let p : Parked = record { caller = c.args.caller; from = c.args.from; callee = c.args.callee } in
    let has : HasParked c.args.self.now.frames c.park.new.self c.args.no p = rw c.in-None.is at c.in_ok-cycle.ensures.parked in
    record {
      site = site_parked c.args.self.now c.park.new.self c.args.no p c.requires.awaits.taken.site c.requires.awaits.taken.holds has c.requires.number
          c.requires.awaits.own c.requires.named;
      state = subst (RunsOrRests (record c.args.self.now { frames = c.park.new.self })) (sym c.requires.awaits.taken.free) has.rests;
    }

pub returns-in-None-clause-whole : goal.returns-in-None-clause-whole
returns-in-None-clause-whole c = λ u now e begins may.
    let p : Parked = record { caller = c.args.caller; from = c.args.from; callee = c.args.callee } in
    let has : HasParked c.args.self.now.frames c.park.new.self c.args.no p = rw c.in-None.is at c.in_ok-cycle.ensures.parked in
    let taken = c.requires.awaits.taken in
    let own = c.requires.awaits.own in
    parked_whole u c.args.self.now c.park.new.self c.args.no p e taken.holds has own.number c.requires.number own.row.within begins taken.free may

pub returns-in_ok-tasks-in-Some-clause-whole : goal.returns-in_ok-tasks-in-Some-clause-whole
returns-in_ok-tasks-in-Some-clause-whole c = λ u now e begins may.
    let self = c.args.self.now in
    let taken = c.requires.awaits.taken in
    let cycle : IsCycle (WouldCall self.frames.walk.rows c.args.no.0 c.args.callee.0) (numbers c.in-Some.cycle.items) =
    there_is (λ found. IsCycle (WouldCall self.frames.walk.rows c.args.no.0 c.args.callee.0) (numbers found.items)) c.in_ok-cycle.field-0 c.in-Some.cycle
    c.in-Some.is c.in_ok-cycle.ensures.cycle in
    closes_ring u self c.args.no c.args.from c.args.caller c.args.callee.0 now e taken.site taken.holds c.requires.awaits.own begins may
    c.requires.named (numbers c.in-Some.cycle.items) c.in_ok-tasks-in-Some.tasks
    (subst (λ nos. AreTurned self.tables.names (numbers nos) c.in_ok-tasks-in-Some.tasks) c.as_slice.ensures.value c.in_ok-tasks-in-Some.ensures) cycle
