use Rattle.std.proofs.Common.{Option, sym, ◌∙◌, subst, refl, inl, arith}
use Rattle.std.specs.Prelude.{IfOk, OnOk}
use Rattle.pie_bottomup.specs.declared.state.Core.{Core}
use Rattle.pie_bottomup.specs.declared.state.InHand.{InHand}
use Rattle.pie_bottomup.specs.inner.Going.{GoesWhole}
use Rattle.pie_bottomup.proofs.GoingEvents.{event_whole}
use Rattle.pie_bottomup.proofs.Many.{hand_many}
use Rattle.pie_bottomup.specs.inner.Asked.{GoesAsking}
use Rattle.pie_bottomup.proofs.Asking.{free_asks, hand_steps}
use Rattle.pie_bottomup.specs.inner.Stepping.{LeavesWhole, StartsRight}
use Rattle.pie_bottomup.proofs.Stepping.{free_as, free_goes, hand_goes, hand_starts, leaves_whole, takes_hand, takes_none}
use Rattle.pie_bottomup.proofs.state.Core.step.Goals as goal

pub event-requires : goal.event-requires
event-requires g c =
    takes_hand c.args.self.now c.take.new.self c.in-Some.hand c.requires (sym c.take.ensures.value ∙ c.in-Some.is) c.take.ensures.after

pub go_on-requires : goal.go_on-requires
go_on-requires g c = takes_none c.args.self.now c.take.new.self c.requires (sym c.take.ensures.value ∙ c.in-None.is) c.take.ensures.after

pub returns-in-Some-clause-steps : goal.returns-in-Some-clause-steps
returns-in-Some-clause-steps g c =
    hand_goes c.args.self.now c.event.new.self c.in-Some.hand c.event.result (sym c.take.ensures.value ∙ c.in-Some.is) c.event.ensures.turns
    c.event.ensures.nearer

pub returns-in-None-clause-steps : goal.returns-in-None-clause-steps
returns-in-None-clause-steps g c = free_goes c.args.self.now c.go_on.new.self c.go_on.result c.go_on.ensures.steps

pub returns-in-Some-clause-few : goal.returns-in-Some-clause-few
returns-in-Some-clause-few g c = record { starts = inl refl; few = omega arith }

pub returns-in-None-clause-few : goal.returns-in-None-clause-few
returns-in-None-clause-few g c = record { starts = c.go_on.ensures.few.starts; few = c.go_on.ensures.few.few }

pub returns-in-Some-clause-starts : goal.returns-in-Some-clause-starts
returns-in-Some-clause-starts g c =
    hand_starts (g.F.Files.holds c.args.files.now) c.args.self.now c.event.new.self c.take.new.self c.args.runs.now c.event.result c.event.ensures.kept

pub returns-in-None-clause-starts : goal.returns-in-None-clause-starts
returns-in-None-clause-starts g c =
    let held = g.F.Files.holds c.args.files.now in
    let new = c.go_on.new.self in
    free_as (λ (x : Core). OnOk c.go_on.result (StartsRight held x new c.args.runs.now c.go_on.new.runs)) c.args.self.now c.take.new.self
    (sym c.take.ensures.value ∙ c.in-None.is) c.take.ensures.after c.go_on.ensures.starts

pub returns-in-Some-clause-whole : goal.returns-in-Some-clause-whole
returns-in-Some-clause-whole g c =
    let held = g.F.Files.holds c.args.files.now in
    let hand = c.in-Some.hand in
    let old = c.args.self.now in
    let new = c.event.new.self in
    leaves_whole held old new c.event.result (hand_many old hand c.event.result c.requires (sym c.take.ensures.value ∙ c.in-Some.is))
    (event_whole held old new hand c.event.result c.requires (sym c.take.ensures.value ∙ c.in-Some.is)
    (subst (λ (h : Option InHand). IfOk c.event.result (GoesWhole held (record c.args.self.now { hand = h }) hand new)) c.take.ensures.after
    c.event.ensures.whole))

pub returns-in-None-clause-whole : goal.returns-in-None-clause-whole
returns-in-None-clause-whole g c =
    let held = g.F.Files.holds c.args.files.now in
    let new = c.go_on.new.self in
    free_as (λ (x : Core). IfOk c.go_on.result (LeavesWhole held x new)) c.args.self.now c.take.new.self (sym c.take.ensures.value ∙ c.in-None.is)
    c.take.ensures.after c.go_on.ensures.whole

pub returns-in-Some-clause-asks : goal.returns-in-Some-clause-asks
returns-in-Some-clause-asks g c =
    let before = g.F.Files.asked c.args.files.now in
    let after = g.F.Files.asked c.event.new.files in
    hand_steps c.args.self.now c.in-Some.hand before after c.requires (sym c.take.ensures.value ∙ c.in-Some.is)
    (subst (λ (h : Option InHand). GoesAsking (record c.args.self.now { hand = h }) c.in-Some.hand before after) c.take.ensures.after c.event.ensures.asks)

pub returns-in-None-clause-asks : goal.returns-in-None-clause-asks
returns-in-None-clause-asks g c =
    free_asks c.args.self.now c.take.new.self (g.F.Files.asked c.args.files.now) (g.F.Files.asked c.go_on.new.files) c.go_on.ensures.asks
