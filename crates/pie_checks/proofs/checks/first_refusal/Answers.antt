use Rattle.std.proofs.Common.{List, length, subst, sym}
use Rattle.std.specs.Prelude.{None, Some}
use Rattle.pie_graph.specs.Numbers.{numbers}
use Rattle.pie_checks.specs.Records.{OfTask}
use Rattle.pie_checks.specs.Refusals.{FindsOverlap, FindsNested, FindsHidden}
use Rattle.pie_checks.specs.Listings.{Entry, AreNumbered, Stands, IsListed, HasOneEach}
use Rattle.pie_checks.proofs.Numbering.{apart}
use Rattle.pie_checks.proofs.Verdicts.{numbered_writes, numbered_misses, first_overlap, first_nested, first_hidden, one_each}
use Rattle.pie_checks.proofs.checks.first_refusal.Goals as goal

pub overlap-requires-clause-numbered : goal.overlap-requires-clause-numbered
overlap-requires-clause-numbered c =
    let count = length c.args.tasks.now in
    subst (AreNumbered count) (sym c.deref.ensures.value) (numbered_writes c.args.records.now
    (numbers c.args.live.now) count c.in_ok-writes.writes.items c.requires.live c.in_ok-writes.ensures)

pub returns-in-Some : goal.returns-in-Some
returns-in-Some c =
    let tasks = c.args.tasks.now in
    let live = numbers c.args.live.now in
    let found = subst (λ (es : List Entry). FindsOverlap (OfTask tasks (Stands es)) (Some c.in-Some.refusal)) c.deref.ensures.value
    (subst (FindsOverlap (OfTask tasks (Stands c.deref.result.now))) c.in-Some.is c.in_ok-refusal.ensures) in
    first_overlap tasks c.args.records.now live c.in_ok-writes.writes.items c.in_ok-writes.ensures
    (numbered_writes c.args.records.now live (length tasks) c.in_ok-writes.writes.items c.requires.live c.in_ok-writes.ensures) c.in-Some.refusal found

pub returns-in-Some-2 : goal.returns-in-Some-2
returns-in-Some-2 c =
    let tasks = c.args.tasks.now in
    let live = numbers c.args.live.now in
    let none = subst (λ (es : List Entry). FindsOverlap (OfTask tasks (Stands es)) None) c.deref.ensures.value
    (subst (FindsOverlap (OfTask tasks (Stands c.deref.result.now))) c.in_default.is c.in_ok-refusal.ensures) in
    let found = subst (λ (es : List Entry). FindsNested (IsListed es) (Some c.in-Some-2.refusal)) c.deref-2.ensures.value
    (subst (FindsNested (IsListed c.deref-2.result.now)) c.in-Some-2.is c.in_ok-refusal-2.ensures) in
    first_nested tasks c.args.records.now live c.in_ok-writes.writes.items c.in_ok-writes.ensures
    (numbered_writes c.args.records.now live (length tasks) c.in_ok-writes.writes.items c.requires.live c.in_ok-writes.ensures) c.in-Some-2.refusal none found

pub hidden-requires-clause-numbered_writes : goal.hidden-requires-clause-numbered_writes
hidden-requires-clause-numbered_writes c =
    let count = length c.args.tasks.now in
    subst (AreNumbered count) (sym c.deref-3.ensures.value) (numbered_writes c.args.records.now
    (numbers c.args.live.now) count c.in_ok-writes.writes.items c.requires.live c.in_ok-writes.ensures)

pub hidden-requires-clause-numbered_misses : goal.hidden-requires-clause-numbered_misses
hidden-requires-clause-numbered_misses c =
    let count = length c.args.tasks.now in
    subst (AreNumbered count) (sym c.deref-4.ensures.value) (numbered_misses c.args.records.now
    (numbers c.args.live.now) count c.in_ok-misses.misses.items c.requires.live c.in_ok-misses.ensures)

pub hidden-requires-clause-one_each : goal.hidden-requires-clause-one_each
hidden-requires-clause-one_each c =
    let tasks = c.args.tasks.now in
    let live = numbers c.args.live.now in
    let none = subst (λ (es : List Entry). FindsOverlap (OfTask tasks (Stands es)) None) c.deref.ensures.value
    (subst (FindsOverlap (OfTask tasks (Stands c.deref.result.now))) c.in_default.is c.in_ok-refusal.ensures) in
    subst HasOneEach (sym c.deref-3.ensures.value)
    (one_each tasks c.in_ok-writes.writes.items (λ m n lm ln other. apart tasks m n c.requires.distinct lm ln other)
    (numbered_writes c.args.records.now live (length tasks) c.in_ok-writes.writes.items c.requires.live c.in_ok-writes.ensures) none)

pub returns : goal.returns
returns c =
    let tasks = c.args.tasks.now in
    let live = numbers c.args.live.now in
    let none = subst (λ (es : List Entry). FindsOverlap (OfTask tasks (Stands es)) None) c.deref.ensures.value
    (subst (FindsOverlap (OfTask tasks (Stands c.deref.result.now))) c.in_default.is c.in_ok-refusal.ensures) in
    let flat = subst (λ (es : List Entry). FindsNested (IsListed es) None) c.deref-2.ensures.value
    (subst (FindsNested (IsListed c.deref-2.result.now)) c.in_default-2.is c.in_ok-refusal-2.ensures) in
    let found = subst (λ (es : List Entry). FindsHidden (OfTask tasks (Stands c.in_ok-writes.writes.items)) (OfTask tasks (Stands es)) c.in_ok-found.found)
    c.deref-4.ensures.value
    (subst (λ (es : List Entry). FindsHidden (OfTask tasks (Stands es)) (OfTask tasks (Stands c.deref-4.result.now)) c.in_ok-found.found)
    c.deref-3.ensures.value c.in_ok-found.ensures) in
    first_hidden tasks c.args.records.now live c.in_ok-writes.writes.items c.in_ok-writes.ensures
    (numbered_writes c.args.records.now live (length tasks) c.in_ok-writes.writes.items c.requires.live c.in_ok-writes.ensures) c.in_ok-misses.misses.items
    c.in_ok-misses.ensures
    c.in_ok-found.found none flat found
