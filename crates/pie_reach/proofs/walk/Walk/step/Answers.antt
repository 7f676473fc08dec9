use Rattle.std.proofs.Common.{◌≡◌, ◌∙◌, ◌<◌, ◌+◌, ℕ, List, length, sym, ap, subst}
use Rattle.std.proofs.lemmas.List.Elements.{Contains-push}
use Rattle.std.specs.List.{Contains}
use Rattle.pie_graph.specs.declared.edges.TaskNo.{TaskNo}
use Rattle.pie_graph.specs.Numbers.{numbers, AllBelow}
use Rattle.pie_reach.specs.inner.Walks.{Walked, Walking, Ready, meet_all, unmarked}
use Rattle.pie_reach.proofs.WalkSteps.{walk_steps, ready_steps, nearer_step, all_below, popped_last}
use Rattle.pie_reach.proofs.walk.Walk.step.Goals as goal

pub next-requires : goal.next-requires
next-requires g c =
    let rest = numbers c.pop.new.self.items in
    let popped = popped_last c.args.self.now c.self.inside.marks.items c.self.inside.work.items c.pop.new.self.items c.in-Some.no c.self.view_is
    c.in-Some.ensures.items in
    c.requires.below c.in-Some.no.0 (subst (λ (ns : List ℕ). Contains ns c.in-Some.no.0) (sym popped) (Contains-push rest c.in-Some.no.0))

pub meet_all-requires : goal.meet_all-requires
meet_all-requires g c =
    let count = g.W.Ways.size c.args.ways.now in
    let sized : length c.self.inside.marks.items ≡ count = ap (λ (w : Walked). length w.marks) c.self.view_is ∙ c.requires.sized in
    subst (λ (size : ℕ). AllBelow size (numbers c.deref.result.now)) (sym sized)
    (subst (λ (ts : List TaskNo). AllBelow count (numbers ts)) (sym c.deref.ensures.value)
    (all_below count (numbers c.in_ok-next.next.items) c.in_ok-next.ensures.below))

pub returns-clause-ready : goal.returns-clause-ready
returns-clause-ready g c =
    let count = g.W.Ways.size c.args.ways.now in
    let rest = numbers c.pop.new.self.items in
    let found = numbers c.in_ok-next.next.items in
    let popped = popped_last c.args.self.now c.self.inside.marks.items c.self.inside.work.items c.pop.new.self.items c.in-Some.no c.self.view_is
    c.in-Some.ensures.items in
    let after = c.in_ok-meet_all.ensures ∙ ap (λ (ts : List TaskNo).
    meet_all (numbers ts) (record { marks = c.self.inside.marks.items; work = rest })) c.deref.ensures.value
    ∙ ap (λ (w : Walked). meet_all found (record { marks = w.marks; work = rest })) c.self.view_is in
    subst (Ready count) (sym after)
    (ready_steps count (g.W.Ways.goes c.args.ways.now) c.args.self.now rest c.in-Some.no.0 found popped c.in_ok-next.ensures c.requires)

pub returns-clause-kept : goal.returns-clause-kept
returns-clause-kept g c = λ starts walking.
    let count = g.W.Ways.size c.args.ways.now in
    let goes = g.W.Ways.goes c.args.ways.now in
    let rest = numbers c.pop.new.self.items in
    let found = numbers c.in_ok-next.next.items in
    let popped = popped_last c.args.self.now c.self.inside.marks.items c.self.inside.work.items c.pop.new.self.items c.in-Some.no c.self.view_is
    c.in-Some.ensures.items in
    let after = c.in_ok-meet_all.ensures ∙ ap (λ (ts : List TaskNo).
    meet_all (numbers ts) (record { marks = c.self.inside.marks.items; work = rest })) c.deref.ensures.value
    ∙ ap (λ (w : Walked). meet_all found (record { marks = w.marks; work = rest })) c.self.view_is in
    subst (Walking count goes starts) (sym after) (walk_steps count goes starts c.args.self.now rest c.in-Some.no.0 found popped c.in_ok-next.ensures walking)

pub returns-clause-nearer : goal.returns-clause-nearer
returns-clause-nearer g c = λ went.
    let count = g.W.Ways.size c.args.ways.now in
    let rest = numbers c.pop.new.self.items in
    let found = numbers c.in_ok-next.next.items in
    let popped = popped_last c.args.self.now c.self.inside.marks.items c.self.inside.work.items c.pop.new.self.items c.in-Some.no c.self.view_is
    c.in-Some.ensures.items in
    let after = c.in_ok-meet_all.ensures ∙ ap (λ (ts : List TaskNo).
    meet_all (numbers ts) (record { marks = c.self.inside.marks.items; work = rest })) c.deref.ensures.value
    ∙ ap (λ (w : Walked). meet_all found (record { marks = w.marks; work = rest })) c.self.view_is in
    subst (λ (v : Walked). unmarked v.marks + length v.work < unmarked c.args.self.now.marks + length c.args.self.now.work) (sym after)
    (nearer_step c.args.self.now rest c.in-Some.no.0 found popped
    (subst (λ (size : ℕ). AllBelow size found) (sym c.requires.sized) (all_below count found c.in_ok-next.ensures.below)))
