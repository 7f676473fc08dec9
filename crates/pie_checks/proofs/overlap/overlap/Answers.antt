use Rattle.std.proofs.Common.{◌∙◌, length, subst, sym}
use Rattle.pie_graph.specs.Numbers.{AllBelow}
use Rattle.pie_checks.proofs.OverlapFacts.{two_beside, two_below, no_overlap, overlap_told}
use Rattle.pie_checks.proofs.Numbering.{beside_below}
use Rattle.pie_checks.proofs.overlap.overlap.Goals as goal

pub two_least-first-requires-clause-two : goal.two_least-first-requires-clause-two
two_least-first-requires-clause-two c =
    two_beside c.args.writes.now c.in-Some.path.now c.deref.result.now (c.deref.ensures.value ∙ c.in_ok-writers-in-Some.ensures) c.in-Some.ensures

pub two_least-first-requires-clause-numbered : goal.two_least-first-requires-clause-numbered
two_least-first-requires-clause-numbered c =
    subst (AllBelow (length c.args.tasks.now)) (sym (c.deref.ensures.value ∙ c.in_ok-writers-in-Some.ensures))
    (beside_below (length c.args.tasks.now) c.args.writes.now c.in-Some.path.now c.requires.numbered)

pub told-requires-clause-first : goal.told-requires-clause-first
told-requires-clause-first c =
    (two_below c.args.tasks.now c.args.writes.now c.in-Some.path.now c.deref.result.now c.two_least-first.result
    (c.deref.ensures.value ∙ c.in_ok-writers-in-Some.ensures) c.requires.numbered c.two_least-first.ensures).0

pub told-requires-clause-second : goal.told-requires-clause-second
told-requires-clause-second c =
    (two_below c.args.tasks.now c.args.writes.now c.in-Some.path.now c.deref.result.now c.two_least-first.result
    (c.deref.ensures.value ∙ c.in_ok-writers-in-Some.ensures) c.requires.numbered c.two_least-first.ensures).1

pub returns-in_ok-refusal-in-Some : goal.returns-in_ok-refusal-in-Some
returns-in_ok-refusal-in-Some c =
    overlap_told c.args.tasks.now c.args.writes.now c.in-Some.path.now c.deref.result.now c.two_least-first.result c.in_ok-refusal-in-Some.refusal
    c.requires.distinct c.requires.numbered c.in-Some.ensures
    (c.deref.ensures.value ∙ c.in_ok-writers-in-Some.ensures) c.two_least-first.ensures c.in_ok-refusal-in-Some.ensures

pub returns-in-None : goal.returns-in-None
returns-in-None c = no_overlap c.args.tasks.now c.args.writes.now c.in-None.ensures
