use Rattle.std.proofs.Common.{Some, ap, sym, subst, ◌∙◌, ◌++◌, ◌∷◌, []}
use Rattle.std.specs.Prelude.{◌≡◌, ◌<◌, slice_get, IfSome}
use Rattle.pie_fresh.specs.inner.Kept.{IsKeptAs}
use Rattle.pie_fresh.specs.inner.Ledgers.{IsHigh}
use Rattle.pie_fresh.specs.inner.Cycles.{tasks_from}
use Rattle.pie_fresh.proofs.Stepping.{given_steps}
use Rattle.pie_fresh.proofs.Giving.{given_turn, cycle_means}
use Rattle.pie_fresh.proofs.builder.Builder.answer.Goals as goal

pub returns-in_ok-frame-in-Some-clause-steps : goal.returns-in_ok-frame-in-Some-clause-steps
returns-in_ok-frame-in-Some-clause-steps c =
    let ledger = c.args.self.now.ledger in
    let at : c.in-Some.done.no.0 ≡ c.args.no.0
    = ap (λ n. n.0) (subst (λ o. IfSome o (λ d. d.no ≡ c.args.no)) c.in-Some.is c.in_ok-done.ensures.number) in
    given_steps c.args.self.now c.args.waiting c.args.required c.in-Some.done.no.0 c.in-Some.done.height c.in_ok-frame-in-Some.frame c.requires.awaits
    (subst (λ n. slice_get ledger.names n ≡ Some c.args.required) (sym at) c.requires.named)
    (subst (λ n. IsHigh ledger n c.in-Some.done.height) (sym at)
    (subst (λ o. IfSome o (λ d. IsHigh ledger c.args.no.0 d.height)) c.in-Some.is c.in_ok-done.ensures.high))
    (subst (λ o. IfSome o (λ d. d.height < ledger.ended)) c.in-Some.is c.in_ok-done.ensures.low)
    c.in_ok-frame-in-Some.ensures.ready.0 c.in_ok-frame-in-Some.ensures.ready.1

pub returns-in_ok-frame-in-Some-clause-means : goal.returns-in_ok-frame-in-Some-clause-means
returns-in_ok-frame-in-Some-clause-means c = λ s A.
    given_turn s c.args.self.now c.args.waiting c.args.how c.args.required c.args.no.0 c.in-Some.done c.in_ok-frame-in-Some.frame A c.requires.awaits.waits.left
    c.requires.small c.requires.named (subst (IsKeptAs c.args.self.now.ledger.records c.args.no.0) c.in-Some.is c.in_ok-done.ensures.kept)
    c.in_ok-frame-in-Some.ensures.told
    (ap (λ n. n.0) (subst (λ o. IfSome o (λ d. d.no ≡ c.args.no)) c.in-Some.is c.in_ok-done.ensures.number))

pub returns-in_ok-tasks-in-None-clause-means : goal.returns-in_ok-tasks-in-None-clause-means
returns-in_ok-tasks-in-None-clause-means c = λ s A.
    cycle_means s c.args.self.now c.args.waiting c.args.how c.args.required c.args.no.0 c.in_ok-tasks-in-None.tasks c.requires.awaits.stands A
    c.requires.awaits.waits.left c.requires.small c.requires.named
    (subst (IsKeptAs c.args.self.now.ledger.records c.args.no.0) c.in-None.is c.in_ok-done.ensures.kept)
    (c.in_ok-tasks-in-None.ensures ∙ ap (λ t. tasks_from c.args.no.0 c.args.self.now.stack.items ++ t ∷ []) c.into_task.ensures)
