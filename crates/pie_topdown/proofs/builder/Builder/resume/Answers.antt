use Rattle.std.proofs.Common.{◌++◌, Some, ap, subst, ◌∙◌, arith, refl}
use Rattle.std.specs.Prelude.{IfOk}
use Rattle.std.specs.Option.{option_to_list}
use Rattle.pie_topdown.specs.declared.hand.Frame.TheVariants as frames
use Rattle.pie_topdown.specs.inner.Turns.{Fits, Nearer}
use Rattle.pie_topdown.proofs.Resumed.{caller_resumes, check_resumes, none_resumes}
use Rattle.pie_topdown.proofs.Stacking.{popped_mass, popped_room}
use Rattle.pie_topdown.proofs.Owning.{none_holds, popped_holds, waited_holds}
use Rattle.pie_topdown.proofs.Trying.{caller_popped, check_popped, none_popped}
use Rattle.pie_topdown.proofs.builder.Builder.resume.Goals as goal

pub returns-in-Some-Checks-clause-nearer : goal.returns-in-Some-Checks-clause-nearer
returns-in-Some-Checks-clause-nearer c =
    let e = frames.Checks c.in-Some-Checks.check in
    let m = popped_mass c.args.self.now.stack.items c.pop.new.self.items e
    (c.in-Some-Checks.ensures.items ∙ ap (λ x. c.pop.new.self.items ++ option_to_list (Some x)) c.in-Some-Checks.field-0-is) in
    omega (arith, m)

pub returns-in-Some-Checks-clause-fits : goal.returns-in-Some-Checks-clause-fits
returns-in-Some-Checks-clause-fits c =
    let e = frames.Checks c.in-Some-Checks.check in
    let m = popped_room c.args.self.now.stack.items c.pop.new.self.items e
    (c.in-Some-Checks.ensures.items ∙ ap (λ x. c.pop.new.self.items ++ option_to_list (Some x)) c.in-Some-Checks.field-0-is) in
    omega (arith, m)

pub returns-in-Some-Waits-clause-nearer : goal.returns-in-Some-Waits-clause-nearer
returns-in-Some-Waits-clause-nearer c =
    let e = frames.Waits c.in-Some-Waits.caller in
    let m = popped_mass c.args.self.now.stack.items c.pop.new.self.items e
    (c.in-Some-Waits.ensures.items ∙ ap (λ x. c.pop.new.self.items ++ option_to_list (Some x)) c.in-Some-Waits.field-0-is) in
    subst (λ n. IfOk c.answer_again.result (Nearer n c.answer_again.new.self)) (omega (arith, m)) c.answer_again.ensures.nearer

pub returns-in-Some-Waits-clause-fits : goal.returns-in-Some-Waits-clause-fits
returns-in-Some-Waits-clause-fits c =
    let e = frames.Waits c.in-Some-Waits.caller in
    let m = popped_room c.args.self.now.stack.items c.pop.new.self.items e
    (c.in-Some-Waits.ensures.items ∙ ap (λ x. c.pop.new.self.items ++ option_to_list (Some x)) c.in-Some-Waits.field-0-is) in
    subst (λ n. IfOk c.answer_again.result (Fits n c.answer_again.new.self)) (omega (arith, m)) c.answer_again.ensures.fits

pub returns-in-Some-Checks-clause-right : goal.returns-in-Some-Checks-clause-right
returns-in-Some-Checks-clause-right c =
    check_resumes c.args.self.now c.pop.new.self c.in-Some-Checks.check
    (c.in-Some-Checks.ensures.items ∙ ap (λ x. c.pop.new.self.items ++ option_to_list (Some x)) c.in-Some-Checks.field-0-is)

pub returns-in-Some-Waits-clause-right : goal.returns-in-Some-Waits-clause-right
returns-in-Some-Waits-clause-right c =
    caller_resumes c.args.self.now c.answer_again.new.self c.pop.new.self c.in-Some-Waits.caller c.answer_again.result
    (c.in-Some-Waits.ensures.items ∙ ap (λ x. c.pop.new.self.items ++ option_to_list (Some x)) c.in-Some-Waits.field-0-is) c.answer_again.ensures.right

pub returns-in-None-clause-right : goal.returns-in-None-clause-right
returns-in-None-clause-right c =
    let no_old = c.in-None.ensures.cases.0 in
    let no_new = c.in-None.ensures.cases.1 in
    none_resumes c.args.self.now c.pop.new.self (omega (arith, c.args.self.now.stack.ok.0, no_old)) (omega (arith, c.pop.new.self.ok.0, no_new))

pub returns-in-Some-Checks-clause-own : goal.returns-in-Some-Checks-clause-own
returns-in-Some-Checks-clause-own c =
    popped_holds c.args.self.now _ c.in-Some-Checks.check
    (c.in-Some-Checks.ensures.items ∙ ap (λ x. c.pop.new.self.items ++ option_to_list (Some x)) c.in-Some-Checks.field-0-is) refl

pub returns-in-Some-Waits-clause-own : goal.returns-in-Some-Waits-clause-own
returns-in-Some-Waits-clause-own c =
    waited_holds c.args.self.now (record c.args.self.now { stack = c.pop.new.self }) c.answer_again.new.self c.in-Some-Waits.caller c.answer_again.result
    (c.in-Some-Waits.ensures.items ∙ ap (λ x. c.pop.new.self.items ++ option_to_list (Some x)) c.in-Some-Waits.field-0-is) refl c.answer_again.ensures.marks

pub returns-in-None-clause-own : goal.returns-in-None-clause-own
returns-in-None-clause-own c =
    let no_new = c.in-None.ensures.cases.1 in
    none_holds c.args.self.now _ (omega (arith, c.pop.new.self.ok.0, no_new)) refl

pub returns-in-Some-Checks-clause-tried : goal.returns-in-Some-Checks-clause-tried
returns-in-Some-Checks-clause-tried c =
    check_popped c.args.self.now _ c.in-Some-Checks.check
    (c.in-Some-Checks.ensures.items ∙ ap (λ x. c.pop.new.self.items ++ option_to_list (Some x)) c.in-Some-Checks.field-0-is)

pub returns-in-Some-Waits-clause-tried : goal.returns-in-Some-Waits-clause-tried
returns-in-Some-Waits-clause-tried c =
    caller_popped c.args.self.now (record c.args.self.now { stack = c.pop.new.self }) c.answer_again.new.self c.in-Some-Waits.caller c.answer_again.result
    (c.in-Some-Waits.ensures.items ∙ ap (λ x. c.pop.new.self.items ++ option_to_list (Some x)) c.in-Some-Waits.field-0-is) c.answer_again.ensures.marks

pub returns-in-None-clause-tried : goal.returns-in-None-clause-tried
returns-in-None-clause-tried c =
    let no_new = c.in-None.ensures.cases.1 in
    none_popped c.args.self.now _ (omega (arith, c.pop.new.self.ok.0, no_new))
