use Rattle.std.proofs.Common.{ap, refl}
use Rattle.pie_results.specs.inner.Failures.{is_done}
use Rattle.pie_bottomup.proofs.Owning.{given_own}
use Rattle.pie_bottomup.proofs.ExactSteps.{waiting_for}
use Rattle.std.proofs.Common.{◌∙◌, sym}
use Rattle.pie_bottomup.proofs.GoingAnswers.{answer_fails, caller_works}
use Rattle.pie_bottomup.proofs.state.Core.answer.Goals as goal

pub returns-in_ok-task-in-Done-clause-turns : goal.returns-in_ok-task-in-Done-clause-turns
returns-in_ok-task-in-Done-clause-turns c =
    let site = c.requires.taken.site in
    let may = c.requires.answers in
    let ready = c.in_ok-task-in-Done.ensures.ready in
    let own = given_own c.args.self.now c.args.no c.args.parked c.in_ok-task-in-Done.task.notes c.args.parked.caller.required 0 may.number may.parked
    may.caller refl ready.1 (c.in_ok-failed.ensures.output (ap is_done c.in-Done.is)) may.settled in
    record {
      site = record { tables = site.tables; sized = site.sized; roots = site.roots; tested = site.tested; agree = site.agree; based = site.based };
      state = record {
        holds = c.requires.taken.holds;
        ready = ready.0;
        own = record { number = own.number; row = own.row; noted = own.noted };
      };
    }

pub returns-in_default-clause-whole : goal.returns-in_default-clause-whole
returns-in_default-clause-whole c =
    let may = c.requires.answers in
    answer_fails c.args.self.now c.end_below.new.self c.args.no c.args.parked c.in_ok-failed.failed c.end_below.result c.requires.taken.holds may.number
    may.caller may.settled (waiting_for c.args.self.now c.args.no c.args.parked may.number may.parked may.caller) c.end_below.ensures.failed
    c.in_ok-failed.ensures.is c.end_below.ensures.whole

pub returns-in_ok-task-in-Done-clause-whole : goal.returns-in_ok-task-in-Done-clause-whole
returns-in_ok-task-in-Done-clause-whole c = λ u now e begins from.
    let may = c.requires.answers in
    caller_works u c.args.self.now c.args.no c.args.parked now e c.requires.taken.holds may.number may.caller may.settled from
    c.in-Done.output c.in_ok-task-in-Done.task c.requires.taken.site (λ q kept. sym c.in-Done.is ∙ c.in_ok-failed.ensures.is q kept)
    c.in_ok-task-in-Done.ensures.told begins
