use Rattle.std.proofs.Common.{Ok, sym, subst}
use Rattle.std.specs.Prelude.{IfOk}
use Rattle.pie_files.specs.declared.files.FilesError.{FilesError}
use Rattle.pie_topdown.specs.declared.hand.Hand.{Hand}
use Rattle.pie_topdown.specs.inner.Right.{StepsRight}
use Rattle.pie_topdown.proofs.Stepping.{enters_step, checks_step, runs_step, ended_step}
use Rattle.pie_topdown.specs.inner.Trying.{StepsTried}
use Rattle.pie_topdown.proofs.Owning.{begins_steps, goes_steps}
use Rattle.pie_topdown.proofs.Stepped.{runs_tried}
use Rattle.pie_topdown.specs.inner.Unoffered.{StepsOwn}
use Rattle.pie_topdown.proofs.builder.Builder.step.Goals as goal

pub returns-in-Enters-clause-right : goal.returns-in-Enters-clause-right
returns-in-Enters-clause-right g c =
    let held = g.F.Files.holds c.args.files.now in
    let told = g.O.Offers.told c.args.offers.now in
    subst (λ (h : Hand). IfOk c.begin.result (StepsRight held told c.args.self.now h c.begin.new.self)) (sym c.in-Enters.is)
    (enters_step held told c.args.self.now c.begin.new.self c.begin.result c.in-Enters.no c.in-Enters.code c.begin.ensures.right)

pub returns-in-Checks-clause-right : goal.returns-in-Checks-clause-right
returns-in-Checks-clause-right g c =
    let held = g.F.Files.holds c.args.files.now in
    let told = g.O.Offers.told c.args.offers.now in
    subst (λ (h : Hand). IfOk c.check.result (StepsRight held told c.args.self.now h c.check.new.self)) (sym c.in-Checks.is)
    (checks_step held told c.args.self.now c.check.new.self c.check.result c.in-Checks.check c.check.ensures.right)

pub returns-in-Runs-clause-right : goal.returns-in-Runs-clause-right
returns-in-Runs-clause-right g c =
    let held = g.F.Files.holds c.args.files.now in
    let told = g.O.Offers.told c.args.offers.now in
    subst (λ (h : Hand). IfOk c.event.result (StepsRight held told c.args.self.now h c.event.new.self)) (sym c.in-Runs.is)
    (runs_step held told c.args.self.now c.event.new.self c.event.result c.in-Runs.task c.event.ensures.right)

pub returns-in_ok-resume-in-Ended-clause-right : goal.returns-in_ok-resume-in-Ended-clause-right
returns-in_ok-resume-in-Ended-clause-right g c =
    let held = g.F.Files.holds c.args.files.now in
    let told = g.O.Offers.told c.args.offers.now in
    subst (λ (h : Hand). StepsRight held told c.args.self.now h c.resume.new.self c.in_ok-resume-in-Ended.field-0) (sym c.in-Ended.is)
    (ended_step held told c.args.self.now c.resume.new.self {E = FilesError} (Ok c.in_ok-resume-in-Ended.field-0)
    c.in_ok-resume-in-Ended.ensures.right)

pub returns-in-Enters-clause-own : goal.returns-in-Enters-clause-own
returns-in-Enters-clause-own g c =
    let held = g.F.Files.holds c.args.files.now in
    let told = g.O.Offers.told c.args.offers.now in
    subst (λ (h : Hand). IfOk c.begin.result (StepsOwn held told c.args.self.now h c.begin.new.self)) (sym c.in-Enters.is)
    (begins_steps held told c.args.self.now c.begin.new.self c.begin.result c.in-Enters.no c.in-Enters.code c.begin.ensures.own)

pub returns-in-Checks-clause-own : goal.returns-in-Checks-clause-own
returns-in-Checks-clause-own g c =
    let held = g.F.Files.holds c.args.files.now in
    let told = g.O.Offers.told c.args.offers.now in
    subst (λ (h : Hand). IfOk c.check.result (StepsOwn held told c.args.self.now h c.check.new.self)) (sym c.in-Checks.is) c.check.ensures.own

pub returns-in-Runs-clause-own : goal.returns-in-Runs-clause-own
returns-in-Runs-clause-own g c =
    let held = g.F.Files.holds c.args.files.now in
    let told = g.O.Offers.told c.args.offers.now in
    subst (λ (h : Hand). IfOk c.event.result (StepsOwn held told c.args.self.now h c.event.new.self)) (sym c.in-Runs.is)
    (goes_steps held told c.args.self.now c.event.new.self c.event.result c.in-Runs.task c.event.ensures.marks)

pub returns-in_ok-resume-in-Ended-clause-own : goal.returns-in_ok-resume-in-Ended-clause-own
returns-in_ok-resume-in-Ended-clause-own g c = λ o own this. c.in_ok-resume-in-Ended.ensures.own own

pub returns-in-Enters-clause-tried : goal.returns-in-Enters-clause-tried
returns-in-Enters-clause-tried g c =
    let held = g.F.Files.holds c.args.files.now in
    let told = g.O.Offers.told c.args.offers.now in
    subst (λ (h : Hand). IfOk c.begin.result (StepsTried held told c.args.self.now h c.begin.new.self c.args.runs.now c.begin.new.runs)) (sym c.in-Enters.is)
    c.begin.ensures.tried

pub returns-in-Checks-clause-tried : goal.returns-in-Checks-clause-tried
returns-in-Checks-clause-tried g c =
    let held = g.F.Files.holds c.args.files.now in
    let told = g.O.Offers.told c.args.offers.now in
    subst (λ (h : Hand). IfOk c.check.result (StepsTried held told c.args.self.now h c.check.new.self c.args.runs.now c.check.new.runs)) (sym c.in-Checks.is)
    c.check.ensures.tried

pub returns-in-Runs-clause-tried : goal.returns-in-Runs-clause-tried
returns-in-Runs-clause-tried g c =
    let held = g.F.Files.holds c.args.files.now in
    let told = g.O.Offers.told c.args.offers.now in
    subst (λ (h : Hand). IfOk c.event.result (StepsTried held told c.args.self.now h c.event.new.self c.args.runs.now c.args.runs.now)) (sym c.in-Runs.is)
    (runs_tried held told c.args.self.now c.event.new.self c.in-Runs.task c.args.runs.now c.event.result c.event.ensures.marks)

pub returns-in_ok-resume-in-Ended-clause-tried : goal.returns-in_ok-resume-in-Ended-clause-tried
returns-in_ok-resume-in-Ended-clause-tried g c =
    let held = g.F.Files.holds c.args.files.now in
    let told = g.O.Offers.told c.args.offers.now in
    subst (λ (h : Hand). StepsTried held told c.args.self.now h c.resume.new.self c.args.runs.now c.args.runs.now c.in_ok-resume-in-Ended.field-0)
    (sym c.in-Ended.is) c.in_ok-resume-in-Ended.ensures.tried
