use Rattle.std.proofs.Common.{List, sym, subst}
use Rattle.pie_record.specs.declared.task_record.TaskRecord.{TaskRecord}
use Rattle.pie_incremental.specs.inner.Cleaned.{IsPlanFor}
use Rattle.pie_incremental.specs.inner.Joined.{Clears}
use Rattle.pie_incremental.specs.inner.Plans.{IsChangesPlan}
use Rattle.pie_incremental.proofs.Treating.{clears}
use Rattle.pie_incremental.proofs.accepting.plan_of.Goals as goal

pub returns-clause-clears : goal.returns-clause-clears
returns-clause-clears c =
    let own = c.args.ending.now.own in
    subst (Clears own) (sym c.in_ok-plan-2.ensures.ok)
    (clears own c.args.ending.now.held c.as_slice-2.result.now c.args.contents.items c.in_ok-text.text c.in_ok-plan.plan c.in_ok-plan.ensures.plan)

pub returns-clause-plan : goal.returns-clause-plan
returns-clause-plan c =
    let own = c.args.ending.now.own in
    let held = c.args.ending.now.held in
    let contents = c.args.contents.items in
    let text = c.in_ok-text.text in
    let plan : IsPlanFor own held c.args.image.now contents c.in_ok-plan.plan = record {
      text = text;
      says = c.in_ok-text.ensures;
      plan = subst (λ (rows : List TaskRecord). IsChangesPlan own held rows contents text c.in_ok-plan.plan) c.as_slice-2.ensures c.in_ok-plan.ensures.plan;
    } in
    subst (IsPlanFor own held c.args.image.now contents) (sym c.in_ok-plan-2.ensures.ok) plan
