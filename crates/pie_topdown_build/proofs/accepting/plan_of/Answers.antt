use Rattle.std.proofs.Common.{List, sym, subst}
use Rattle.pie_incremental.specs.inner.Cleaned.{IsPlanFor}
use Rattle.pie_incremental.specs.inner.Plans.{IsChangesPlan}
use Rattle.pie_record.specs.declared.task_record.TaskRecord.{TaskRecord}
use Rattle.pie_topdown_build.proofs.accepting.plan_of.Goals as goal

pub returns-clause-plan : goal.returns-clause-plan
returns-clause-plan c =
    let own = c.args.own.now in
    let held = c.args.held.now in
    let contents = c.args.contents.items in
    let text = c.in_ok-text.text in
    let plan : IsPlanFor own held c.args.image.now contents c.in_ok-plan.plan = record {
      text = text;
      says = c.in_ok-text.ensures;
      plan = subst (λ (rows : List TaskRecord). IsChangesPlan own held rows contents text c.in_ok-plan.plan) c.as_slice-2.ensures c.in_ok-plan.ensures.plan;
    } in
    subst (IsPlanFor own held c.args.image.now contents) (sym c.in_ok-plan-2.ensures.ok) plan
