use Rattle.std.proofs.Common.{refl, sym, ◌∙◌}
use Rattle.pie_base.specs.declared.fault.FaultKind.TheVariants.{Big}
use Rattle.pie_record.specs.declared.task_record.Outcome.TheVariants.{Done}
use Rattle.pie_task_laws.specs.Coming.{failed_by}
use Rattle.pie_bottomup.proofs.GoingEvents.{done_goes}
use Rattle.pie_bottomup.proofs.state.Core.done.Goals as goal

pub returns-then-not-is_small-clause-whole : goal.returns-then-not-is_small-clause-whole
returns-then-not-is_small-clause-whole c =
    done_goes c.args.self.now c.fail.new.self c.args.no c.args.from c.args.notes c.args.output _ (failed_by c.args.notes Big) c.fail.result
    (sym c.if-not-is_small.true ∙ c.is_small.ensures.limits) refl c.fail.ensures.whole

pub returns-clause-whole : goal.returns-clause-whole
returns-clause-whole c =
    done_goes c.args.self.now c.end_as.new.self c.args.no c.args.from c.args.notes c.args.output _ (Done c.args.output) c.end_as.result
    (sym c.if-not-is_small.false ∙ c.is_small.ensures.limits) refl c.end_as.ensures.whole
