use Rattle.std.proofs.Common.{refl}
use Rattle.pie_topdown.proofs.Stacking.{grown_site}
use Rattle.pie_topdown.proofs.builder.Builder.begin_run.Goals as goal

pub returns-clause-site : goal.returns-clause-site
returns-clause-site c = grown_site c.args.self.now _ c.requires.site c.runs.ensures.ledger c.runs.ensures.grows c.runs.ensures.names refl refl

pub returns-clause-begun : goal.returns-clause-begun
returns-clause-begun c = record {
  task = c.task.result.now;
  named = c.task.ensures;
  started = c.in_ok-task.ensures.started;
  added = c.in_ok-task.ensures.runs;
}
