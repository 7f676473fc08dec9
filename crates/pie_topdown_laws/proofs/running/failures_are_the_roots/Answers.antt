use Rattle.std.proofs.Common.{refl, ap, ◌∙◌}
use Rattle.pie_value.specs.Canonical.{enc_task}
use Rattle.std.specs.Prelude.{map}
use Rattle.pie_model.specs.declared.words.Outcome.TheVariants.{Failed}
use Rattle.pie_model_pipeline.specs.Words.{fault_of}
use Rattle.pie_builder_laws.specs.Tables.{recorded}
use Rattle.pie_topdown_laws.specs.Ledgers.{setting}
use Rattle.pie_topdown_laws.proofs.Sinking.{failure_sinks, failed_root}
use Rattle.pie_topdown_laws.proofs.running.failures_are_the_roots.Goals as goal

pub returns-clause-root : goal.returns-clause-root
returns-clause-root c =
    λ x b root fs t k F.
    failure_sinks (setting x.update) (recorded b.names b.records) root fs F.frame F.top.goes F.last (Failed F.frame.task (fault_of k)) F.ends refl
    ∙ ap (λ z. Failed z (fault_of k)) F.task

pub returns-clause-entered : goal.returns-clause-entered
returns-clause-entered c =
    λ x b done root fs t k T D F.
    failed_root (setting x.update) (recorded b.names b.records) (map enc_task b.names) T done D root fs F.frame F.top F.last
    (Failed F.frame.task (fault_of k)) F.ends refl
