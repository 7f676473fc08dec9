use Rattle.std.proofs.Common.{[], ap, subst, ◌∙◌}
use Rattle.std.specs.Prelude.{Contains}
use Rattle.std.proofs.lemmas.List.Elements.{All-nil}
use Rattle.pie_value.specs.declared.task.Task.{Task}
use Rattle.pie_digest.specs.Digests.{function_names}
use Rattle.pie_fresh.specs.Cleans.{EvaluatesAs}
use Rattle.pie_fresh.proofs.Cleaning.{cleans_refused, cleans_checked}
use Rattle.pie_fresh.proofs.Roots.{idle_known}
use Rattle.pie_fresh.proofs.Growing.{gains}
use Rattle.pie_fresh.proofs.AskingSince.{fresh_asks}
use Rattle.pie_fresh.proofs.build.fresh.Goals as goal

pub returns-in-Some-clause-stored : goal.returns-in-Some-clause-stored
returns-in-Some-clause-stored g c =
    c.refused.ensures.stored [] c.args.roots.now c.args.typed.now (All-nil (λ (t : Task). Contains (function_names c.args.typed.now) t.func))

pub returns-clause-stored : goal.returns-clause-stored
returns-clause-stored g c =
    c.in_ok-checked-in-None.ensures.stored c.args.typed.now
    (idle_known c.evaluate_all.new.builder c.args.typed.now (c.in_ok-refusal.ensures.idle c.in-None.is)
    (ap (λ t. t.now) c.evaluate_all.ensures.typed ∙ c.new-builder.ensures.typed))

pub returns-in-Some-clause-clean : goal.returns-in-Some-clause-clean
returns-in-Some-clause-clean g c =
    cleans_refused (g.F.Files.holds c.args.files.now) c.args.typed.now c.args.code.now c.args.roots.now c.args.runs.now c.evaluate_all.new.runs
    c.new-builder.result c.evaluate_all.new.builder c.new-builder.ensures.begins c.in_ok-refusal.ensures.started.starts c.new-builder.ensures.none
    c.refused.result
    c.in-Some.refusal (subst (EvaluatesAs (g.F.Files.holds c.args.files.now) c.new-builder.result c.evaluate_all.new.builder c.args.roots.now) c.in-Some.is
    c.in_ok-refusal.ensures.means) c.refused.ensures.verdict c.refused.ensures.refused_empty c.as_slice-names.ensures.canonical

pub returns-clause-clean : goal.returns-clause-clean
returns-clause-clean g c =
    cleans_checked (g.F.Files.holds c.args.files.now) c.args.typed.now c.args.code.now c.args.roots.now c.args.runs.now c.evaluate_all.new.runs
    c.new-builder.result c.evaluate_all.new.builder c.new-builder.ensures.begins c.in_ok-refusal.ensures.started.starts c.new-builder.ensures.none
    c.in_ok-checked-in-None.field-0
    (subst (EvaluatesAs (g.F.Files.holds c.args.files.now) c.new-builder.result c.evaluate_all.new.builder c.args.roots.now) c.in-None.is
    c.in_ok-refusal.ensures.means) c.in_ok-checked-in-None.ensures.clean

pub returns-clause-runs : goal.returns-clause-runs
returns-clause-runs g c =
    gains c.new-builder.result.ledger.names c.evaluate_all.new.builder.ledger.names c.args.runs.now c.evaluate_all.new.runs c.new-builder.ensures.none
    c.evaluate_all.ensures.started.enters

pub returns-in-Some-clause-runs : goal.returns-in-Some-clause-runs
returns-in-Some-clause-runs g c =
    gains c.new-builder.result.ledger.names c.evaluate_all.new.builder.ledger.names c.args.runs.now c.evaluate_all.new.runs c.new-builder.ensures.none
    c.evaluate_all.ensures.started.enters

pub returns-in_err-checked-in-None-clause-runs : goal.returns-in_err-checked-in-None-clause-runs
returns-in_err-checked-in-None-clause-runs g c =
    gains c.new-builder.result.ledger.names c.evaluate_all.new.builder.ledger.names c.args.runs.now c.evaluate_all.new.runs c.new-builder.ensures.none
    c.evaluate_all.ensures.started.enters

pub returns-in_err-refusal-clause-runs : goal.returns-in_err-refusal-clause-runs
returns-in_err-refusal-clause-runs g c =
    gains c.new-builder.result.ledger.names c.evaluate_all.new.builder.ledger.names c.args.runs.now c.evaluate_all.new.runs c.new-builder.ensures.none
    c.evaluate_all.ensures.started.enters

pub returns-clause-asks : goal.returns-clause-asks
returns-clause-asks g c =
    fresh_asks (g.F.Files.holds c.args.files.now) c.args.typed.now c.args.code.now c.args.roots.now c.args.runs.now c.evaluate_all.new.runs c.new-builder.result
    c.evaluate_all.new.builder.ledger.names (g.F.Files.asked c.args.files.now) (g.F.Files.asked c.evaluate_all.new.files) c.new-builder.ensures.begins c.new-builder.ensures.none
    c.evaluate_all.ensures.started.enters c.evaluate_all.ensures.asks

pub returns-in-Some-clause-asks : goal.returns-in-Some-clause-asks
returns-in-Some-clause-asks g c =
    fresh_asks (g.F.Files.holds c.args.files.now) c.args.typed.now c.args.code.now c.args.roots.now c.args.runs.now c.evaluate_all.new.runs c.new-builder.result
    c.evaluate_all.new.builder.ledger.names (g.F.Files.asked c.args.files.now) (g.F.Files.asked c.evaluate_all.new.files) c.new-builder.ensures.begins c.new-builder.ensures.none
    c.evaluate_all.ensures.started.enters c.evaluate_all.ensures.asks

pub returns-in_err-checked-in-None-clause-asks : goal.returns-in_err-checked-in-None-clause-asks
returns-in_err-checked-in-None-clause-asks g c =
    fresh_asks (g.F.Files.holds c.args.files.now) c.args.typed.now c.args.code.now c.args.roots.now c.args.runs.now c.evaluate_all.new.runs c.new-builder.result
    c.evaluate_all.new.builder.ledger.names (g.F.Files.asked c.args.files.now) (g.F.Files.asked c.evaluate_all.new.files) c.new-builder.ensures.begins c.new-builder.ensures.none
    c.evaluate_all.ensures.started.enters c.evaluate_all.ensures.asks

pub returns-in_err-refusal-clause-asks : goal.returns-in_err-refusal-clause-asks
returns-in_err-refusal-clause-asks g c =
    fresh_asks (g.F.Files.holds c.args.files.now) c.args.typed.now c.args.code.now c.args.roots.now c.args.runs.now c.evaluate_all.new.runs c.new-builder.result
    c.evaluate_all.new.builder.ledger.names (g.F.Files.asked c.args.files.now) (g.F.Files.asked c.evaluate_all.new.files) c.new-builder.ensures.begins c.new-builder.ensures.none
    c.evaluate_all.ensures.started.enters c.evaluate_all.ensures.asks
