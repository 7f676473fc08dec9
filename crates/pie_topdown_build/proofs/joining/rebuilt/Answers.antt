use Rattle.std.proofs.Common.{◌≡◌, ◌++◌, rules, subst}
use Rattle.std.specs.Prelude.{All, IfSome}
use Rattle.pie_files.specs.Directory.{Directory}
use Rattle.pie_project.specs.declared.fault.BuildError.TheVariants as errors
use Rattle.pie_report.specs.declared.report.Report.{Report}
use Rattle.pie_value.specs.Canonical.{IsEncodableTask}
use Rattle.pie_topdown_build.specs.declared.offered.Offered.{Offered}
use Rattle.pie_topdown_build.specs.Refusals.{KeepsRefused}
use Rattle.pie_topdown_build.proofs.Crashing.{endures_afresh, error_verdict}
use Rattle.pie_topdown_build.proofs.Saying.{kept_left, refuses_fault, refuses_none, refuses_rebuilt}
use Rattle.pie_topdown_build.proofs.joining.rebuilt.Goals as goal

pub returns-in-Ok-new-clause-stays : goal.returns-in-Ok-new-clause-stays
returns-in-Ok-new-clause-stays g c = record {
  rest = c.rebuild.ensures.files.rest;
  crash = endures_afresh g.F.Files.holds g.F.Files.moment g.F.Files.left_since g.F.Files.images _ c.args.files.now c.rebuild.new.files
      c.rebuild.ensures.crash
      (λ says. c.in-Ok.ensures.durable says);
}

pub returns-in-Ok-clause-stays : goal.returns-in-Ok-clause-stays
returns-in-Ok-clause-stays g c = record {
  rest = c.rebuild.ensures.files.rest;
  crash = endures_afresh g.F.Files.holds g.F.Files.moment g.F.Files.left_since g.F.Files.images _ c.args.files.now c.rebuild.new.files
      c.rebuild.ensures.crash
      (λ says. absurd says);
}

pub returns-clause-stays : goal.returns-clause-stays
returns-clause-stays g c = record {
  rest = c.rebuild.ensures.files.rest;
  crash = endures_afresh g.F.Files.holds g.F.Files.moment g.F.Files.left_since g.F.Files.images _ c.args.files.now c.rebuild.new.files
      c.rebuild.ensures.crash
      (λ says. c.in-Err.ensures.durable (error_verdict Offered Report c.in-Err.error says));
}

pub returns-in-Ok-new-clause-refuses : goal.returns-in-Ok-new-clause-refuses
returns-in-Ok-new-clause-refuses g c =
    let before = g.F.Files.holds c.args.files.now in
    let after = g.F.Files.holds c.rebuild.new.files in
    let same : c.in-Ok.report ≡ c.in-Ok-new.report.value = search rules in
    refuses_none (λ (o : Offered). o.report.value) before after _
    (subst (λ (r : Report). IfSome before (λ (d : Directory). KeepsRefused r.verdict d after)) same
    (kept_left before after c.in-Ok.report c.in-Ok.ensures.files.left))

pub returns-in-Ok-clause-refuses : goal.returns-in-Ok-clause-refuses
returns-in-Ok-clause-refuses g c =
    refuses_fault (λ (o : Offered). o.report.value) (g.F.Files.holds c.args.files.now) (g.F.Files.holds c.rebuild.new.files) errors.OutOfMemory (λ h. h)

pub returns-clause-refuses : goal.returns-clause-refuses
returns-clause-refuses g c =
    refuses_rebuilt (λ (o : Offered). o.report.value) (g.F.Files.holds c.args.files.now) (g.F.Files.holds c.rebuild.new.files) c.in-Err.error
    c.in-Err.ensures.refuses.refused c.in-Err.ensures.says.says

pub returns-in-Ok-new-clause-ran : goal.returns-in-Ok-new-clause-ran
returns-in-Ok-new-clause-ran g c =
    let same : c.in-Ok.report ≡ c.in-Ok-new.report.value = search rules in
    let started = c.in-Ok.ensures.started in
    record {
      ran = subst (λ (r : Report). c.rebuild.new.runs ≡ c.args.runs.now ++ r.ran.items) same started.ran;
      few = started.few;
      encodable = subst (λ (r : Report). All IsEncodableTask r.ran.items) same started.encodable;
    }

pub returns-in-Ok-clause-ran : goal.returns-in-Ok-clause-ran
returns-in-Ok-clause-ran g c = record { ran = tt; few = c.rebuild.ensures.started.few; encodable = tt }

pub returns-clause-ran : goal.returns-clause-ran
returns-clause-ran g c = record { ran = tt; few = c.rebuild.ensures.started.few; encodable = tt }
