use Rattle.std.proofs.Common.{arith, subst, ◌∙◌}
use Rattle.pie_files.proofs.Reading.{both_before}
use Rattle.pie_fresh.proofs.Growing.{enters_then, starts_same, starts_then}
use Rattle.pie_fresh.specs.Cleans.{EvaluatesRoot}
use Rattle.pie_fresh.proofs.Cleaning.{does_more, ends_build, does_all}
use Rattle.pie_fresh.proofs.Roots.{entered_more, entered_all}
use Rattle.pie_fresh.proofs.AskingSince.{roots_ask}
use Rattle.pie_fresh.proofs.build.evaluate_all.Goals as goal

pub loop-root-preserved : goal.loop-root-preserved
loop-root-preserved g c =
    let before = c.loop-root.invariant in (
      (c.in_ok-refusal.ensures.done c.in-None.is).idle,
      enters_then c.args.builder.now.ledger.names c.loop-root.builder.ledger.names c.evaluate.new.self.ledger.names c.args.runs.now c.loop-root.runs
          c.evaluate.new.runs before.1 c.evaluate.ensures.started.enters,
      entered_more c.loop-root.builder.ledger.names c.evaluate.new.self.ledger.names c.args.roots.now c.loop-root.root-index c.root-item.result
          c.evaluate.ensures.started.enters.kept c.loop-root-test.true c.root-item.is (c.in_ok-refusal.ensures.small c.in-None.is)
          (c.in_ok-refusal.ensures.done c.in-None.is).named before.2,
      c.evaluate.ensures.typed ∙ before.3,
      c.evaluate.ensures.reads.same ∙ before.4,
      c.in_ok-refusal.ensures.reads.counted.steady ∙ before.5,
      starts_then c.args.builder.now.ledger.names c.loop-root.builder.ledger.names c.evaluate.new.self.ledger.names c.args.runs.now c.loop-root.runs
          c.evaluate.new.runs before.6 c.in_ok-refusal.ensures.started.starts,
      does_more (g.F.Files.holds c.args.files.now) (g.F.Files.holds c.loop-root.files) c.args.builder.now c.loop-root.builder c.evaluate.new.self
          c.args.roots.now c.loop-root.root-index c.root-item.result before.4 c.loop-root-test.true c.root-item.is before.7
          (subst (EvaluatesRoot (g.F.Files.holds c.loop-root.files) c.loop-root.builder c.evaluate.new.self c.root-item.result) c.in-None.is
          c.in_ok-refusal.ensures.means),
      both_before g.F.Files.holds g.F.Files.moment g.F.Files.left_since g.F.Files.images c.args.files.now c.loop-root.files c.evaluate.new.files before.4
          before.8 c.evaluate.ensures.reads.crash,
      roots_ask (g.F.Files.holds c.args.files.now) (g.F.Files.holds c.loop-root.files) c.args.builder.now c.loop-root.builder c.evaluate.new.self.ledger.names c.args.roots.now
          c.loop-root.root-index c.root-item.result c.args.runs.now c.loop-root.runs c.evaluate.new.runs (g.F.Files.asked c.args.files.now) (g.F.Files.asked c.loop-root.files)
          (g.F.Files.asked c.evaluate.new.files) before.4 c.loop-root-test.true c.root-item.is before.7 before.6
          c.evaluate.ensures.started.enters before.9 c.evaluate.ensures.asks,
    )

pub returns-clause-entered : goal.returns-clause-entered
returns-clause-entered g c = λ _.
    entered_all c.loop-root.builder.ledger.names c.args.roots.now c.loop-root.root-index c.loop-root-test.false c.loop-root.invariant.2

pub returns-clause-started : goal.returns-clause-started
returns-clause-started g c = record { enters = c.loop-root.invariant.1; starts = c.loop-root.invariant.6 }

pub returns-in_err-refusal-clause-started : goal.returns-in_err-refusal-clause-started
returns-in_err-refusal-clause-started g c = record {
  enters = enters_then c.args.builder.now.ledger.names c.loop-root.builder.ledger.names c.evaluate.new.self.ledger.names c.args.runs.now c.loop-root.runs
      c.evaluate.new.runs c.loop-root.invariant.1 c.evaluate.ensures.started.enters;
  starts = grind (arith, starts_same);
}

pub returns-in-Some-clause-started : goal.returns-in-Some-clause-started
returns-in-Some-clause-started g c = record {
  enters = enters_then c.args.builder.now.ledger.names c.loop-root.builder.ledger.names c.evaluate.new.self.ledger.names c.args.runs.now c.loop-root.runs
      c.evaluate.new.runs c.loop-root.invariant.1 c.evaluate.ensures.started.enters;
  starts = starts_then c.args.builder.now.ledger.names c.loop-root.builder.ledger.names c.evaluate.new.self.ledger.names c.args.runs.now c.loop-root.runs
      c.evaluate.new.runs c.loop-root.invariant.6 c.in_ok-refusal.ensures.started.starts;
}

pub returns-clause-means : goal.returns-clause-means
returns-clause-means g c =
    does_all (g.F.Files.holds c.args.files.now) c.args.builder.now c.loop-root.builder c.args.roots.now c.loop-root.root-index c.loop-root-test.false
    c.loop-root.invariant.7

pub returns-in-Some-clause-means : goal.returns-in-Some-clause-means
returns-in-Some-clause-means g c =
    ends_build (g.F.Files.holds c.args.files.now) (g.F.Files.holds c.loop-root.files) c.args.builder.now c.loop-root.builder c.evaluate.new.self
    c.args.roots.now c.loop-root.root-index c.root-item.result c.loop-root.invariant.4 c.loop-root-test.true c.root-item.is c.loop-root.invariant.7
    c.in-Some.refusal (subst (EvaluatesRoot (g.F.Files.holds c.loop-root.files) c.loop-root.builder c.evaluate.new.self c.root-item.result) c.in-Some.is
    c.in_ok-refusal.ensures.means)

pub returns-in_err-refusal-clause-asks : goal.returns-in_err-refusal-clause-asks
returns-in_err-refusal-clause-asks g c =
    roots_ask (g.F.Files.holds c.args.files.now) (g.F.Files.holds c.loop-root.files) c.args.builder.now c.loop-root.builder c.evaluate.new.self.ledger.names c.args.roots.now
    c.loop-root.root-index c.root-item.result c.args.runs.now c.loop-root.runs c.evaluate.new.runs (g.F.Files.asked c.args.files.now) (g.F.Files.asked c.loop-root.files)
    (g.F.Files.asked c.evaluate.new.files) c.loop-root.invariant.4 c.loop-root-test.true c.root-item.is c.loop-root.invariant.7 c.loop-root.invariant.6
    c.evaluate.ensures.started.enters c.loop-root.invariant.9 c.evaluate.ensures.asks

pub returns-in-Some-clause-asks : goal.returns-in-Some-clause-asks
returns-in-Some-clause-asks g c =
    roots_ask (g.F.Files.holds c.args.files.now) (g.F.Files.holds c.loop-root.files) c.args.builder.now c.loop-root.builder c.evaluate.new.self.ledger.names c.args.roots.now
    c.loop-root.root-index c.root-item.result c.args.runs.now c.loop-root.runs c.evaluate.new.runs (g.F.Files.asked c.args.files.now) (g.F.Files.asked c.loop-root.files)
    (g.F.Files.asked c.evaluate.new.files) c.loop-root.invariant.4 c.loop-root-test.true c.root-item.is c.loop-root.invariant.7 c.loop-root.invariant.6
    c.evaluate.ensures.started.enters c.loop-root.invariant.9 c.evaluate.ensures.asks
