use Rattle.std.proofs.Common.{◌∙◌, subst}
use Rattle.pie_files.proofs.Reading.{both_before}
use Rattle.pie_fresh.specs.inner.Turns.{GoesOn}
use Rattle.pie_fresh.proofs.Growing.{enters_then, starts_same, starts_then}
use Rattle.pie_fresh.proofs.Rooting.{runs_on, runs_out, runs_stop}
use Rattle.std.proofs.Common.{arith}
use Rattle.pie_files.proofs.Reading.{reads}
use Rattle.pie_fresh.proofs.AskingSince.{run_asks}
use Rattle.pie_fresh.proofs.builder.Builder.run.Goals as goal

pub turns-preserved : goal.turns-preserved
turns-preserved g c =
    let before = c.turns.invariant in (
      subst (GoesOn c.turn.new.self) c.in-Goes.is c.in_ok-next.ensures.steps.goes,
      enters_then c.args.self.now.ledger.names c.turns.self.ledger.names c.turn.new.self.ledger.names c.args.runs.now c.turns.runs c.turn.new.runs
          before.1 c.turn.ensures.started.enters,
      c.turn.ensures.typed ∙ before.2,
      c.turn.ensures.reads.same ∙ before.3,
      c.in_ok-next.ensures.reads.counted.steady ∙ before.4,
      starts_then c.args.self.now.ledger.names c.turns.self.ledger.names c.turn.new.self.ledger.names c.args.runs.now c.turns.runs c.turn.new.runs
          before.5 c.in_ok-next.ensures.started.starts,
      runs_on (g.F.Files.holds c.args.files.now) (g.F.Files.holds c.turns.files) c.args.self.now c.turns.self c.turn.new.self c.args.frame c.turns.frame
          before.3 before.6 c.in_ok-next.field-0 c.in_ok-next.ensures.means c.in-Goes.next c.in-Goes.is,
      both_before g.F.Files.holds g.F.Files.moment g.F.Files.left_since g.F.Files.images c.args.files.now c.turns.files c.turn.new.files before.3
          before.7 c.turn.ensures.reads.crash,
      run_asks (g.F.Files.holds c.args.files.now) (g.F.Files.holds c.turns.files) c.args.self.now c.turns.self c.args.frame c.turns.frame c.turn.new.self.ledger.names
          c.args.runs.now c.turns.runs c.turn.new.runs (g.F.Files.asked c.args.files.now) (g.F.Files.asked c.turns.files) (g.F.Files.asked c.turn.new.files) before.3
          before.6 before.5 c.turn.ensures.started.enters before.0.top.placed.named before.8 c.turn.ensures.asks,
    )

pub returns-in-Rests-clause-idle : goal.returns-in-Rests-clause-idle
returns-in-Rests-clause-idle g c = λ _. subst (GoesOn c.turn.new.self) c.in-Rests.is c.in_ok-next.ensures.steps.goes

pub returns-in-Rests-clause-means : goal.returns-in-Rests-clause-means
returns-in-Rests-clause-means g c =
    runs_out (g.F.Files.holds c.args.files.now) (g.F.Files.holds c.turns.files) c.args.self.now c.turns.self c.turn.new.self c.args.frame c.turns.frame
    c.turns.invariant.3 c.turns.invariant.6 c.in_ok-next.field-0 c.in_ok-next.ensures.means c.in-Rests.is

pub returns-in-Stops-clause-means : goal.returns-in-Stops-clause-means
returns-in-Stops-clause-means g c =
    runs_stop (g.F.Files.holds c.args.files.now) (g.F.Files.holds c.turns.files) c.args.self.now c.turns.self c.turn.new.self c.args.frame c.turns.frame
    c.turns.invariant.3 c.turns.invariant.6 c.in_ok-next.field-0 c.in_ok-next.ensures.means c.in-Stops.refusal c.in-Stops.is

pub returns-in-Rests-clause-started : goal.returns-in-Rests-clause-started
returns-in-Rests-clause-started g c = record {
  enters = enters_then c.args.self.now.ledger.names c.turns.self.ledger.names c.turn.new.self.ledger.names c.args.runs.now c.turns.runs c.turn.new.runs
      c.turns.invariant.1 c.turn.ensures.started.enters;
  starts = starts_then c.args.self.now.ledger.names c.turns.self.ledger.names c.turn.new.self.ledger.names c.args.runs.now c.turns.runs c.turn.new.runs
      c.turns.invariant.5 c.in_ok-next.ensures.started.starts;
}

pub returns-in-Rests-clause-reads : goal.returns-in-Rests-clause-reads
returns-in-Rests-clause-reads g c = grind (arith, reads)

pub returns-in-Stops-clause-started : goal.returns-in-Stops-clause-started
returns-in-Stops-clause-started g c = record {
  enters = enters_then c.args.self.now.ledger.names c.turns.self.ledger.names c.turn.new.self.ledger.names c.args.runs.now c.turns.runs c.turn.new.runs
      c.turns.invariant.1 c.turn.ensures.started.enters;
  starts = starts_then c.args.self.now.ledger.names c.turns.self.ledger.names c.turn.new.self.ledger.names c.args.runs.now c.turns.runs c.turn.new.runs
      c.turns.invariant.5 c.in_ok-next.ensures.started.starts;
}

pub returns-in-Stops-clause-reads : goal.returns-in-Stops-clause-reads
returns-in-Stops-clause-reads g c = grind (arith, reads)

pub returns-in_err-next-clause-started : goal.returns-in_err-next-clause-started
returns-in_err-next-clause-started g c = record {
  enters = enters_then c.args.self.now.ledger.names c.turns.self.ledger.names c.turn.new.self.ledger.names c.args.runs.now c.turns.runs c.turn.new.runs
      c.turns.invariant.1 c.turn.ensures.started.enters;
  starts = grind (arith, starts_same);
}

pub returns-in_err-next-clause-reads : goal.returns-in_err-next-clause-reads
returns-in_err-next-clause-reads g c = grind (arith, reads)

pub returns-in-Rests-clause-asks : goal.returns-in-Rests-clause-asks
returns-in-Rests-clause-asks g c =
    run_asks (g.F.Files.holds c.args.files.now) (g.F.Files.holds c.turns.files) c.args.self.now c.turns.self c.args.frame c.turns.frame c.turn.new.self.ledger.names
    c.args.runs.now c.turns.runs c.turn.new.runs (g.F.Files.asked c.args.files.now) (g.F.Files.asked c.turns.files) (g.F.Files.asked c.turn.new.files) c.turns.invariant.3
    c.turns.invariant.6 c.turns.invariant.5 c.turn.ensures.started.enters c.turns.invariant.0.top.placed.named c.turns.invariant.8 c.turn.ensures.asks

pub returns-in-Stops-clause-asks : goal.returns-in-Stops-clause-asks
returns-in-Stops-clause-asks g c =
    run_asks (g.F.Files.holds c.args.files.now) (g.F.Files.holds c.turns.files) c.args.self.now c.turns.self c.args.frame c.turns.frame c.turn.new.self.ledger.names
    c.args.runs.now c.turns.runs c.turn.new.runs (g.F.Files.asked c.args.files.now) (g.F.Files.asked c.turns.files) (g.F.Files.asked c.turn.new.files) c.turns.invariant.3
    c.turns.invariant.6 c.turns.invariant.5 c.turn.ensures.started.enters c.turns.invariant.0.top.placed.named c.turns.invariant.8 c.turn.ensures.asks

pub returns-in_err-next-clause-asks : goal.returns-in_err-next-clause-asks
returns-in_err-next-clause-asks g c =
    run_asks (g.F.Files.holds c.args.files.now) (g.F.Files.holds c.turns.files) c.args.self.now c.turns.self c.args.frame c.turns.frame c.turn.new.self.ledger.names
    c.args.runs.now c.turns.runs c.turn.new.runs (g.F.Files.asked c.args.files.now) (g.F.Files.asked c.turns.files) (g.F.Files.asked c.turn.new.files) c.turns.invariant.3
    c.turns.invariant.6 c.turns.invariant.5 c.turn.ensures.started.enters c.turns.invariant.0.top.placed.named c.turns.invariant.8 c.turn.ensures.asks
