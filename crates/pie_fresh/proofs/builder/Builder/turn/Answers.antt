use Rattle.std.proofs.Common.{refl, sym, subst}
use Rattle.pie_running.specs.inner.Noted.{Noted}
use Rattle.pie_running.specs.inner.Steps.{Comes}
use Rattle.pie_fresh.specs.inner.Frames.{StandsAt}
use Rattle.pie_fresh.specs.inner.Ledgers.{IsPlaced}
use Rattle.pie_fresh.proofs.Leaving.{if_ok}
use Rattle.pie_fresh.proofs.Turning.{ComesWith, turns_asking, turns_ending, turns_failing}
use Rattle.std.proofs.Common.{arith}
use Rattle.pie_fresh.proofs.Growing.{started_same}
use Rattle.pie_fresh.proofs.Stepping.{steps_by, stopped_steps}
use Rattle.pie_files.proofs.Reading.{reads}
use Rattle.pie_fresh.proofs.Asking.{turn_asks, turn_asks_none}
use Rattle.pie_fresh.proofs.builder.Builder.turn.Goals as goal

pub treat-requires-clause-awaits : goal.treat-requires-clause-awaits
treat-requires-clause-awaits g c =
    let comes = subst (Comes c.args.frame.notes) c.in-Asks.is c.in_ok-waiting.ensures.comes in
    record {
      stands = subst (λ (n : Noted). StandsAt n.number c.args.self.now) (sym comes.1) c.requires.stands;
      waits = comes.0;
      placed = subst (λ (n : Noted). IsPlaced c.args.self.now.ledger n) (sym comes.1) c.requires.top.placed;
    }

pub returns-in-Asks-clause-steps : goal.returns-in-Asks-clause-steps
returns-in-Asks-clause-steps g c =
    if_ok _ _ c.treat.result (λ t s. steps_by c.args.self.now c.treat.new.self c.args.frame.notes c.in-Asks.waiting.notes t
    (subst (Comes c.args.frame.notes) c.in-Asks.is c.in_ok-waiting.ensures.comes).1 s) c.treat.ensures.steps

pub returns-in_ok-finish-in-Ends-clause-steps : goal.returns-in_ok-finish-in-Ends-clause-steps
returns-in_ok-finish-in-Ends-clause-steps g c =
    steps_by c.args.self.now c.finish.new.self c.args.frame.notes c.in-Ends.notes _
    (subst (Comes c.args.frame.notes) c.in-Ends.is c.in_ok-waiting.ensures.comes) c.in_ok-finish-in-Ends.ensures.steps

pub returns-in-Fails-clause-steps : goal.returns-in-Fails-clause-steps
returns-in-Fails-clause-steps g c = stopped_steps _ c.args.self.now c.failed.result _ c.failed.ensures

pub returns-in_ok-finish-in-Ends-clause-started : goal.returns-in_ok-finish-in-Ends-clause-started
returns-in_ok-finish-in-Ends-clause-started g c = started_same _ _ _ _ _ c.finish.ensures.names refl

pub returns-in_err-finish-in-Ends-clause-started : goal.returns-in_err-finish-in-Ends-clause-started
returns-in_err-finish-in-Ends-clause-started g c = started_same _ _ _ _ _ c.finish.ensures.names refl

pub returns-in-Asks-clause-means : goal.returns-in-Asks-clause-means
returns-in-Asks-clause-means g c =
    if_ok _ _ c.treat.result (turns_asking (g.F.Files.holds c.args.files.now) c.args.self.now c.treat.new.self c.args.frame c.in-Asks.waiting c.in-Asks.event
    (subst (Comes c.args.frame.notes) c.in-Asks.is c.in_ok-waiting.ensures.comes).1 (subst (ComesWith c.args.frame) c.in-Asks.is c.in_ok-waiting.ensures.means))
    c.treat.ensures.means

pub returns-in_ok-finish-in-Ends-clause-means : goal.returns-in_ok-finish-in-Ends-clause-means
returns-in_ok-finish-in-Ends-clause-means g c =
    turns_ending (g.F.Files.holds c.args.files.now) c.args.self.now c.finish.new.self c.args.frame c.in-Ends.notes c.in-Ends.output
    (subst (Comes c.args.frame.notes) c.in-Ends.is c.in_ok-waiting.ensures.comes) (subst (ComesWith c.args.frame) c.in-Ends.is c.in_ok-waiting.ensures.means) _
    c.in_ok-finish-in-Ends.ensures.means

pub returns-in-Fails-clause-means : goal.returns-in-Fails-clause-means
returns-in-Fails-clause-means g c =
    turns_failing (g.F.Files.holds c.args.files.now) c.args.self.now c.args.frame c.in-Fails.notes c.into_task.result c.in-Fails.kind
    (subst (ComesWith c.args.frame) c.in-Fails.is c.in_ok-waiting.ensures.means) c.failed.result c.into_task.ensures c.failed.ensures

pub returns-in-Fails-clause-started : goal.returns-in-Fails-clause-started
returns-in-Fails-clause-started g c = started_same _ _ _ _ _ refl refl

pub returns-in-Fails-clause-reads : goal.returns-in-Fails-clause-reads
returns-in-Fails-clause-reads g c = grind (arith, reads)

pub returns-in_err-finish-in-Ends-clause-reads : goal.returns-in_err-finish-in-Ends-clause-reads
returns-in_err-finish-in-Ends-clause-reads g c = grind (arith, reads)

pub returns-in_err-waiting-clause-started : goal.returns-in_err-waiting-clause-started
returns-in_err-waiting-clause-started g c = started_same _ _ _ _ _ refl refl

pub returns-in_err-waiting-clause-reads : goal.returns-in_err-waiting-clause-reads
returns-in_err-waiting-clause-reads g c = grind (arith, reads)

pub returns-in_ok-finish-in-Ends-clause-reads : goal.returns-in_ok-finish-in-Ends-clause-reads
returns-in_ok-finish-in-Ends-clause-reads g c = grind (arith, reads)

pub returns-in-Asks-clause-asks : goal.returns-in-Asks-clause-asks
returns-in-Asks-clause-asks g c =
    turn_asks (g.F.Files.holds c.args.files.now) c.args.self.now c.args.frame c.in-Asks.waiting c.in-Asks.event (g.F.Files.asked c.args.files.now) (g.F.Files.asked c.treat.new.files)
    (subst (Comes c.args.frame.notes) c.in-Asks.is c.in_ok-waiting.ensures.comes) (subst (ComesWith c.args.frame) c.in-Asks.is c.in_ok-waiting.ensures.means)
    c.treat.ensures.asks

pub returns-in_ok-finish-in-Ends-clause-asks : goal.returns-in_ok-finish-in-Ends-clause-asks
returns-in_ok-finish-in-Ends-clause-asks g c =
    turn_asks_none (g.F.Files.holds c.args.files.now) c.args.self.now c.args.frame (g.F.Files.asked c.args.files.now)

pub returns-in_err-finish-in-Ends-clause-asks : goal.returns-in_err-finish-in-Ends-clause-asks
returns-in_err-finish-in-Ends-clause-asks g c =
    turn_asks_none (g.F.Files.holds c.args.files.now) c.args.self.now c.args.frame (g.F.Files.asked c.args.files.now)

pub returns-in-Fails-clause-asks : goal.returns-in-Fails-clause-asks
returns-in-Fails-clause-asks g c =
    turn_asks_none (g.F.Files.holds c.args.files.now) c.args.self.now c.args.frame (g.F.Files.asked c.args.files.now)

pub returns-in_err-waiting-clause-asks : goal.returns-in_err-waiting-clause-asks
returns-in_err-waiting-clause-asks g c =
    turn_asks_none (g.F.Files.holds c.args.files.now) c.args.self.now c.args.frame (g.F.Files.asked c.args.files.now)
