use Rattle.std.proofs.Common.{length, ◌∙◌, ap, arith}
use Rattle.std.specs.Prelude.{slice_get}
use Rattle.pie_topdown.specs.inner.Turns.{stack_mass, stack_room, still}
use Rattle.pie_topdown.proofs.Going.{one_longer}
use Rattle.pie_topdown.proofs.Growing.{begun_noted}
use Rattle.pie_topdown.proofs.Marking.{starts_marked}
use Rattle.pie_topdown.proofs.Resumed.{starts_turn}
use Rattle.pie_topdown.proofs.builder.Builder.start.Goals as goal

pub returns-clause-steps : goal.returns-clause-steps
returns-clause-steps c =
    let begun = c.in_ok-task.ensures.begun in
    let names = c.in_ok-task.ensures.ledger.names in
    let mass = ap (λ ns. still (length ns)) names in
    let places = ap length names in
    let waiting = ap (λ b. stack_mass b.stack.items) c.begin_run.ensures.rest in
    let checks = ap (λ b. stack_room b.stack.items) c.begin_run.ensures.rest in
    let left = ap (λ n. n.left) begun.started.notes in
    let longer = one_longer c.args.runs.now c.begin_run.new.runs c.begin_run.ensures.starts in
    record {
      turns = record {
        site = c.in_ok-task.ensures.site;
        hand = record {
          ready = begun.started.ready;
          noted = begun_noted c.begin_run.new.self.ledger begun.task c.args.no.0 c.in_ok-task.task.notes
              (ap (λ ts. slice_get ts c.args.no.0) names ∙ begun.named) begun.started.notes;
        };
      };
      nearer = omega (arith, mass, waiting, left);
      spends = omega (arith, places, checks, longer);
      kept = record { plan = ap (λ b. b.plan) c.begin_run.ensures.rest; grows = c.in_ok-task.ensures.grows };
    }

pub returns-clause-right : goal.returns-clause-right
returns-clause-right c =
    let begun = c.in_ok-task.ensures.begun in
    starts_turn c.args.self.now c.begin_run.new.self c.args.no.0 c.args.code.now begun.task c.in_ok-task.task c.in_ok-task.ensures.ledger c.begin_run.ensures.rest
    begun.named begun.started c.requires.site

pub returns-clause-marks : goal.returns-clause-marks
returns-clause-marks c =
    let begun = c.in_ok-task.ensures.begun in
    starts_marked c.args.self.now c.begin_run.new.self c.args.no.0 begun.task c.args.runs.now c.begin_run.new.runs c.requires.site.ledger.tables begun.named
    c.in_ok-task.ensures.ledger.ran begun.added (ap (λ b. b.reused.items) c.begin_run.ensures.rest)
