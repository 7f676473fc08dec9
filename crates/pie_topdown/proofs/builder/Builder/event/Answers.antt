use Rattle.std.proofs.Common.{Ok, subst, arith}
use Rattle.std.proofs.lemmas.Option.{slice_get_within}
use Rattle.pie_files.specs.declared.files.FilesError.{FilesError}
use Rattle.pie_task_laws.specs.Coming.{Gives}
use Rattle.pie_topdown.proofs.Happening.{hand_asks, hand_ends, hand_fails}
use Rattle.pie_topdown.proofs.builder.Builder.event.Goals as goal

pub returns-in-Asks-clause-right : goal.returns-in-Asks-clause-right
returns-in-Asks-clause-right g c =
    hand_asks (g.F.Files.holds c.args.files.now) c.args.self.now c.treat.new.self c.args.task c.in-Asks.waiting c.in-Asks.event c.treat.result
    (subst (Gives c.args.task) c.in-Asks.is (record { comes = c.in_ok-waiting.ensures.comes; means = c.in_ok-waiting.ensures.means })) c.treat.ensures.right

pub returns-in-Ends-clause-right : goal.returns-in-Ends-clause-right
returns-in-Ends-clause-right g c =
    hand_ends {E = FilesError} (g.F.Files.holds c.args.files.now) c.args.self.now c.done.new.self c.args.task c.in-Ends.notes c.in-Ends.output
    (Ok c.in_ok-done-in-Ends.field-0)
    (subst (Gives c.args.task) c.in-Ends.is (record { comes = c.in_ok-waiting.ensures.comes; means = c.in_ok-waiting.ensures.means }))
    c.in_ok-done-in-Ends.ensures.right

pub returns-clause-right : goal.returns-clause-right
returns-clause-right g c =
    hand_fails {E = FilesError} (g.F.Files.holds c.args.files.now) c.args.self.now c.fail.new.self c.args.task c.no-no.result.0 _ c.in-Fails.kind
    (Ok c.in_ok-fail-in-Fails.field-0) c.no-no.ensures
    (subst (Gives c.args.task) c.in-Fails.is (record { comes = c.in_ok-waiting.ensures.comes; means = c.in_ok-waiting.ensures.means }))
    c.in_ok-fail-in-Fails.ensures.right

pub fail-requires-clause-number : goal.fail-requires-clause-number
fail-requires-clause-number g c =
    let n = c.args.task.notes in
    let inside = slice_get_within c.args.self.now.ledger.tables.names n.number n.task c.requires.hand.noted.task in
    omega (arith, inside, c.no-no.ensures)
