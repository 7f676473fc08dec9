use Rattle.std.proofs.Common.{Err, List, ap, map, subst, sym}
use Rattle.pie_script.specs.Steps.{plain}
use Rattle.pie_script.specs.declared.step.Step.{Step}
use Rattle.pie_cli.specs.Replay.{HasScript}
use Rattle.pie_base.specs.declared.status.Status.TheVariants as status
use Rattle.pie_report.specs.Refused.{bad_input_text}
use Rattle.pie_cli.proofs.Replaying.{bad_script, bad_script_told, runs_bad_script, runs_none, runs_played, runs_unread}
use Rattle.pie_cli.proofs.Ending.{ends_failed, ends_memory, ends_played, ends_shown}
use Rattle.pie_cli.proofs.top.run_replay.Goals as goal

pub returns-in-Ok-clause-replay : goal.returns-in-Ok-clause-replay
returns-in-Ok-clause-replay g c =
    runs_played g.F.Files.holds g.F.Files.moment g.F.Files.left_since g.F.Files.images g.F.Files.asked g.F.Files.faults g.I.Source.left g.I.Source.faults
    c.args.json c.args.files.now c.play.new.files c.args.input.now
    c.read_steps.new.input (map plain c.as_slice.result.now) (g.K.Sink.held c.args.out.now) (g.K.Sink.held c.play.new.out) c.play.result
    (subst (λ (ss : List Step). HasScript (g.I.Source.left c.args.input.now) (g.I.Source.left c.read_steps.new.input) (map plain ss))
    (sym c.as_slice.ensures.value) c.in-Ok.ensures.read)
    c.play.ensures.plays c.play.ensures.rest c.play.ensures.crash

pub returns-in-Ok-clause-ends : goal.returns-in-Ok-clause-ends
returns-in-Ok-clause-ends g c =
    ends_played g.F.Files.holds g.F.Files.moment g.F.Files.left_since g.F.Files.images g.F.Files.asked g.F.Files.faults c.args.json (map plain
    c.as_slice.result.now) c.args.files.now c.play.new.files
    (g.I.Source.faults c.args.input.now) (g.I.Source.faults c.read_steps.new.input) (g.K.Sink.faults c.args.out.now) (g.K.Sink.faults c.play.new.out)
    (g.K.Sink.held c.args.out.now) (g.K.Sink.held c.play.new.out) c.play.result c.play.ensures.plays c.play.ensures.output c.play.ensures.steady
    (c.in-Ok.ensures.told.steady (tt {0}))

pub returns-in-Err-Bad-clause-replay : goal.returns-in-Err-Bad-clause-replay
returns-in-Err-Bad-clause-replay g c =
    runs_bad_script g.F.Files.holds g.F.Files.moment g.F.Files.left_since g.F.Files.images g.F.Files.asked g.F.Files.faults g.I.Source.left
    g.I.Source.faults c.args.json c.args.files.now c.args.input.now
    c.read_steps.new.input c.in-Err-Bad.why (g.K.Sink.held c.args.out.now) (g.K.Sink.held c.show_bad.new.out) c.show_bad.result
    (bad_script (g.I.Source.left c.args.input.now) (g.I.Source.left c.read_steps.new.input) c.in-Err-Bad.field-0 c.in-Err-Bad.why c.in-Err-Bad.field-0-is
    c.in-Err-Bad.ensures.read) c.show_bad.ensures.shown c.show_bad.ensures.prefix

pub returns-in-Err-Bad-clause-ends : goal.returns-in-Err-Bad-clause-ends
returns-in-Err-Bad-clause-ends g c =
    ends_shown ⊥ _ (g.I.Source.faults c.args.input.now) (g.I.Source.faults c.read_steps.new.input) (g.K.Sink.faults c.args.out.now)
    (g.K.Sink.faults c.show_bad.new.out) (g.K.Sink.held c.args.out.now) (g.K.Sink.held c.show_bad.new.out) (bad_input_text c.in-Err-Bad.why)
    status.BadInput c.show_bad.result (λ is. absurd (cc)) (λ is. absurd (cc)) c.show_bad.ensures.shown c.show_bad.ensures.output c.show_bad.ensures.steady
    (c.in-Err-Bad.ensures.told.steady (bad_script_told c.in-Err-Bad.field-0 c.in-Err-Bad.why c.in-Err-Bad.field-0-is))

pub returns-in-Err-Failed-clause-replay : goal.returns-in-Err-Failed-clause-replay
returns-in-Err-Failed-clause-replay g c =
    runs_unread g.F.Files.holds g.F.Files.moment g.F.Files.left_since g.F.Files.images g.F.Files.asked g.F.Files.faults g.I.Source.left g.I.Source.faults
    c.args.json c.args.files.now c.args.input.now
    c.read_steps.new.input (g.K.Sink.held c.args.out.now) (g.K.Sink.held c.show.new.out) c.show.result
    (c.in-Err-Failed.ensures.told.cause (ap Err c.in-Err-Failed.field-0-is)) c.show.ensures.shown c.show.ensures.prefix

pub returns-in-Err-Failed-clause-ends : goal.returns-in-Err-Failed-clause-ends
returns-in-Err-Failed-clause-ends g c =
    ends_failed ⊥ _ (g.I.Source.faults c.args.input.now) (g.I.Source.faults c.read_steps.new.input) (g.K.Sink.faults c.args.out.now)
    (g.K.Sink.faults c.show.new.out) (g.K.Sink.held c.args.out.now) (g.K.Sink.held c.show.new.out) c.show.result c.show.ensures.shown
    c.show.ensures.output c.show.ensures.steady (c.in-Err-Failed.ensures.told.cause (ap Err c.in-Err-Failed.field-0-is))

pub returns-in-Err-OutOfMemory-clause-replay : goal.returns-in-Err-OutOfMemory-clause-replay
returns-in-Err-OutOfMemory-clause-replay g c =
    runs_none g.F.Files.holds g.F.Files.moment g.F.Files.left_since g.F.Files.images g.F.Files.asked g.F.Files.faults g.I.Source.left g.I.Source.faults
    c.args.json c.args.files.now c.args.input.now
    c.read_steps.new.input (g.K.Sink.held c.args.out.now)

pub returns-in-Err-OutOfMemory-clause-ends : goal.returns-in-Err-OutOfMemory-clause-ends
returns-in-Err-OutOfMemory-clause-ends g c =
    ends_memory ⊥ _ (g.I.Source.faults c.args.input.now) (g.I.Source.faults c.read_steps.new.input) (g.K.Sink.faults c.args.out.now)
    (g.K.Sink.held c.args.out.now) (g.K.Sink.held c.args.out.now)
