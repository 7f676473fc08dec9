use Rattle.std.proofs.Common.{List, map, subst, sym}
use Rattle.std.specs.Prelude.{All, string_bytes}
use Rattle.std.proofs.lemmas.Result.{IfOk-weaker}
use Rattle.pie_report.specs.declared.report.Report.{Report}
use Rattle.pie_script.specs.Steps.{plain}
use Rattle.pie_cli.specs.inner.Played.{IsTellable, TellsScript}
use Rattle.pie_cli.proofs.Playing.{play_says, play_told, replays_tell, steps_leave}
use Rattle.pie_cli.proofs.script.replay_script.Goals as goal

pub tell-requires : goal.tell-requires
tell-requires g c =
    subst (All IsTellable) (sym c.as_slice.ensures.value)
    (replays_tell g.F.Files.holds g.F.Files.moment g.F.Files.left_since g.F.Files.images g.F.Files.asked (map plain c.args.steps.now) c.args.files.now
    c.replay-ended.new.files c.replay-ended.new.done.items
    c.new-done.result.items c.new-runs.result c.replay-ended.new.runs c.replay-ended.result c.new-done.ensures.items c.replay-ended.ensures.replays)

pub returns-clause-says : goal.returns-clause-says
returns-clause-says g c =
    IfOk-weaker c.tell.result _ _ (λ told h. play_says g.F.Files.holds g.F.Files.moment g.F.Files.left_since g.F.Files.images g.F.Files.asked
    g.F.Files.faults c.args.json (map plain c.args.steps.now) c.args.files.now
    c.replay-ended.new.files c.new-done.result.items c.replay-ended.new.done.items c.new-runs.result c.replay-ended.new.runs c.replay-ended.result
    (string_bytes told.text) told.status c.new-done.ensures.items c.replay-ended.ensures.replays c.replay-ended.ensures.told
    (subst (λ (rs : List Report). TellsScript c.args.json rs c.replay-ended.result (string_bytes told.text) told.status) c.as_slice.ensures.value h))
    c.tell.ensures

pub returns-clause-told : goal.returns-clause-told
returns-clause-told g c =
    IfOk-weaker c.tell.result _ _ (λ told h. play_told g.F.Files.holds g.F.Files.moment g.F.Files.left_since g.F.Files.images g.F.Files.asked
    g.F.Files.faults c.args.json (map plain c.args.steps.now) c.args.files.now
    c.replay-ended.new.files (string_bytes told.text) told.status h) (returns-clause-says g c)

pub returns-clause-crash : goal.returns-clause-crash
returns-clause-crash g c =
    steps_leave g.F.Files.holds g.F.Files.moment g.F.Files.left_since g.F.Files.images g.F.Files.asked (map plain c.args.steps.now) c.args.files.now
    c.replay-ended.new.files c.new-done.result.items c.replay-ended.new.done.items c.new-runs.result c.replay-ended.new.runs c.replay-ended.result
    c.replay-ended.ensures.replays
