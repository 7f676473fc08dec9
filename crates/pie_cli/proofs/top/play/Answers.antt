use Rattle.std.proofs.Common.{ℕ, List, map, subst, sym}
use Rattle.pie_cli.specs.inner.Played.{PlaySays}
use Rattle.pie_script.specs.Steps.{plain}
use Rattle.pie_cli.proofs.Playing.{play_none, play_shown}
use Rattle.pie_cli.proofs.top.play.Goals as goal

pub returns-in-Ok-clause-plays : goal.returns-in-Ok-clause-plays
returns-in-Ok-clause-plays g c =
    play_shown g.F.Files.holds g.F.Files.moment g.F.Files.left_since g.F.Files.images g.F.Files.asked g.F.Files.faults c.args.json (map plain
    c.args.steps.now) c.args.files.now c.replay_script.new.files
    c.as_str.result.now c.in-Ok.told.status c.show.result (g.K.Sink.held c.args.out.now) (g.K.Sink.held c.show.new.out)
    (subst (λ (text : List ℕ). PlaySays g.F.Files.holds g.F.Files.moment g.F.Files.left_since g.F.Files.images g.F.Files.asked g.F.Files.faults c.args.json
    (map plain c.args.steps.now) c.args.files.now c.replay_script.new.files text
    c.in-Ok.told.status) (sym c.as_str.ensures.value) c.in-Ok.ensures.says)
    c.show.ensures.shown c.show.ensures.prefix

pub returns-in-Err-clause-plays : goal.returns-in-Err-clause-plays
returns-in-Err-clause-plays g c =
    play_none g.F.Files.holds g.F.Files.moment g.F.Files.left_since g.F.Files.images g.F.Files.asked g.F.Files.faults c.args.json (map plain
    c.args.steps.now) c.args.files.now c.replay_script.new.files
    (g.K.Sink.held c.args.out.now)
