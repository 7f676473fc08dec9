use Rattle.std.proofs.Common.{refl, sym}
use Rattle.pie_words.specs.declared.command.Command.TheVariants as commands
use Rattle.pie_cli.specs.inner.Played.{HasNoScript}
use Rattle.pie_cli.proofs.Demos.{ends_demo, not_input}
use Rattle.pie_cli.proofs.Doing.{does_as}
use Rattle.pie_cli.proofs.Ending.{ends_by, ends_unread}
use Rattle.pie_cli.proofs.top.run_command.Goals as goal

pub returns-in-Check-clause-does : goal.returns-in-Check-clause-does
returns-in-Check-clause-does g c =
    does_as g.F.Files.holds g.F.Files.moment g.F.Files.left_since g.F.Files.images g.F.Files.asked g.F.Files.faults g.I.Source.left g.I.Source.faults
    commands.Check c.args.command c.args.files.now c.run_check.new.files c.args.input.now c.args.input.now
    (g.K.Sink.held c.args.out.now) (g.K.Sink.held c.run_check.new.out) c.run_check.result
    (sym c.in-Check.is) c.run_check.ensures.check

pub returns-in-Check-clause-ends : goal.returns-in-Check-clause-ends
returns-in-Check-clause-ends g c =
    ends_unread (HasNoScript c.args.command) _ _ (g.I.Source.faults c.args.input.now) (g.I.Source.faults c.args.input.now) _ _ (g.K.Sink.held c.args.out.now)
    (g.K.Sink.held c.run_check.new.out) c.run_check.result c.run_check.ensures.ends refl

pub returns-in-Check-clause-input : goal.returns-in-Check-clause-input
returns-in-Check-clause-input g c = λ none. (refl, c.run_check.ensures.ends.no_input)

pub returns-in-Fresh-clause-does : goal.returns-in-Fresh-clause-does
returns-in-Fresh-clause-does g c =
    does_as g.F.Files.holds g.F.Files.moment g.F.Files.left_since g.F.Files.images g.F.Files.asked g.F.Files.faults g.I.Source.left g.I.Source.faults
    (commands.Fresh c.in-Fresh.json) c.args.command c.args.files.now c.run_fresh.new.files c.args.input.now c.args.input.now
    (g.K.Sink.held c.args.out.now) (g.K.Sink.held c.run_fresh.new.out) c.run_fresh.result
    (sym c.in-Fresh.is) c.run_fresh.ensures.fresh

pub returns-in-Fresh-clause-ends : goal.returns-in-Fresh-clause-ends
returns-in-Fresh-clause-ends g c =
    ends_unread (HasNoScript c.args.command) _ _ (g.I.Source.faults c.args.input.now) (g.I.Source.faults c.args.input.now) _ _ (g.K.Sink.held c.args.out.now)
    (g.K.Sink.held c.run_fresh.new.out) c.run_fresh.result c.run_fresh.ensures.ends refl

pub returns-in-Fresh-clause-input : goal.returns-in-Fresh-clause-input
returns-in-Fresh-clause-input g c = λ none. (refl, c.run_fresh.ensures.ends.no_input)

pub returns-in-Build-clause-does : goal.returns-in-Build-clause-does
returns-in-Build-clause-does g c =
    does_as g.F.Files.holds g.F.Files.moment g.F.Files.left_since g.F.Files.images g.F.Files.asked g.F.Files.faults g.I.Source.left g.I.Source.faults
    (commands.Build c.in-Build.json) c.args.command c.args.files.now c.run_by_list.new.files c.args.input.now c.run_by_list.new.input
    (g.K.Sink.held c.args.out.now) (g.K.Sink.held c.run_by_list.new.out) c.run_by_list.result
    (sym c.in-Build.is) (record {
      built = c.run_by_list.ensures.lists;
      crash = c.run_by_list.ensures.stops.crash;
      marked = c.run_by_list.ensures.stops.marked;
      durable = c.run_by_list.ensures.stops.durable;
    })

pub returns-in-Build-clause-ends : goal.returns-in-Build-clause-ends
returns-in-Build-clause-ends g c =
    ends_by (Unit {0}) (HasNoScript c.args.command) _ _ (g.I.Source.faults c.args.input.now) (g.I.Source.faults c.run_by_list.new.input) _ _
    (g.K.Sink.held c.args.out.now) (g.K.Sink.held c.run_by_list.new.out) c.run_by_list.result (λ h. tt {0}) c.run_by_list.ensures.ends

pub returns-in-Build-clause-input : goal.returns-in-Build-clause-input
returns-in-Build-clause-input g c = λ none. absurd ((none.0 c.in-Build.json).0 c.in-Build.is)

pub returns-in-Scan-clause-does : goal.returns-in-Scan-clause-does
returns-in-Scan-clause-does g c =
    does_as g.F.Files.holds g.F.Files.moment g.F.Files.left_since g.F.Files.images g.F.Files.asked g.F.Files.faults g.I.Source.left g.I.Source.faults
    commands.Scan c.args.command c.args.files.now c.run_by_list-in-Scan.new.files c.args.input.now c.run_by_list-in-Scan.new.input
    (g.K.Sink.held c.args.out.now) (g.K.Sink.held c.run_by_list-in-Scan.new.out) c.run_by_list-in-Scan.result
    (sym c.in-Scan.is) (record {
      scanned = c.run_by_list-in-Scan.ensures.lists;
      same = c.run_by_list-in-Scan.ensures.none.0;
      crash = c.run_by_list-in-Scan.ensures.none.1;
    })

pub returns-in-Scan-clause-ends : goal.returns-in-Scan-clause-ends
returns-in-Scan-clause-ends g c =
    ends_by (Unit {0}) (HasNoScript c.args.command) _ _ (g.I.Source.faults c.args.input.now) (g.I.Source.faults c.run_by_list-in-Scan.new.input) _ _
    (g.K.Sink.held c.args.out.now) (g.K.Sink.held c.run_by_list-in-Scan.new.out) c.run_by_list-in-Scan.result (λ h. tt {0}) c.run_by_list-in-Scan.ensures.ends

pub returns-in-Scan-clause-input : goal.returns-in-Scan-clause-input
returns-in-Scan-clause-input g c = λ none. absurd (none.1 c.in-Scan.is)

pub returns-in-Auto-clause-does : goal.returns-in-Auto-clause-does
returns-in-Auto-clause-does g c =
    does_as g.F.Files.holds g.F.Files.moment g.F.Files.left_since g.F.Files.images g.F.Files.asked g.F.Files.faults g.I.Source.left g.I.Source.faults
    commands.Auto c.args.command c.args.files.now c.run_by_list-in-Auto.new.files c.args.input.now c.run_by_list-in-Auto.new.input
    (g.K.Sink.held c.args.out.now) (g.K.Sink.held c.run_by_list-in-Auto.new.out) c.run_by_list-in-Auto.result
    (sym c.in-Auto.is) (record { found = c.run_by_list-in-Auto.ensures.lists; rest = c.run_by_list-in-Auto.ensures.rest })

pub returns-in-Auto-clause-rest : goal.returns-in-Auto-clause-rest
returns-in-Auto-clause-rest g c = λ none. absurd (none.1 c.in-Auto.is)

pub returns-in-Auto-clause-ends : goal.returns-in-Auto-clause-ends
returns-in-Auto-clause-ends g c =
    ends_by (Unit {0}) (HasNoScript c.args.command) _ _ (g.I.Source.faults c.args.input.now) (g.I.Source.faults c.run_by_list-in-Auto.new.input) _ _
    (g.K.Sink.held c.args.out.now) (g.K.Sink.held c.run_by_list-in-Auto.new.out) c.run_by_list-in-Auto.result (λ h. tt {0}) c.run_by_list-in-Auto.ensures.ends

pub returns-in-Auto-clause-input : goal.returns-in-Auto-clause-input
returns-in-Auto-clause-input g c = λ none. absurd (none.2 c.in-Auto.is)

pub returns-in-Topdown-clause-does : goal.returns-in-Topdown-clause-does
returns-in-Topdown-clause-does g c =
    does_as g.F.Files.holds g.F.Files.moment g.F.Files.left_since g.F.Files.images g.F.Files.asked g.F.Files.faults g.I.Source.left g.I.Source.faults
    (commands.Topdown c.in-Topdown.json) c.args.command c.args.files.now c.run_topdown.new.files c.args.input.now c.args.input.now
    (g.K.Sink.held c.args.out.now) (g.K.Sink.held c.run_topdown.new.out) c.run_topdown.result
    (sym c.in-Topdown.is) c.run_topdown.ensures.topdown

pub returns-in-Topdown-clause-ends : goal.returns-in-Topdown-clause-ends
returns-in-Topdown-clause-ends g c =
    ends_unread (HasNoScript c.args.command) _ _ (g.I.Source.faults c.args.input.now) (g.I.Source.faults c.args.input.now) _ _ (g.K.Sink.held c.args.out.now)
    (g.K.Sink.held c.run_topdown.new.out) c.run_topdown.result c.run_topdown.ensures.ends refl

pub returns-in-Topdown-clause-input : goal.returns-in-Topdown-clause-input
returns-in-Topdown-clause-input g c = λ none. (refl, c.run_topdown.ensures.ends.no_input)

pub returns-in-Cached-clause-does : goal.returns-in-Cached-clause-does
returns-in-Cached-clause-does g c =
    does_as g.F.Files.holds g.F.Files.moment g.F.Files.left_since g.F.Files.images g.F.Files.asked g.F.Files.faults g.I.Source.left g.I.Source.faults
    commands.Cached c.args.command c.args.files.now c.run_cached.new.files c.args.input.now c.args.input.now
    (g.K.Sink.held c.args.out.now) (g.K.Sink.held c.run_cached.new.out) c.run_cached.result
    (sym c.in-Cached.is) c.run_cached.ensures.cached

pub returns-in-Cached-clause-rest : goal.returns-in-Cached-clause-rest
returns-in-Cached-clause-rest g c = λ none. absurd (none.2 c.in-Cached.is)

pub returns-in-Cached-clause-ends : goal.returns-in-Cached-clause-ends
returns-in-Cached-clause-ends g c =
    ends_unread (HasNoScript c.args.command) _ _ (g.I.Source.faults c.args.input.now) (g.I.Source.faults c.args.input.now) _ _ (g.K.Sink.held c.args.out.now)
    (g.K.Sink.held c.run_cached.new.out) c.run_cached.result c.run_cached.ensures.ends refl

pub returns-in-Cached-clause-input : goal.returns-in-Cached-clause-input
returns-in-Cached-clause-input g c = λ none. (refl, c.run_cached.ensures.ends.no_input)

pub returns-in-Replay-clause-does : goal.returns-in-Replay-clause-does
returns-in-Replay-clause-does g c =
    does_as g.F.Files.holds g.F.Files.moment g.F.Files.left_since g.F.Files.images g.F.Files.asked g.F.Files.faults g.I.Source.left g.I.Source.faults
    (commands.Replay c.in-Replay.json) c.args.command c.args.files.now c.run_replay.new.files c.args.input.now c.run_replay.new.input
    (g.K.Sink.held c.args.out.now) (g.K.Sink.held c.run_replay.new.out) c.run_replay.result
    (sym c.in-Replay.is) c.run_replay.ensures.replay

pub returns-in-Replay-clause-rest : goal.returns-in-Replay-clause-rest
returns-in-Replay-clause-rest g c = λ none. absurd (none.0 c.in-Replay.json c.in-Replay.is)

pub returns-in-Replay-clause-ends : goal.returns-in-Replay-clause-ends
returns-in-Replay-clause-ends g c =
    ends_by ⊥ (HasNoScript c.args.command) _ _ (g.I.Source.faults c.args.input.now) (g.I.Source.faults c.run_replay.new.input) _ _
    (g.K.Sink.held c.args.out.now) (g.K.Sink.held c.run_replay.new.out) c.run_replay.result (λ h. h c.in-Replay.json c.in-Replay.is) c.run_replay.ensures.ends

pub returns-in-Replay-clause-input : goal.returns-in-Replay-clause-input
returns-in-Replay-clause-input g c = λ none. absurd ((none.0 c.in-Replay.json).1 c.in-Replay.is)

pub returns-in-Demo-clause-does : goal.returns-in-Demo-clause-does
returns-in-Demo-clause-does g c =
    does_as g.F.Files.holds g.F.Files.moment g.F.Files.left_since g.F.Files.images g.F.Files.asked g.F.Files.faults g.I.Source.left g.I.Source.faults
    (commands.Demo c.in-Demo.seed c.in-Demo.size) c.args.command c.args.files.now c.args.files.now c.args.input.now c.args.input.now
    (g.K.Sink.held c.args.out.now) (g.K.Sink.held c.run_demo.new.out) c.run_demo.result
    (sym c.in-Demo.is) (record { says = c.run_demo.ensures.says; nothing_asked = refl })

pub returns-in-Demo-clause-ends : goal.returns-in-Demo-clause-ends
returns-in-Demo-clause-ends g c =
    ends_demo (HasNoScript c.args.command) c.in-Demo.seed c.in-Demo.size _ (g.I.Source.faults c.args.input.now) (g.K.Sink.faults c.args.out.now) (g.K.Sink.faults c.run_demo.new.out)
    (g.K.Sink.held c.args.out.now) (g.K.Sink.held c.run_demo.new.out) c.run_demo.result c.run_demo.ensures.says c.run_demo.ensures.output
    c.run_demo.ensures.steady

pub returns-in-Demo-clause-input : goal.returns-in-Demo-clause-input
returns-in-Demo-clause-input g c = λ none. (refl, not_input c.run_demo.result c.run_demo.ensures.says.ends)
