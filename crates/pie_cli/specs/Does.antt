-- What a run of the program says of each command.
use Rattle.std.specs.Prelude.{ℕ, List, Option}
use Rattle.pie_base.specs.declared.status.Status.{Status}
use Rattle.pie_files.specs.Directory.{Directory}
use Rattle.pie_files.specs.declared.files.Call.{Call}
use Rattle.pie_words.specs.declared.command.Command.{Command}
use Rattle.pie_words.specs.declared.command.Command.TheVariants as commands
use Rattle.pie_cli.specs.Auto.{RunsAuto}
use Rattle.pie_cli.specs.Build.{RunsBuild}
use Rattle.pie_cli.specs.Cached.{RunsCached}
use Rattle.pie_cli.specs.Check.{RunsCheck}
use Rattle.pie_cli.specs.Demo.{RunsDemo}
use Rattle.pie_cli.specs.Fresh.{RunsFresh}
use Rattle.pie_cli.specs.Replay.{RunsReplay}
use Rattle.pie_cli.specs.Scan.{RunsScan}
use Rattle.pie_cli.specs.Topdown.{RunsTopdown}

-- what a command says, whatever it ended with: the record of that command
abbrev pub Does : {S I : Type 0} → (S → Option Directory) → (S → ℕ) → (S → ℕ → Directory → Type 0) → (S → Directory → Type 0) → (S → Option (List Call))
    → (S → ℕ) → (I → Option (List ℕ)) → (I → ℕ) → Command → S → S → I → I → Option (List ℕ) → Option (List ℕ) → Status → Type 0
Does holds moment left_since images asked faults left input_faults commands.Check old new input after held gained ended =
    RunsCheck holds moment left_since images asked faults old new held gained ended
Does holds moment left_since images asked faults left input_faults (commands.Fresh json) old new input after held gained ended =
    RunsFresh holds moment left_since images asked faults json old new held gained ended
Does holds moment left_since images asked faults left input_faults (commands.Build json) old new input after held gained ended =
    RunsBuild holds moment left_since images asked faults left input_faults json old new input after held gained ended
Does holds moment left_since images asked faults left input_faults (commands.Replay json) old new input after held gained ended =
    RunsReplay holds moment left_since images asked faults left input_faults json old new input after held gained ended
Does holds moment left_since images asked faults left input_faults commands.Scan old new input after held gained ended =
    RunsScan holds moment left_since images faults left input_faults old new input after held gained ended
Does holds moment left_since images asked faults left input_faults commands.Auto old new input after held gained ended =
    RunsAuto holds faults left input_faults old new input after held gained ended
Does holds moment left_since images asked faults left input_faults (commands.Topdown json) old new input after held gained ended =
    RunsTopdown holds moment left_since images faults json old new held gained ended
Does holds moment left_since images asked faults left input_faults commands.Cached old new input after held gained ended =
    RunsCached holds moment left_since images faults old new held gained ended
Does holds moment left_since images asked faults left input_faults (commands.Demo seed size) old new input after held gained ended =
    RunsDemo seed size old new held gained ended
