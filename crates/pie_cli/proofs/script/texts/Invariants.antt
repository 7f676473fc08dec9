use Rattle.std.proofs.Common.{◌≡◌, take}
use Rattle.std.specs.Prelude.{string_bytes}
use Rattle.pie_cli.specs.Replay.{ArePrinted}
use Rattle.pie_cli.proofs.script.texts.Given as goal

abbrev pub invariant-loop-report : goal.invariant-loop-report
invariant-loop-report l = ArePrinted l.json 1 (take l.report-index l.reports) (string_bytes l.text) × (l.number ≡ l.report-index)
