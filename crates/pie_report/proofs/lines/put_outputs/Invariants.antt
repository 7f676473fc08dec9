use Rattle.std.proofs.Common.{◌≡◌, ◌++◌, drop, string_bytes}
use Rattle.pie_report.specs.Texts.{output_lines}
use Rattle.pie_report.proofs.lines.put_outputs.Given as goal

abbrev pub invariant-loop-output : goal.invariant-loop-output
invariant-loop-output l = string_bytes l.out ++ output_lines (drop l.output-index l.outputs) ≡ string_bytes l.fn.out ++ output_lines l.outputs
