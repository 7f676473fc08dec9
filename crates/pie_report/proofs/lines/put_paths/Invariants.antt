use Rattle.std.proofs.Common.{◌≡◌, ◌++◌, drop, string_bytes}
use Rattle.pie_report.specs.Texts.{lines}
use Rattle.pie_report.proofs.lines.put_paths.Given as goal

abbrev pub invariant-loop-path : goal.invariant-loop-path
invariant-loop-path l = string_bytes l.out ++ lines l.word (drop l.path-index l.paths) ≡ string_bytes l.fn.out ++ lines l.word l.paths
