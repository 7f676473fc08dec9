use Rattle.std.proofs.Common.{◌≡◌, ◌++◌, drop}
use Rattle.std.specs.Prelude.{string_bytes}
use Rattle.std.specs.List.{flat_map}
use Rattle.pie_cli.specs.Scan.{path_line}
use Rattle.pie_cli.proofs.scan.lines.Given as goal

abbrev pub invariant-loop-path : goal.invariant-loop-path
invariant-loop-path l = string_bytes l.text ++ flat_map path_line (drop l.path-index l.paths) ≡ flat_map path_line l.paths
