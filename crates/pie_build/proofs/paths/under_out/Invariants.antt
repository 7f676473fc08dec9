use Rattle.std.proofs.Common.{◌≡◌, ◌++◌, drop}
use Rattle.std.specs.List.{filter}
use Rattle.pie_base.specs.Path.{is_out}
use Rattle.pie_build.proofs.paths.under_out.Given as goal

abbrev pub invariant-loop-path : goal.invariant-loop-path
invariant-loop-path l = l.found.items ++ filter is_out (drop l.path-index l.paths) ≡ filter is_out l.paths
