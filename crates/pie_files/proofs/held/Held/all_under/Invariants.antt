use Rattle.std.proofs.Common.{◌≡◌, ◌++◌}
use Rattle.std.specs.List.{filter}
use Rattle.pie_base.specs.Path.{is_below}
use Rattle.pie_files.proofs.held.Held.all_under.Given as goal

abbrev pub invariant-loop-path : goal.invariant-loop-path
invariant-loop-path l = l.found.items ++ filter (is_below l.dir) l.path-iterator ≡ filter (is_below l.dir) l.initial.path-iterator
