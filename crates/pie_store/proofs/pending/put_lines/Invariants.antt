use Rattle.std.proofs.Common.{◌≡◌, ◌++◌}
use Rattle.std.specs.Prelude.{All}
use Rattle.pie_store.specs.Pending.{lines, IsName}
use Rattle.pie_store.proofs.pending.put_lines.Given as goal

abbrev pub invariant-loop-path : goal.invariant-loop-path
invariant-loop-path l =
    (l.out.items ++ lines l.path-iterator ≡ l.fn.out.items ++ lines l.paths.keys) × (All IsName l.path-iterator → All IsName l.paths.keys)
