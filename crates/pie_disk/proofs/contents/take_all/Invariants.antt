use Rattle.std.specs.Prelude.{◌≤◌, length}
use Rattle.pie_disk.proofs.contents.take_all.Given as goal

-- what was taken is in the room
abbrev pub invariant-loop : goal.invariant-loop
invariant-loop l = l.taken ≤ length l.bytes.items
