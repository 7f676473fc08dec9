use Rattle.std.proofs.Common.{◌+◌, ◌*◌, ◌≤◌}
use Rattle.pie_types.proofs.room.+room.Given as goal

abbrev pub decreases-room_after : goal.decreases-room_after
decreases-room_after l = 2 * l.room

abbrev pub decreases-room_after_each : goal.decreases-room_after_each
decreases-room_after_each l = 2 * l.room + 1

abbrev pub invariant-room_after_each-loop-ty : goal.invariant-room_after_each-loop-ty
invariant-room_after_each-loop-ty l = l.left ≤ l.room
