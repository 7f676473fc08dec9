use Rattle.std.proofs.Common.{◌≡◌, ◌+◌, ◌*◌, drop}
use Rattle.std.specs.Prelude.{max}
use Rattle.pie_parser.specs.TreeView.{trees_of, steps_of, lines_of, last_of, block_of, mass, trees_mass, steps_mass, lines_mass, block_mass, last_mass}
use Rattle.pie_codegen.specs.Rooms.{steps_room, trees_room, lines_room}
use Rattle.pie_codegen.proofs.room.+room.Given as goal

abbrev pub decreases-room : goal.decreases-room
decreases-room l = 2 * mass l.e.now

abbrev pub decreases-room_of_two : goal.decreases-room_of_two
decreases-room_of_two l = 2 * (mass l.a.now + mass l.b.now) + 1

abbrev pub decreases-chain_room : goal.decreases-chain_room
decreases-chain_room l = 2 * (mass l.first.now + steps_mass (steps_of l.steps.now)) + 2

abbrev pub decreases-steps_room : goal.decreases-steps_room
decreases-steps_room l = 2 * steps_mass (steps_of l.steps.now) + 1

abbrev pub decreases-items_room : goal.decreases-items_room
decreases-items_room l = 2 * trees_mass (trees_of l.items.now) + 1

abbrev pub decreases-each_room : goal.decreases-each_room
decreases-each_room l = 2 * (mass l.item.now + mass l.list.now) + 1

abbrev pub decreases-alone_room : goal.decreases-alone_room
decreases-alone_room l = 2 * (mass l.test.now + block_mass (block_of l.then.now)) + 2

abbrev pub decreases-choice_room : goal.decreases-choice_room
decreases-choice_room l = 2 * (mass l.test.now + block_mass (block_of l.then.now) + block_mass (block_of l.other.now)) + 2

abbrev pub decreases-block_room : goal.decreases-block_room
decreases-block_room l = 2 * block_mass (block_of l.block.now)

abbrev pub decreases-lines_room : goal.decreases-lines_room
decreases-lines_room l = 2 * lines_mass (lines_of l.lines.now) + 1

abbrev pub decreases-last_room : goal.decreases-last_room
decreases-last_room l = 2 * last_mass (last_of l.last.now)

abbrev pub invariant-steps_room-loop-step : goal.invariant-steps_room-loop-step
invariant-steps_room-loop-step l = max l.most (steps_room (steps_of (drop l.step-index l.steps))) ≡ steps_room (steps_of l.steps)

abbrev pub invariant-items_room-loop-item : goal.invariant-items_room-loop-item
invariant-items_room-loop-item l = max l.most (trees_room (trees_of (drop l.item-index l.items))) ≡ trees_room (trees_of l.items)

abbrev pub invariant-lines_room-loop-line : goal.invariant-lines_room-loop-line
invariant-lines_room-loop-line l = max l.most (l.names + lines_room (lines_of (drop l.line-index l.lines)) l.last) ≡ lines_room (lines_of l.lines) l.last
