use Rattle.std.proofs.Common.{arith}
use Rattle.pie_codegen.proofs.Rests.{step_mass_at, tree_mass_at}
use Rattle.pie_codegen.proofs.RoomTurns.{items_turn, lines_turn, steps_turn, value_mass_at}
use Rattle.pie_codegen.proofs.room.+room.Goals as goal

pub items_room-room-requires : goal.items_room-room-requires
items_room-room-requires t c = grind (arith, tree_mass_at)

pub items_room-loop-item-preserved : goal.items_room-loop-item-preserved
items_room-loop-item-preserved t c = grind (arith, items_turn)

pub steps_room-room-requires : goal.steps_room-room-requires
steps_room-room-requires t c = grind (arith, step_mass_at)

pub steps_room-loop-step-preserved : goal.steps_room-loop-step-preserved
steps_room-loop-step-preserved t c = grind (arith, steps_turn)

pub lines_room-room-requires : goal.lines_room-room-requires
lines_room-room-requires t c = grind (arith, value_mass_at)

pub lines_room-loop-line-preserved : goal.lines_room-loop-line-preserved
lines_room-loop-line-preserved t c = grind (arith, lines_turn)
