-- What is read inside a bracket or a condition has less room, and each level of operators stands below the one before.
use Rattle.std.proofs.Common.{◌≡◌, ◌+◌, ◌*◌, ◌-◌, [], ◌∷◌}
use Rattle.pie_parser.specs.inner.Turns.{many, onto, all_behind}
use Rattle.pie_parser.specs.inner.Pieces.{onto_lines}
use Rattle.pie_parser.specs.ExprReading.{around, another, another_step, operand, pieces, all_pieces}
use Rattle.pie_parser.proofs.Ranks.{rank_of}
use Rattle.pie_parser.proofs.reader.Reader.+expr.Given as goal

abbrev pub decreases-another : goal.decreases-another
decreases-another l = 32 * (l.room.brackets + l.room.conditions) + 1

abbrev pub decreases-arguments : goal.decreases-arguments
decreases-arguments l = 32 * (l.room.brackets + l.room.conditions) + 3

abbrev pub decreases-block : goal.decreases-block
decreases-block l = 32 * (l.room.brackets + l.room.conditions) + 4

abbrev pub decreases-branches : goal.decreases-branches
decreases-branches l = 32 * (l.room.brackets + l.room.conditions) + 5

abbrev pub decreases-call : goal.decreases-call
decreases-call l = 32 * (l.room.brackets + l.room.conditions) + 4

abbrev pub decreases-comparison : goal.decreases-comparison
decreases-comparison l = 32 * (l.room.brackets + l.room.conditions) + 18

abbrev pub decreases-condition : goal.decreases-condition
decreases-condition l = 32 * (l.room.brackets + l.room.conditions) + 6

abbrev pub decreases-each : goal.decreases-each
decreases-each l = 32 * (l.room.brackets + l.room.conditions) + 1

abbrev pub decreases-effect : goal.decreases-effect
decreases-effect l = 32 * (l.room.brackets + l.room.conditions) + 1

abbrev pub decreases-expr : goal.decreases-expr
decreases-expr l = 32 * (l.room.brackets + l.room.conditions) + 27

abbrev pub decreases-fail : goal.decreases-fail
decreases-fail l = 32 * (l.room.brackets + l.room.conditions) + 1

abbrev pub decreases-inner : goal.decreases-inner
decreases-inner l = 32 * (l.room.brackets + l.room.conditions) + 0

abbrev pub decreases-listed : goal.decreases-listed
decreases-listed l = 32 * (l.room.brackets + l.room.conditions) + 2

abbrev pub decreases-name_or_call : goal.decreases-name_or_call
decreases-name_or_call l = 32 * (l.room.brackets + l.room.conditions) + 5

abbrev pub decreases-piece : goal.decreases-piece
decreases-piece l = 32 * (l.room.brackets + l.room.conditions) + 2

abbrev pub decreases-pieces : goal.decreases-pieces
decreases-pieces l = 32 * (l.room.brackets + l.room.conditions) + 3

abbrev pub decreases-prefixed : goal.decreases-prefixed
decreases-prefixed l = 32 * (l.room.brackets + l.room.conditions) + 9

abbrev pub decreases-primary : goal.decreases-primary
decreases-primary l = 32 * (l.room.brackets + l.room.conditions) + 7

abbrev pub decreases-projected : goal.decreases-projected
decreases-projected l = 32 * (l.room.brackets + l.room.conditions) + 8

abbrev pub decreases-read : goal.decreases-read
decreases-read l = 32 * (l.room.brackets + l.room.conditions) + 1

abbrev pub decreases-require : goal.decreases-require
decreases-require l = 32 * (l.room.brackets + l.room.conditions) + 5

abbrev pub decreases-rounds : goal.decreases-rounds
decreases-rounds l = 32 * (l.room.brackets + l.room.conditions) + 3

abbrev pub decreases-run : goal.decreases-run
decreases-run l = 32 * (l.room.brackets + l.room.conditions) + 5

abbrev pub decreases-squares : goal.decreases-squares
decreases-squares l = 32 * (l.room.brackets + l.room.conditions) + 4

abbrev pub decreases-test : goal.decreases-test
decreases-test l = 32 * (l.room.brackets + l.room.conditions) + 0

abbrev pub decreases-val : goal.decreases-val
decreases-val l = 32 * (l.room.brackets + l.room.conditions) + 1

abbrev pub decreases-write : goal.decreases-write
decreases-write l = 32 * (l.room.brackets + l.room.conditions) + 1

abbrev pub decreases-operand : goal.decreases-operand
decreases-operand l = 32 * (l.room.brackets + l.room.conditions) + rank_of l.level + 0

abbrev pub decreases-another_step : goal.decreases-another_step
decreases-another_step l = 32 * (l.room.brackets + l.room.conditions) + rank_of l.level + 1

abbrev pub decreases-steps : goal.decreases-steps
decreases-steps l = 32 * (l.room.brackets + l.room.conditions) + rank_of l.level + 2

abbrev pub decreases-chain : goal.decreases-chain
decreases-chain l = 32 * (l.room.brackets + l.room.conditions) + rank_of l.level + 3

abbrev pub invariant-steps-loop : goal.invariant-steps-loop
invariant-steps-loop l = onto l.steps.items (many (another_step (operand (around l.room) l.level) l.level) (l.end - l.counter) l.self)
    ≡ all_behind [] (another_step (operand (around l.room) l.level) l.level) l.fn.self

abbrev pub invariant-listed-loop : goal.invariant-listed-loop
invariant-listed-loop l = onto l.items.items (many (another (around l.room)) (l.end - l.counter) l.self) ≡ all_behind (l.fn.first ∷ [])
    (another (around l.room)) l.fn.self

abbrev pub invariant-pieces-loop : goal.invariant-pieces-loop
invariant-pieces-loop l = onto_lines l.lines.items (pieces (around l.room) (l.end - l.counter) l.self) ≡ all_pieces (around l.room) l.fn.self
