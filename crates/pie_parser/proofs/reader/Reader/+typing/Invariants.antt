-- What is read inside a bracket has less room.
use Rattle.std.proofs.Common.{◌≡◌, ◌+◌, ◌*◌, ◌-◌, ◌<◌, [], ◌∷◌, length}
use Rattle.pie_parser.specs.inner.Turns.{many, onto, all_behind}
use Rattle.pie_parser.specs.TypeReading.{another_type, inner_type}
use Rattle.pie_parser.proofs.reader.Reader.+typing.Given as goal

abbrev pub decreases-inner_type : goal.decreases-inner_type
decreases-inner_type l = 8 * l.room + 0

abbrev pub decreases-another_type : goal.decreases-another_type
decreases-another_type l = 8 * l.room + 1

abbrev pub decreases-list_type : goal.decreases-list_type
decreases-list_type l = 8 * l.room + 1

abbrev pub decreases-more_types : goal.decreases-more_types
decreases-more_types l = 8 * l.room + 2

abbrev pub decreases-plain_type : goal.decreases-plain_type
decreases-plain_type l = 8 * l.room + 4

abbrev pub decreases-tuple_type : goal.decreases-tuple_type
decreases-tuple_type l = 8 * l.room + 3

abbrev pub decreases-written_type : goal.decreases-written_type
decreases-written_type l = 8 * l.room + 5

abbrev pub invariant-more_types-loop : goal.invariant-more_types-loop
invariant-more_types-loop l = onto l.items.items (many (another_type l.room (inner_type l.room)) (l.end - l.counter) l.self)
    ≡ all_behind (l.fn.first ∷ l.fn.second ∷ []) (another_type l.room (inner_type l.room)) l.fn.self
