use Rattle.std.proofs.Common.{◌≡◌, ◌-◌, ◌+◌, ◌*◌, []}
use Rattle.pie_value.specs.Reading.{values_of, value_within}
use Rattle.pie_value.proofs.reader.Reader.+reading.Given as goal

abbrev pub decreases-value : goal.decreases-value
decreases-value l = 3 * l.depth

abbrev pub decreases-tagged : goal.decreases-tagged
decreases-tagged l = 3 * l.depth + 2

abbrev pub decreases-items : goal.decreases-items
decreases-items l = 3 * l.depth + 1

abbrev pub invariant-items-loop : goal.invariant-items-loop
invariant-items-loop l =
    values_of (value_within l.depth) (l.count - l.counter) l.items l.self ≡ values_of (value_within l.depth) l.count [] l.initial.self
