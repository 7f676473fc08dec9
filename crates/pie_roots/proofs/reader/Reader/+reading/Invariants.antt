use Rattle.std.proofs.Common.{◌≡◌, ◌-◌, ◌+◌, ◌*◌}
use Rattle.pie_roots.specs.inner.Reading.{listed, more, value_within}
use Rattle.pie_roots.proofs.reader.Reader.+reading.Given as goal

abbrev pub decreases-value : goal.decreases-value
decreases-value l = 4 * l.depth

abbrev pub decreases-listed : goal.decreases-listed
decreases-listed l = 4 * l.depth + 1

abbrev pub decreases-items : goal.decreases-items
decreases-items l = 4 * l.depth + 2

abbrev pub decreases-led : goal.decreases-led
decreases-led l = 4 * l.depth + 3

abbrev pub invariant-listed-loop : goal.invariant-listed-loop
invariant-listed-loop l = more (value_within l.depth) (l.end - l.counter) l.items l.self ≡ listed (value_within l.depth) l.fn.self
