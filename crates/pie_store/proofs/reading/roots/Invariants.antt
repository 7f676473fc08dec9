use Rattle.std.proofs.Common.{◌≡◌, ◌-◌, ℕ, []}
use Rattle.std.specs.Prelude.{All}
use Rattle.pie_value.specs.declared.task.Task.{Task}
use Rattle.pie_store.specs.Ranks.{IsStored}
use Rattle.pie_store.specs.inner.Reading.{some_at, next_root}
use Rattle.pie_store.proofs.reading.roots.Given as goal

abbrev pub invariant-loop : goal.invariant-loop
invariant-loop l =
    (some_at (next_root l.end) (l.count - l.counter) l.roots.items l.reader ≡ some_at (next_root l.end) l.count [] l.initial.reader)
    × All (λ (r : Task × ℕ). IsStored r.0) l.roots.items
