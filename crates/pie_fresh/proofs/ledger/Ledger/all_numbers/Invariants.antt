use Rattle.std.proofs.Common.{ℕ, ◌<◌, length}
use Rattle.std.specs.Prelude.{Contains}
use Rattle.pie_graph.specs.Numbers.{AllBelow, numbers}
use Rattle.pie_fresh.proofs.ledger.Ledger.all_numbers.Given as goal

-- each number so far is that of a task, and all lower numbers are among them
abbrev pub invariant-loop-n : goal.invariant-loop-n
invariant-loop-n l = record {
  below : AllBelow (length l.self.names) (numbers l.nos.items);
  live : (k : ℕ) → k < l.n → Contains (numbers l.nos.items) k;
}
