-- Tasks, what a task may do next, and what it is answered.
use Rattle.std.specs.Prelude.{ℕ, List}
-- how a path is looked at: whether it is there, its contents stamped by hash or by mark, or the hash of its contents
pub use Rattle.pie_model.specs.declared.words.Look.{Look}
pub use Rattle.pie_model.specs.declared.words.Look.TheVariants.{Exists, ByHash, ByMark, Digest}
-- how a task is required: stamped by its whole output, by the hash of its output, or by its success alone
pub use Rattle.pie_model.specs.declared.words.How.{How}
pub use Rattle.pie_model.specs.declared.words.How.TheVariants.{Whole, Hashed, Ran}
-- what a task can fail by
pub use Rattle.pie_model.specs.declared.words.FaultKind.{FaultKind}
pub use Rattle.pie_model.specs.declared.words.FaultKind.TheVariants.{NotText, BadPath, BadWrite, WroteTwice, ReadThenWrite, Clash, Budget, Big, Overflow, Zero}
pub use Rattle.pie_model.specs.declared.words.FaultKind.TheVariants.{Null, Said, Range, BadList, Unknown}
-- what a running task is answered
pub use Rattle.pie_model.specs.declared.words.Answer.{Answer}
pub use Rattle.pie_model.specs.declared.words.Answer.TheVariants.{Flag, Contents, HashOf, Entries, Wrote, Output, Succeeded}
-- what a task does next
pub use Rattle.pie_model.specs.declared.words.Event.{Event}
pub use Rattle.pie_model.specs.declared.words.Event.TheVariants.{Done, Fail, LookAt, ListOf, Write, Require}

-- a task is the canonical bytes of its function and arguments, which also order tasks
abbrev pub Task : Type 0
Task = List ℕ

-- a value is its canonical bytes
abbrev pub Value : Type 0
Value = List ℕ
