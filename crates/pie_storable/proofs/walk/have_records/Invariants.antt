use Rattle.std.proofs.Common.{take}
use Rattle.std.specs.Prelude.{All}
use Rattle.pie_store.specs.Ranks.{Ranked}
use Rattle.pie_storable.specs.inner.Heights.{AreHeights, HasRank}
use Rattle.pie_storable.proofs.walk.have_records.Given as goal

abbrev pub invariant-loop-task : goal.invariant-loop-task
invariant-loop-task l = (rows : Ranked) → AreHeights rows l.heights → All (HasRank rows) (take l.task-index l.tasks)
