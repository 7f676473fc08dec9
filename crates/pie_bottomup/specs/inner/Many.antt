-- A build that begins with too many old tasks.
use Rattle.std.specs.Prelude.{◌≡◌, List}
use Rattle.pie_store.specs.declared.cause.Cause.TheVariants.{UnionMany}
use Rattle.pie_value.specs.declared.task.Task.{Task}
use Rattle.pie_bottomup.specs.declared.state.Core.{Core}
use Rattle.pie_bottomup.specs.declared.state.First.TheVariants.{TooMany}
use Rattle.pie_bottomup.specs.declared.state.Turn.{Turn}
use Rattle.pie_bottomup.specs.declared.state.Turn.TheVariants.{StartAfresh}

-- its first step starts afresh for that
abbrev pub StopsForMany : Core → Turn → Type 0
StopsForMany c t = (task : Task) → c.first ≡ TooMany task → t ≡ StartAfresh (UnionMany 50000 0 task)

-- and starts no task
abbrev pub StartsNoneForMany : Core → List Task → List Task → Type 0
StartsNoneForMany c before after = (task : Task) → c.first ≡ TooMany task → after ≡ before
