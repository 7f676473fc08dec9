-- Whether a task may be entered, and what changes where it is.
use Rattle.std.specs.Prelude.{◌≡◌, ◌<◌, ◌≤◌, length, None}
use Rattle.std.specs.List.{Contains}
use Rattle.pie_value.specs.declared.task.Task.{Task}
use Rattle.pie_code.specs.declared.code.Code.{Code}
use Rattle.pie_digest.specs.Digests.{function_names}
use Rattle.pie_running.specs.inner.Coded.{HasFunction, IsCodeFor}
use Rattle.pie_topdown.specs.declared.builder.Builder.{Builder}
use Rattle.pie_topdown.specs.declared.entering.Entry.{Entry}
use Rattle.pie_topdown.specs.declared.entering.Entry.TheVariants.{May, Unknown, Full}
use Rattle.pie_topdown.specs.inner.Effects.{HasAdded}

-- a task of a function of the pipeline may be entered with this code
pub record MayBe (b : Builder) (t : Task) (code : Code) : Type 0 where
  pub few : length b.ledger.tables.names < 50000
  pub takes : length t.args ≡ code.params
  pub known : Contains (function_names b.plan.typed.now) t.func
  pub function : HasFunction b.plan.typed.now b.plan.code.now t code

-- what is answered
abbrev pub MayEnter : Builder → Task → Entry → Type 0
MayEnter b t (May code) = MayBe b t code.now
MayEnter b t Unknown = (length b.ledger.tables.names < 50000) × IsCodeFor b.plan.typed.now b.plan.code.now t None
MayEnter b t Full = 50000 ≤ length b.ledger.tables.names

-- one task more was entered, and nothing else changed
pub record HasEntered (old : Builder) (t : Task) (new : Builder) : Type 0 where
  pub added : HasAdded old.ledger t new.ledger
  pub rest : new ≡ record old { ledger = new.ledger }
