-- What an exact build makes.
use Rattle.std.specs.Prelude.{◌≡◌, map}
use Rattle.pie_value.specs.declared.verdict.Verdict.TheVariants.{Accepted}
use Rattle.pie_value.specs.Canonical.{enc_task}
use Rattle.pie_checks.specs.declared.built.Built.{Built}
use Rattle.pie_model.specs.Verdict.{verdict}
use Rattle.pie_model_pipeline.specs.Rows.{verdict_of}
use Rattle.pie_model_pipeline.specs.World.{world}
use Rattle.pie_core_laws.specs.Update.{Update, present}
use Rattle.pie_core_laws.specs.Keeping.{Separates}
use Rattle.pie_result_laws.specs.Accepted.{HasClean, HasProvided}
use Rattle.pie_bottomup.specs.declared.state.Core.{Core}
use Rattle.pie_bottomup.specs.inner.Exact.{IsExactCore}

-- what a clean build makes of these roots: its verdict, and where that accepts the records, the outputs and the files,
-- but for those of tasks that didn't run
pub record MakesClean (u : Update) (c : Core) (b : Built) : Type 0 where
  pub verdict : verdict_of b.verdict ≡ verdict world (present u) (map enc_task c.plan.roots.items)
  pub clean : b.verdict ≡ Accepted → HasClean u c.plan.roots.items b
  pub files : b.verdict ≡ Accepted → HasProvided u c.tables c.frames.walk c.plan.roots.items b

-- so it is with an exact build, whatever the update is
abbrev pub MadeExact : Core → Built → Type 0
MadeExact c b = (u : Update) → IsExactCore u c → Separates u → MakesClean u c b
