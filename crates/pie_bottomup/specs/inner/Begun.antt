-- What is said of a build by what changed when it begins, each as one record.
use Rattle.std.specs.Prelude.{◌≡◌, ℕ, List}
use Rattle.pie_value.specs.declared.task.Task.{Task}
use Rattle.pie_code.specs.declared.code.Code.{Code}
use Rattle.pie_parser.specs.FunctionTrees.{FunctionTree}
use Rattle.pie_record.specs.declared.task_record.TaskRecord.{TaskRecord}
use Rattle.pie_bottomup.specs.declared.state.Core.{Core}
use Rattle.pie_bottomup.specs.declared.state.First.TheVariants.{Done}
use Rattle.pie_bottomup.specs.inner.Loaded.{BeginsExact, BeginsMany, IsPastLimit}
use Rattle.pie_bottomup.specs.inner.Ran.{BeginsKnowing}
use Rattle.pie_bottomup.specs.inner.States.{IsPlanOf}

-- a build is of these functions, with this code, and of these digests and roots
pub record HasPlan (fs : List FunctionTree) (codes : List Code) (funcs : List (List ℕ × List ℕ)) (ts : List Task) (c : Core) : Type 0 where
  pub plan : IsPlanOf fs funcs ts c.plan
  pub code : c.plan.code.now ≡ codes

-- its first step isn't done; it begins with the old tasks of each update that has this store and these names, and what it knows of their code is right; and
-- where there are too many, it tells the first past the limit, which is an old task too, and none has run
pub record BeginsRight (funcs digests : List (List ℕ × List ℕ)) (kept : List TaskRecord) (changes : List (List ℕ)) (c : Core) : Type 0 where
  pub first : c.first ≡ Done → ⊥
  pub exact : BeginsExact funcs digests kept changes c
  pub knows : BeginsKnowing funcs digests kept changes c
  pub many : IsPastLimit kept c.first
  pub past : BeginsMany funcs digests kept changes c
