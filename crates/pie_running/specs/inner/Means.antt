-- A task that runs or waits, by its code, its machine and its notes, is a task that runs or waits in the model.
use Rattle.std.specs.Prelude.{◌≡◌, ℕ, suc, List, [], ◌∷◌, map, length, Some, slice_get}
use Rattle.pie_value.specs.declared.task.Task.{Task}
use Rattle.pie_value.specs.declared.event.Event.TheVariants as events
use Rattle.pie_value.specs.Canonical.{enc_task, IsCanonicalTask}
use Rattle.pie_operators.specs.Domain.{wants}
use Rattle.pie_code.specs.declared.code.Code.{Code}
use Rattle.pie_vm.specs.Machines.{Standing, Follows}
use Rattle.pie_view.specs.Content.{Staged, content}
use Rattle.pie_parser.specs.FunctionTrees.{FunctionTree}
use Rattle.pie_types.specs.Headings.{Heading}
use Rattle.pie_types.specs.Whole.{number_from}
use Rattle.pie_model.specs.declared.words.Event.TheVariants.{Require}
use Rattle.pie_model.specs.Seen.{first_write}
use Rattle.pie_model.specs.Records.{hashed}
use Rattle.pie_model.specs.inner.Stack.{Frame as ModelFrame}
use Rattle.pie_model_pipeline.specs.Words.{how_of}
use Rattle.pie_model_pipeline.specs.Answers.{answer_of}
use Rattle.pie_model_pipeline.specs.Rows.{observation_of}
use Rattle.pie_model_pipeline.specs.World.{world, next}
use Rattle.pie_builder_laws.specs.Names.{called_in}
use Rattle.pie_builder_laws.specs.Views.{AreNumbersOf}
use Rattle.pie_builder_laws.specs.Fits.{Fit}
use Rattle.pie_running.specs.declared.frame.Caller.{Caller}
use Rattle.pie_running.specs.inner.Noted.{Noted}
use Rattle.pie_running.specs.inner.Told.{EvaluatedTo}

-- a task that has come so far, by its code, its machine and its notes, is this one of the model, which may make so many events more;
-- the tasks of the build have these names by their numbers, and have staged these contents
pub record MeansFrame (fs : List FunctionTree) (hs : List Heading) (codes : List Code) (names : List Task) (stage : Staged) (code : Code) (m : Standing)
    (n : Noted) (events : ℕ) (g : ModelFrame) : Type 0 where
  pub task : g.task ≡ enc_task n.task
  pub named : slice_get names n.number ≡ Some n.task
  pub function : ℕ
  pub found : number_from 0 fs n.task ≡ Some function
  pub coded : slice_get codes function ≡ Some code
  pub takes : length n.task.args ≡ code.params
  pub follows : Follows code n.task.args (map answer_of g.progress.answers) m
  pub fits : Fit fs hs n.task (map answer_of g.progress.answers)
  pub seen : map observation_of n.deps ≡ g.seen
  pub writes : n.writes ≡ hashed world g.progress.own
  pub needs : AreNumbersOf names n.needs (called_in n.deps)
  pub staged : (p : List ℕ) → content stage n.number p ≡ first_write p g.progress.own
  pub left : g.left ≡ events

-- a task that waits is this one of the model, and waits for the same task
pub record MeansCaller (fs : List FunctionTree) (hs : List Heading) (codes : List Code) (names : List Task) (stage : Staged) (g : ModelFrame)
    (c : Caller) : Type 0 where
  pub left : ℕ
  pub is_left : c.waiting.notes.left ≡ suc left
  pub frame : MeansFrame fs hs codes names stage c.waiting.code.now c.waiting.machine c.waiting.notes left g
  pub waits : next fs g.task g.progress.answers ≡ Require (how_of c.how) (enc_task c.required)
  pub canonical : IsCanonicalTask c.required (enc_task c.required)
  pub came : EvaluatedTo c.waiting.code.now c.waiting.notes.task.args (map answer_of g.progress.answers) (wants (events.Require c.required c.how))

-- and so for all, the newest first
abbrev pub MeanCallers : List FunctionTree → List Heading → List Code → List Task → Staged → List ModelFrame → List Caller → Type 0
MeanCallers fs hs codes names stage [] [] = Unit {0}
MeanCallers fs hs codes names stage (g ∷ gs) (c ∷ cs) = MeansCaller fs hs codes names stage g c × MeanCallers fs hs codes names stage gs cs
MeanCallers fs hs codes names stage [] (c ∷ cs) = ⊥
MeanCallers fs hs codes names stage (g ∷ gs) [] = ⊥
