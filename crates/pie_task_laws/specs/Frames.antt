-- A task that runs or waits, by its code, its machine and its notes, is a frame of the model. Nothing is said of the types of what it was told.
use Rattle.std.specs.Prelude.{◌≡◌, ℕ, suc, List, [], ◌∷◌, map, length, Some, slice_get}
use Rattle.pie_value.specs.Canonical.{enc_task, IsCanonicalTask}
use Rattle.pie_code.specs.declared.code.Code.{Code}
use Rattle.pie_vm.specs.Machines.{Standing, Follows}
use Rattle.pie_view.specs.Content.{content}
use Rattle.pie_types.specs.Whole.{number_from}
use Rattle.pie_model.specs.declared.words.Event.TheVariants.{Require}
use Rattle.pie_model.specs.Seen.{first_write}
use Rattle.pie_model.specs.Records.{hashed}
use Rattle.pie_model.specs.inner.Stack.{Frame}
use Rattle.pie_model_pipeline.specs.Words.{how_of}
use Rattle.pie_model_pipeline.specs.Answers.{answer_of}
use Rattle.pie_model_pipeline.specs.Rows.{observation_of}
use Rattle.pie_model_pipeline.specs.World.{world, next}
use Rattle.pie_builder_laws.specs.Names.{called_in}
use Rattle.pie_builder_laws.specs.Views.{AreNumbersOf}
use Rattle.pie_running.specs.declared.frame.Caller.{Caller}
use Rattle.pie_running.specs.inner.Noted.{Noted}
use Rattle.pie_task_laws.specs.Sites.{Site, Build}

-- a task that has come so far is this frame, which may make so many events more
pub record IsFrame (x : Site) (b : Build) (code : Code) (m : Standing) (n : Noted) (events : ℕ) (g : Frame) : Type 0 where
  pub task : g.task ≡ enc_task n.task
  pub named : slice_get b.names n.number ≡ Some n.task
  pub function : ℕ
  pub found : number_from 0 x.update.functions n.task ≡ Some function
  pub coded : slice_get x.codes function ≡ Some code
  pub takes : length n.task.args ≡ code.params
  pub follows : Follows code n.task.args (map answer_of g.progress.answers) m
  pub seen : map observation_of n.deps ≡ g.seen
  pub writes : n.writes ≡ hashed world g.progress.own
  pub needs : AreNumbersOf b.names n.needs (called_in n.deps)
  pub staged : (p : List ℕ) → content b.stage n.number p ≡ first_write p g.progress.own
  pub left : g.left ≡ events

-- a task that waits is this frame, set aside, and waits for the same task
pub record IsCaller (x : Site) (b : Build) (g : Frame) (c : Caller) : Type 0 where
  pub left : ℕ
  pub is_left : c.waiting.notes.left ≡ suc left
  pub frame : IsFrame x b c.waiting.code.now c.waiting.machine c.waiting.notes left g
  pub waits : next x.update.functions g.task g.progress.answers ≡ Require (how_of c.how) (enc_task c.required)
  pub canonical : IsCanonicalTask c.required (enc_task c.required)

-- and so are all
abbrev pub AreCallers : Site → Build → List Frame → List Caller → Type 0
AreCallers x b [] [] = Unit {0}
AreCallers x b (g ∷ gs) (c ∷ cs) = IsCaller x b g c × AreCallers x b gs cs
AreCallers x b [] (c ∷ cs) = ⊥
AreCallers x b (g ∷ gs) [] = ⊥
