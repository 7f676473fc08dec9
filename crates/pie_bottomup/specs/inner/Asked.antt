-- Which paths the steps of a build by what changed ask for.
use Rattle.std.specs.Prelude.{◌≡◌, ◌⊎◌, ℕ, true, List, Option, Some, slice_get}
use Rattle.std.specs.List.{list_any}
use Rattle.pie_base.specs.Path.{is_below, is_source}
use Rattle.pie_value.specs.declared.task.Task.{Task}
use Rattle.pie_value.specs.declared.event.Event.{Event}
use Rattle.pie_value.specs.declared.event.Event.TheVariants as events
use Rattle.pie_value.specs.Canonical.{enc_task}
use Rattle.pie_files.specs.declared.files.Call.{Call}
use Rattle.pie_graph.specs.Numbers.{IsMarked}
use Rattle.pie_named.specs.Asking.{AsksFor, IsNamedOrAbove}
use Rattle.pie_model.specs.Paths.{among}
use Rattle.pie_model.specs.Trees.{trace_of}
use Rattle.pie_model.specs.Evaluation.{evaluation}
use Rattle.pie_model.specs.Reasons.{observed_paths}
use Rattle.pie_model_pipeline.specs.World.{world}
use Rattle.pie_core_laws.specs.Update.{Update, present}
use Rattle.pie_bottomup.specs.declared.state.Core.{Core}
use Rattle.pie_bottomup.specs.declared.state.First.TheVariants.{Tests}
use Rattle.pie_bottomup.specs.declared.state.InHand.{InHand}
use Rattle.pie_bottomup.specs.inner.Exact.{IsExactCore}
use Rattle.pie_bottomup.specs.inner.Going.{IsBuildNow, IsWorking, StandsWhole}

-- ---- a running task

-- an event asks for this path; a listing of a directory that is no source asks for none
abbrev pub IsAskedBy : Event → List ℕ → Type 0
IsAskedBy (events.Exists path) p = p ≡ path
IsAskedBy (events.Read path by) p = p ≡ path
IsAskedBy (events.Digest path) p = p ≡ path
IsAskedBy (events.List dir) p = (p ≡ dir) × (is_source dir ≡ true)
IsAskedBy (events.Write path bytes) p = ⊥
IsAskedBy (events.Require task how) p = ⊥
IsAskedBy (events.Done value) p = ⊥
IsAskedBy (events.Fail kind) p = ⊥

-- the evaluation of a task now observes a path
abbrev pub Observes : Update → Task → List ℕ → Type 0
Observes u t p = among p (observed_paths (trace_of (evaluation world (present u) (enc_task t)))) ≡ true

-- what comes of the task in hand asks only for what its evaluation observes, whatever the update is
abbrev pub GoesAsking : Core → InHand → Option (List Call) → Option (List Call) → Type 0
GoesAsking c h before after =
    (u : Update) → IsBuildNow u c.plan → IsExactCore u c → IsWorking u c h.task → AsksFor (Observes u h.task.notes.task) before after

-- ---- a step

-- the first step may ask for a name or a directory above one
pub record IsTestedPath (c : Core) (p : List ℕ) : Type 0 where
  pub first : c.first ≡ Tests
  pub named : IsNamedOrAbove c.named p

-- a path is among the names of an update, or a directory above one
abbrev pub IsNamedIn : Update → List ℕ → Type 0
IsNamedIn u p = (among p u.names ≡ true) ⊎ (list_any (is_below p) u.names ≡ true)

-- so is it of the first step of a build
pub record IsTestedIn (u : Update) (c : Core) (p : List ℕ) : Type 0 where
  pub first : c.first ≡ Tests
  pub named : IsNamedIn u p

-- the task in hand was started in this build, and its evaluation now observes a path
pub record IsSeenInHand (u : Update) (c : Core) (p : List ℕ) : Type 0 where
  pub hand : InHand
  pub is : c.hand ≡ Some hand
  pub task : Task
  pub named : slice_get c.tables.names hand.no.0 ≡ Some task
  pub ran : IsMarked c.tables.ran.items hand.no.0
  pub observed : Observes u task p

-- a step asks only for what is named or above a name, in the first one, and then for what the task in hand observes
abbrev pub StepsAsking : Core → Option (List Call) → Option (List Call) → Type 0
StepsAsking old before after =
    (u : Update) → IsBuildNow u old.plan → StandsWhole u old → AsksFor (λ p. IsTestedIn u old p ⊎ IsSeenInHand u old p) before after
