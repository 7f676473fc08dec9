-- Which paths a clean build asks for, and its steps.
use Rattle.std.specs.Prelude.{◌≡◌, ℕ, true, List, [], ◌++◌, length, drop, Option, Some, All, Contains}
use Rattle.pie_base.specs.Path.{is_source}
use Rattle.pie_value.specs.declared.task.Task.{Task}
use Rattle.pie_value.specs.declared.event.Event.{Event}
use Rattle.pie_value.specs.declared.event.Event.TheVariants as events
use Rattle.pie_value.specs.Canonical.{enc_task}
use Rattle.pie_files.specs.Directory.{Directory}
use Rattle.pie_files.specs.declared.files.Call.{Call}
use Rattle.pie_named.specs.Asking.{AsksFor}
use Rattle.pie_types.specs.Whole.{number_from}
use Rattle.pie_model.specs.Paths.{among}
use Rattle.pie_model.specs.Trees.{trace_of}
use Rattle.pie_model.specs.Evaluation.{evaluation}
use Rattle.pie_model.specs.Reasons.{observed_paths}
use Rattle.pie_model_pipeline.specs.World.{world, project}
use Rattle.pie_running.specs.declared.frame.RunningTask.{RunningTask}
use Rattle.pie_fresh.specs.declared.builder.Builder.{Builder}
use Rattle.pie_fresh.specs.Cleans.{IsRootOf, RootsDone}
use Rattle.pie_fresh.specs.inner.Means.{Site, project_of, names_of, Means, IsResting}
use Rattle.pie_parser.specs.FunctionTrees.{FunctionTree}
use Rattle.pie_types.specs.inner.WholeRules.{IsTyped}
use Rattle.pie_code.specs.declared.code.Code.{Code}
use Rattle.pie_builder_laws.specs.Events.{AreCompiled}

-- ---- the whole build

-- a path is a source, and the evaluation now of one of these tasks observes it
pub record IsObservedBy (fs : List FunctionTree) (d : Directory) (tasks : List Task) (p : List ℕ) : Type 0 where
  pub task : Task
  pub one : Contains tasks task
  pub observed : among p (observed_paths (trace_of (evaluation world (project fs d) (enc_task task)))) ≡ true
  pub source : is_source p ≡ true

-- each call that came looks at a source that one of the tasks observes which were started after those before
pub record AsksForSeen (fs : List FunctionTree) (d : Directory) (before after : List Task) (asked asked_now : Option (List Call)) : Type 0 where
  pub started : List Task
  pub gained : after ≡ before ++ started
  pub asks : AsksFor (IsObservedBy fs d started) asked asked_now

-- so it is where the files hold a directory, the pipeline is typed and compiled and the roots are its tasks
abbrev pub AsksAs : Option Directory → List FunctionTree → List Code → List Task → List Task → List Task → Option (List Call) → Option (List Call) → Type 0
AsksAs held fs codes roots before after asked asked_now =
    (d : Directory) → held ≡ Some d → IsTyped fs → AreCompiled fs codes → All (IsRootOf fs) roots → AsksForSeen fs d before after asked asked_now

-- ---- its steps

-- an event asks for this path, where it is a source
abbrev pub IsAskedBy : Event → List ℕ → Type 0
IsAskedBy (events.Exists path) p = (p ≡ path) × (is_source path ≡ true)
IsAskedBy (events.Read path by) p = (p ≡ path) × (is_source path ≡ true)
IsAskedBy (events.Digest path) p = (p ≡ path) × (is_source path ≡ true)
IsAskedBy (events.List dir) p = (p ≡ dir) × (is_source dir ≡ true)
IsAskedBy (events.Write path bytes) p = ⊥
IsAskedBy (events.Require task how) p = ⊥
IsAskedBy (events.Done value) p = ⊥
IsAskedBy (events.Fail kind) p = ⊥

-- the evaluation of a task there observes a source
abbrev pub Observes : Site → Task → List ℕ → Type 0
Observes s t p = (among p (observed_paths (trace_of (evaluation world (project_of s) (enc_task t)))) ≡ true) × (is_source p ≡ true)

-- the running task asks only for what its evaluation observes
abbrev pub TurnsAsking : Option Directory → Builder → RunningTask → Option (List Call) → Option (List Call) → Type 0
TurnsAsking held b f asked asked_now =
    (s : Site) → held ≡ Some s.directory → Means s b f.code.now f.machine f.notes → AsksFor (Observes s f.notes.task) asked asked_now

-- these tasks, and those that were started since
abbrev pub with_started : List Task → List Task → List Task → List Task
with_started names before after = names ++ drop (length before) after

-- what was entered so far, or was started since, observes each path that is asked for, which is a source
abbrev pub AsksIn : Site → Builder → List Task → List Task → Option (List Call) → Option (List Call) → Type 0
AsksIn s b before after asked asked_now =
    AsksFor (IsObservedBy s.functions s.directory (with_started b.ledger.names before after)) asked asked_now

-- so it is with a root that goes on from here
abbrev pub RunsAsking : Option Directory → Builder → RunningTask → List Task → List Task → Option (List Call) → Option (List Call) → Type 0
RunsAsking held b f before after asked asked_now =
    (s : Site) → held ≡ Some s.directory → Means s b f.code.now f.machine f.notes → AsksIn s b before after asked asked_now

-- with one that begins
abbrev pub BeginsAsking : Option Directory → Builder → Task → List Task → List Task → Option (List Call) → Option (List Call) → Type 0
BeginsAsking held b root before after asked asked_now =
    (s : Site) (function : ℕ) → held ≡ Some s.directory → IsResting s b → number_from 0 s.functions root ≡ Some function → s.root ≡ enc_task root
    → s.base ≡ names_of b.ledger → AsksIn s b before after asked asked_now

-- and with roots one after another
abbrev pub EvaluatesAsking : Option Directory → Builder → List Task → List Task → List Task → Option (List Call) → Option (List Call) → Type 0
EvaluatesAsking held b roots before after asked asked_now =
    (s : Site) → held ≡ Some s.directory → RootsDone s b [] → All (IsRootOf s.functions) roots → AsksIn s b before after asked asked_now
