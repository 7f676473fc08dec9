-- Each task that a clean build of a typed pipeline enters, and each that one of its tasks requires, is a task of one of its functions.
use Rattle.std.specs.Prelude.{ℕ, ◌≡◌, true, List, ◌∷◌, ◌++◌, map, All, Some}
use Rattle.pie_value.specs.declared.task.Task.{Task}
use Rattle.pie_value.specs.declared.value.Value.{Value}
use Rattle.pie_value.specs.Values.{tree_of}
use Rattle.pie_value.specs.Limits.{is_small_task}
use Rattle.pie_value.specs.Canonical.{enc_task, IsCanonical, IsCanonicalTask}
use Rattle.pie_parser.specs.FunctionTrees.{FunctionTree}
use Rattle.pie_types.specs.Whole.{number_from}
use Rattle.pie_types.specs.inner.WholeRules.{IsTyped}
use Rattle.pie_files.specs.Directory.{Directory}
use Rattle.pie_model.specs.declared.words.Outcome.TheVariants.{Ended}
use Rattle.pie_model.specs.Paths.{among}
use Rattle.pie_model.specs.Trees.{trace_of, outcome_of, HasTask, required_by}
use Rattle.pie_model.specs.Evaluation.{evaluation}
use Rattle.pie_model_pipeline.specs.World.{world, project}
use Rattle.pie_entering_laws.specs.Entering.{IsTaskOf, Enters}

-- a root: a task of a function of the pipeline, with arguments that this takes, within the limits
pub record IsRoot (fs : List FunctionTree) (t : Task) : Type 0 where
  pub number : ℕ
  pub found : number_from 0 fs t ≡ Some number
  pub small : is_small_task t ≡ true

-- bytes are those of a task of the language; if its evaluation ends with a value, that is one of the language too
pub record IsSpoken (fs : List FunctionTree) (d : Directory) (x : List ℕ) : Type 0 where
  pub task : Task
  pub canonical : IsCanonicalTask task x
  pub gives : (b : List ℕ) → outcome_of (evaluation world (project fs d) x) ≡ Ended b → (v : Value) × IsCanonical (tree_of v) b

-- where a pipeline is typed, the roots are its tasks, and the tasks that a clean build enters are those of the language with their values, each is of
-- one of its functions
abbrev pub EnteredTasksAreKnown : Type 0
EnteredTasksAreKnown =
    (fs : List FunctionTree) (d : Directory) (roots : List Task) → IsTyped fs → All (IsRoot fs) roots
    → ((x : List ℕ) → Enters fs d roots x → IsSpoken fs d x) → (x : List ℕ) → Enters fs d roots x → IsTaskOf fs x

-- a task is of one of these functions, with arguments that it takes
abbrev pub HasFunction : List FunctionTree → Task → Type 0
HasFunction fs t = (number : ℕ) × (number_from 0 fs t ≡ Some number)

-- all that stands in an evaluation is of the language
abbrev pub SpeaksWhole : List FunctionTree → Directory → List ℕ → Type 0
SpeaksWhole fs d x = (y : List ℕ) → HasTask y (evaluation world (project fs d) x) → IsSpoken fs d y

-- where a pipeline is typed, what a task of one of its functions requires, behind tasks in whose evaluations all is of the language, is of one of them too
abbrev pub RequiredTasksHaveFunctions : Type 0
RequiredTasksHaveFunctions =
    (fs : List FunctionTree) (d : Directory) (t v : Task) (before after : List (List ℕ)) → IsTyped fs → IsCanonicalTask t (enc_task t)
    → IsCanonicalTask v (enc_task v) → HasFunction fs t
    → required_by (trace_of (evaluation world (project fs d) (enc_task t))) ≡ before ++ enc_task v ∷ after
    → ((x : List ℕ) → among x before ≡ true → SpeaksWhole fs d x) → HasFunction fs v

-- and so is a task with the bytes of one of its roots
abbrev pub RootsHaveFunctions : Type 0
RootsHaveFunctions =
    (fs : List FunctionTree) (roots : List Task) (t : Task) → IsTyped fs → All (IsRoot fs) roots → IsCanonicalTask t (enc_task t)
    → among (enc_task t) (map enc_task roots) ≡ true → HasFunction fs t
