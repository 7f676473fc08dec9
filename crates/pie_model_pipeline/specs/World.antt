-- The model of building over a pipeline: tasks are the canonical bytes of tasks of the language, and each means what its function means.
use Rattle.std.specs.Prelude.{ℕ, List, [], ◌∷◌, map, slice_get, Option, Some, None, Ok, Err}
use Rattle.sha2.specs.Sha256.{sha256}
use Rattle.pie_base.specs.declared.fault.FaultKind.TheVariants.{Unknown}
use Rattle.pie_value.specs.declared.event.Answer.{Answer}
use Rattle.pie_value.specs.declared.task.Task.{Task}
use Rattle.pie_value.specs.Tree.{Tree, TPath, TList, items_of}
use Rattle.pie_value.specs.Canonical.{enc}
use Rattle.pie_value.specs.Reading.{Parsed, task_prefix}
use Rattle.pie_operators.specs.Domain.{Outcome, fails}
use Rattle.pie_parser.specs.FunctionTrees.{FunctionTree}
use Rattle.pie_types.specs.Whole.{number_from}
use Rattle.pie_semantics.specs.Meaning.{next_of}
use Rattle.pie_files.specs.Directory.{Directory, file_at, entries_of}
use Rattle.pie_model.specs.declared.words.Answer.{Answer as ModelAnswer}
use Rattle.pie_model.specs.declared.words.Event.{Event as ModelEvent}
use Rattle.pie_model.specs.declared.words.Event.TheVariants as model
use Rattle.pie_model.specs.declared.words.FaultKind.TheVariants as model_faults
use Rattle.pie_model.specs.Evaluation.{World, Project}
use Rattle.pie_model_pipeline.specs.Words.{event_of}
use Rattle.pie_model_pipeline.specs.Answers.{answer_of}

-- the canonical bytes of a listing: those of the list of its paths
abbrev pub listing_bytes : List (List ℕ) → List ℕ
listing_bytes paths = enc (TList (items_of (map TPath paths)))

-- the hash and the limits of all builds; each effect costs a tick, so the last one is never met
unfoldable pub world : World
world = record { hash = sha256; listing_bytes = listing_bytes; most_bytes = 1048576; most_tasks = 50000; most_events = 1000001 }

-- the function with this number
abbrev pub function_at : List FunctionTree → Option ℕ → Option FunctionTree
function_at fs None = None
function_at fs (Some n) = slice_get fs n

-- what a task evaluates to, by its function; one without a function fails
abbrev pub outcome_by : Option FunctionTree → Task → List Answer → Outcome Tree
outcome_by None t answers = fails Unknown
outcome_by (Some f) t answers = (next_of f t.args answers).0

-- what a task of a pipeline gives with these answers: the function of its name, if that takes its arguments, decides
abbrev pub task_evaluates_to : List FunctionTree → Task → List Answer → Outcome Tree
task_evaluates_to fs t answers = outcome_by (function_at fs (number_from 0 fs t)) t answers

-- what bytes that were read as a task do next; bytes that are no task's fail
abbrev pub next_if_read : List FunctionTree → Parsed Task → List ModelAnswer → ModelEvent
next_if_read fs (Ok (t, [])) answers = event_of (task_evaluates_to fs t (map answer_of answers))
next_if_read fs (Ok (t, b ∷ rest)) answers = model.Fail model_faults.Unknown
next_if_read fs (Err e) answers = model.Fail model_faults.Unknown

-- what a task of the model does next
unfoldable pub next : List FunctionTree → List ℕ → List ModelAnswer → ModelEvent
next fs bytes answers = next_if_read fs (task_prefix bytes) answers

-- what a build of this pipeline over this directory starts from
abbrev pub project : List FunctionTree → Directory → Project
project fs d = record { next = next fs; file = file_at d; entries = entries_of d }
