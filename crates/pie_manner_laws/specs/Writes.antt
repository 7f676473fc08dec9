-- No task of a pipeline writes a path twice.
use Rattle.std.specs.Prelude.{ℕ, ◌≡◌, true, List, [], ◌∷◌, ◌++◌}
use Rattle.pie_parser.specs.FunctionTrees.{FunctionTree}
use Rattle.pie_model.specs.Paths.{Path, among}
use Rattle.pie_model.specs.declared.words.Answer.{Answer}
use Rattle.pie_model.specs.declared.words.Event.{Event}
use Rattle.pie_model.specs.declared.words.Event.TheVariants.{Done, Fail, LookAt, ListOf, Write, Require}
use Rattle.pie_model_pipeline.specs.World.{next}

-- the path that an event writes
abbrev pub path_written : Event → List Path
path_written (Done v) = []
path_written (Fail k) = []
path_written (LookAt l p) = []
path_written (ListOf d) = []
path_written (Write p b) = p ∷ []
path_written (Require h u) = []

-- the paths that a task wrote while it was given these further answers
abbrev pub written_paths : (List Answer → Event) → List Answer → List Answer → List Path
written_paths next fed [] = []
written_paths next fed (a ∷ rest) = path_written (next fed) ++ written_paths next (fed ++ a ∷ []) rest

-- a task never writes a path twice
abbrev pub NeverWritesTwice : (List Answer → Event) → Type 0
NeverWritesTwice next =
    (answers : List Answer) (p : Path) (b : List ℕ) → next answers ≡ Write p b → among p (written_paths next [] answers) ≡ true → ⊥

-- nor does any task of a pipeline
abbrev pub TasksWriteOnce : Type 0
TasksWriteOnce = (fs : List FunctionTree) (t : List ℕ) → NeverWritesTwice (next fs t)
