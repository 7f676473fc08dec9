-- What tasks of a pipeline never do.
use Rattle.std.specs.Prelude.{ℕ, List}
use Rattle.pie_parser.specs.FunctionTrees.{FunctionTree}
use Rattle.pie_model.specs.Separate.{NeverWritesWhatItSaw}
use Rattle.pie_model_pipeline.specs.World.{next}

-- no task of any pipeline writes a path that it has looked at
abbrev pub TasksHaveManners : Type 0
TasksHaveManners = (fs : List FunctionTree) (t : List ℕ) → NeverWritesWhatItSaw (next fs t)
