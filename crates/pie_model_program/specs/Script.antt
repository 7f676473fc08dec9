-- A project whose tasks make fixed events, whatever they are answered.
use Rattle.std.specs.Prelude.{ℕ, cond, eqb, Option, Some, None, List, [], ◌∷◌, length, bytes_eq}
use Rattle.pie_model.specs.Paths.{Path}
use Rattle.pie_model.specs.Tasks.{Task}
use Rattle.pie_model.specs.declared.words.Event.{Event}
use Rattle.pie_model.specs.declared.words.Event.TheVariants.{Fail}
use Rattle.pie_model.specs.declared.words.FaultKind.TheVariants.{Unknown}
use Rattle.pie_model.specs.Evaluation.{World, Project}
use Rattle.pie_model_program.specs.declared.script.Line.{Line}
use Rattle.pie_model_program.specs.declared.script.Script.{Script}

-- the event of a task when it has had so many answers; a task that is not there, or has no more events, fails
abbrev pub event_in : List Line → Task → ℕ → Event
event_in [] t n = Fail Unknown
event_in (x ∷ xs) t n = cond (bytes_eq t x.task) (cond (eqb n x.answers) x.event (event_in xs t n)) (event_in xs t n)

-- the file at a path
abbrev pub file_in : List (Path × List ℕ) → Path → Option (List ℕ × ℕ)
file_in [] p = None
file_in (x ∷ xs) p = cond (bytes_eq p x.0) (Some (x.1, 0)) (file_in xs p)

-- contents are their own hash, no directory has an entry, and the limits are given
abbrev pub world_of : Script → World
world_of s = record { hash = λ b. b; listing_bytes = λ es. []; most_bytes = 0; most_tasks = s.most_tasks; most_events = s.most_events }

-- what a build starts from
abbrev pub project_of : Script → Project
project_of s = record { next = λ t answers. event_in s.lines.items t (length answers); file = file_in s.files.items; entries = λ d. [] }
