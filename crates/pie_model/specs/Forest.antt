-- The evaluations of the roots, the tasks that they enter, and the first outcome that is no value.
use Rattle.std.specs.Prelude.{Bool, true, false, Option, Some, None, List, [], ◌∷◌, map}
use Rattle.pie_model.specs.Tasks.{Task}
use Rattle.pie_model.specs.Trees.{Node, Outcome, outcome_of, is_done}
use Rattle.pie_model.specs.Evaluation.{World, Project, evaluation}
use Rattle.pie_model.specs.Running.{entered_all}

-- what follows an evaluation: the rest, if it ended with a value
abbrev pub only_if : Bool → List Node → List Node
only_if true rest = rest
only_if false rest = []

-- the evaluations of the roots, in order, up to and including the first that did not end with a value
abbrev pub forest : World → Project → List Task → List Node
forest w P [] = []
forest w P (r ∷ rs) = evaluation w P r ∷ only_if (is_done (outcome_of (evaluation w P r))) (forest w P rs)

-- the distinct tasks of a forest in the order in which they first come, a parent before its children
abbrev pub entered_tasks : World → Project → List Task → List Task
entered_tasks w P roots = entered_all (forest w P roots) []

-- the evaluations of the entered tasks
abbrev pub live_evaluations : World → Project → List Task → List Node
live_evaluations w P roots = map (evaluation w P) (entered_tasks w P roots)

-- an outcome, unless it is a value
abbrev pub unless_done : Bool → Outcome → Option Outcome → Option Outcome
unless_done true e rest = rest
unless_done false e rest = Some e

-- the first outcome of these evaluations that is no value
abbrev pub first_stop : List Node → Option Outcome
first_stop [] = None
first_stop (n ∷ ns) = unless_done (is_done (outcome_of n)) (outcome_of n) (first_stop ns)
