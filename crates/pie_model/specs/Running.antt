-- A running task's observations and writes are the first ones of its evaluation.
use Rattle.std.specs.Prelude.{ℕ, suc, ◌≡◌, ◌++◌, false, List, [], ◌∷◌}
use Rattle.pie_model.specs.Paths.{among}
use Rattle.pie_model.specs.Tasks.{Task}
use Rattle.pie_model.specs.Trees.{Node, Trace, outcome_of, end_of, trace_of, writes_of, StandsIn, StandsBelow, entered, entered_below, enter}
use Rattle.pie_model.specs.Evaluation.{World, Project, Progress, follow, evaluation_with}
use Rattle.pie_model.specs.Records.{Observation, observations_of}

-- what a task does from here on, below these tasks, with at most so many events
abbrev pub rest_of_run : World → Project → ℕ → List Task → Task → ℕ → Progress → Trace
rest_of_run w P room above t n g = follow w P (evaluation_with room w P (t ∷ above)) t n g

-- the tasks entered once several trees have been gone through in order
abbrev pub entered_all : List Node → List Task → List Task
entered_all [] all = all
entered_all (n ∷ ns) all = entered_all ns (entered n all)

-- no task stands twice in a list
abbrev pub IsDistinct : List Task → Type 0
IsDistinct [] = Unit {0}
IsDistinct (t ∷ ts) = (among t ts ≡ false) × IsDistinct ts

-- a task that runs below these, with room for so many levels below it, has come this far, with these observations
pub record IsRunning (w : World) (P : Project) (room : ℕ) (above : List Task) (t : Task) (n : ℕ) (g : Progress) (seen : List Observation) : Type 0 where
  -- its evaluation's observations are these and then those of the rest
  pub observations : observations_of w (trace_of (evaluation_with (suc room) w P above t)) ≡ seen ++ observations_of w (rest_of_run w P room above t n g)
  -- its evaluation's writes are its own so far and then those of the rest
  pub written : writes_of (trace_of (evaluation_with (suc room) w P above t)) ≡ g.own ++ writes_of (rest_of_run w P room above t n g)
  -- its evaluation ends as the rest does
  pub end : outcome_of (evaluation_with (suc room) w P above t) ≡ end_of (rest_of_run w P room above t n g)
  -- what stands in the rest stands in its evaluation
  pub stands : (m : Node) → StandsBelow m (rest_of_run w P room above t n g) → StandsIn m (evaluation_with (suc room) w P above t)
  -- its evaluation enters itself, what it required so far and then what the rest enters
  pub enters : (all : List Task) → entered (evaluation_with (suc room) w P above t) all
      ≡ entered_below (rest_of_run w P room above t n g) (entered_all g.kids (enter t all))
