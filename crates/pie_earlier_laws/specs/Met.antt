-- The byte strings that are met, and the evaluations whose observations they are.
use Rattle.std.specs.Prelude.{ℕ, ◌⊎◌, List, [], ◌∷◌}
use Rattle.pie_model.specs.Tasks.{Task}
use Rattle.pie_model.specs.Trees.{Node, trace_of, StandsIn}
use Rattle.pie_model.specs.Evaluation.{World, Project, evaluation}
use Rattle.pie_model.specs.Forest.{forest}
use Rattle.pie_model.specs.Separate.{AllMet}
use Rattle.pie_model.specs.Changes.{IsBase, IsMet}

-- what an evaluation observes and writes is met, if it stands in the evaluation now of an old live task or of a present root
abbrev pub TriedEvaluationsAreMet : Type 0
TriedEvaluationsAreMet =
    (w : World) (old now : Project) (old_roots roots : List Task) (besides : List (List ℕ)) (base : Task) (m : Node)
    → IsBase w old old_roots roots base → StandsIn m (evaluation w now base) → AllMet w (IsMet w old now old_roots roots besides) (trace_of m)

-- an evaluation stands in one of these trees
abbrev pub StandsAmong : Node → List Node → Type 0
StandsAmong m [] = ⊥
StandsAmong m (n ∷ ns) = StandsIn m n ⊎ StandsAmong m ns

-- and so is what one does that stands in the old forest
abbrev pub OldEvaluationsAreMet : Type 0
OldEvaluationsAreMet =
    (w : World) (old now : Project) (old_roots roots : List Task) (besides : List (List ℕ)) (m : Node) → StandsAmong m (forest w old old_roots)
    → AllMet w (IsMet w old now old_roots roots besides) (trace_of m)
