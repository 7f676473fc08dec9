-- What a live task wrote and found absent, by what the plain program kept of its evaluation.
use Rattle.std.proofs.Common.{ℕ, ◌≡◌, List, ◌++◌, map, sym, ◌∙◌, ap, ap₂}
use Rattle.pie_model.specs.Paths.{Path}
use Rattle.pie_model.specs.Tasks.{Task}
use Rattle.pie_model.specs.declared.words.Outcome.{Outcome}
use Rattle.pie_model.specs.Evaluation.{World, Project, evaluation}
use Rattle.pie_model.specs.Verdict.{written_by, missed_by}
use Rattle.pie_model.proofs.Ways.{task_of-evaluation}
use Rattle.pie_model_program.specs.Steps.{Row, IsEvaluated}

pub written_one : (w : World) (P : Project) (t : Task) (all : List Task) (e : Outcome) (r : Row) (slice : List (Path × List ℕ))
    (old new : List (Path × Task))
    → IsEvaluated (evaluation w P t) all e r → slice ≡ r.own → new ≡ old ++ map (λ x. (x.0, t)) slice → new ≡ old ++ written_by (evaluation w P t)
written_one w P t all e r slice old new s q h =
    h ∙ ap (λ z. old ++ z) (ap₂ (λ t ws. map (λ (x : Path × List ℕ). (x.0, t)) ws) (sym (task_of-evaluation w P t)) (q ∙ sym s.written))

pub missed_one : (w : World) (P : Project) (t : Task) (all : List Task) (e : Outcome) (r : Row) (slice : List Path) (old new : List (Path × Task))
    → IsEvaluated (evaluation w P t) all e r → slice ≡ r.absent → new ≡ old ++ map (λ p. (p, t)) slice → new ≡ old ++ missed_by (evaluation w P t)
missed_one w P t all e r slice old new s q h =
    h ∙ ap (λ z. old ++ z) (ap₂ (λ t ps. map (λ (p : Path). (p, t)) ps) (sym (task_of-evaluation w P t)) (q ∙ sym s.absent))
