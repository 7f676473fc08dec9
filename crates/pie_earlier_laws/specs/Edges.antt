-- Which requires are union edges, and which paths a running task asks for.
use Rattle.std.specs.Prelude.{ℕ, suc, ◌≡◌, ◌⊎◌, Bool, true, Option, Some, List}
use Rattle.pie_model.specs.Paths.{Path, among}
use Rattle.pie_model.specs.Tasks.{Task}
use Rattle.pie_model.specs.declared.words.Look.{Look}
use Rattle.pie_model.specs.declared.words.How.{How}
use Rattle.pie_model.specs.declared.words.Event.TheVariants.{LookAt, ListOf, Require}
use Rattle.pie_model.specs.Trees.{trace_of}
use Rattle.pie_model.specs.Evaluation.{World, Project, evaluation}
use Rattle.pie_model.specs.Records.{Record, needs_of}
use Rattle.pie_model.specs.inner.RecordLaws.{Passes, HasItsRecord}
use Rattle.pie_model.specs.inner.Stack.{Frame}
use Rattle.pie_model.specs.Changes.{IsUnionEdge}
use Rattle.pie_model.specs.Reasons.{observed_paths}
use Rattle.pie_settle_laws.specs.Going.{IsGoing}

-- what a record requires that is the old one or that of the evaluation now is a union edge
abbrev pub RecordedRequiresAreUnionEdges : Type 0
RecordedRequiresAreUnionEdges =
    (w : World) (now : Project) (old_records R : Task → Option Record) (t : Task) (r : Record) (u : Task) → R t ≡ Some r
    → (R t ≡ old_records t) ⊎ HasItsRecord w now R t → among u (needs_of r.observations) ≡ true → IsUnionEdge w now old_records t u

-- and so is what a running task has required so far
abbrev pub AnsweredRequiresAreUnionEdges : Type 0
AnsweredRequiresAreUnionEdges =
    (w : World) (now : Project) (old_records R : Task → Option Record) (busy : Task → Bool) (base : Task) (fs : List Frame) (f : Frame) (u : Task)
    → IsGoing w now R (Passes busy) base fs f → among u (needs_of f.seen) ≡ true → IsUnionEdge w now old_records f.task u

-- and what it requires next
abbrev pub NextRequiresAreUnionEdges : Type 0
NextRequiresAreUnionEdges =
    (w : World) (now : Project) (old_records R : Task → Option Record) (busy : Task → Bool) (base : Task) (fs : List Frame) (f : Frame) (n : ℕ) (h : How)
    (u : Task) → IsGoing w now R (Passes busy) base fs f → f.left ≡ suc n → now.next f.task f.progress.answers ≡ Require h u
    → IsUnionEdge w now old_records f.task u

-- the path that a running task looks at next is one that its evaluation observes
abbrev pub NextLooksAreObserved : Type 0
NextLooksAreObserved =
    (w : World) (now : Project) (R : Task → Option Record) (busy : Task → Bool) (base : Task) (fs : List Frame) (f : Frame) (n : ℕ) (l : Look) (p : Path)
    → IsGoing w now R (Passes busy) base fs f → f.left ≡ suc n → now.next f.task f.progress.answers ≡ LookAt l p
    → among p (observed_paths (trace_of (evaluation w now f.task))) ≡ true

-- and so is the directory that it lists next
abbrev pub NextListingsAreObserved : Type 0
NextListingsAreObserved =
    (w : World) (now : Project) (R : Task → Option Record) (busy : Task → Bool) (base : Task) (fs : List Frame) (f : Frame) (n : ℕ) (d : Path)
    → IsGoing w now R (Passes busy) base fs f → f.left ≡ suc n → now.next f.task f.progress.answers ≡ ListOf d
    → among d (observed_paths (trace_of (evaluation w now f.task))) ≡ true
