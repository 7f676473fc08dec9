-- Present records: which tasks they reach, and what they tell of a path.
use Rattle.std.specs.Prelude.{ℕ, ◌≡◌, true, Option, Some, List}
use Rattle.pie_model.specs.Paths.{Path, among}
use Rattle.pie_model.specs.Tasks.{Task}
use Rattle.pie_model.specs.Trees.{Node, StandsIn, task_of, trace_of, writes_of}
use Rattle.pie_model.specs.Seen.{first_write}
use Rattle.pie_model.specs.Evaluation.{World, Project, evaluation}
use Rattle.pie_model.specs.Records.{Record, hashed, needs_of}
use Rattle.pie_model.specs.StampNow.{Told, Untold, ToldHash, ToldClash}

-- a way by zero or more requires of the records, to a task
pub data Way (R : Task → Option Record) (to : Task) : Task → Type 0 where
  here : Way R to to
  along : {a b : Task} {r : Record} → R a ≡ Some r → among b (needs_of r.observations) ≡ true → Way R to b → Way R to a

-- a task reaches another by the records
abbrev pub Reaches : (Task → Option Record) → Task → Task → Type 0
Reaches R from to = Way R to from

-- by the records, a task that one of these reaches wrote contents of this hash at the path
pub record WroteByRecords (R : Task → Option Record) (us : List Task) (p : Path) (x : Task) (h : List ℕ) : Type 0 where
  pub from : Task
  pub listed : among from us ≡ true
  pub reaches : Reaches R from x
  pub found : Record
  pub recorded : R x ≡ Some found
  pub wrote : first_write p found.writes ≡ Some h

-- an evaluation of a task in the trees of these wrote contents of this hash at the path
pub record WroteInTrees (w : World) (P : Project) (us : List Task) (p : Path) (x : Task) (h : List ℕ) : Type 0 where
  pub from : Task
  pub listed : among from us ≡ true
  pub found : Node
  pub stands : StandsIn found (evaluation w P from)
  pub is : task_of found ≡ x
  pub wrote : first_write p (hashed w (writes_of (trace_of found))) ≡ Some h

-- exactly one task wrote, and contents of this hash
pub record OneWriter (W : Task → List ℕ → Type 0) (h : List ℕ) : Type 0 where
  pub writer : Task
  pub wrote : W writer h
  pub only : (y : Task) (k : List ℕ) → W y k → (y ≡ writer) × (k ≡ h)

-- two distinct tasks wrote
pub record TwoWriters (W : Task → List ℕ → Type 0) : Type 0 where
  pub first : Task
  pub second : Task
  pub first_hash : List ℕ
  pub second_hash : List ℕ
  pub first_wrote : W first first_hash
  pub second_wrote : W second second_hash
  pub distinct : first ≡ second → ⊥

-- what is told of the writers is so
abbrev pub IsTold : (Task → List ℕ → Type 0) → Told → Type 0
IsTold W Untold = (x : Task) (h : List ℕ) → W x h → ⊥
IsTold W (ToldHash h) = OneWriter W h
IsTold W ToldClash = TwoWriters W
