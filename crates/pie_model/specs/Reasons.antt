-- Why a task runs, which old records stand, and which paths a build may ask for.
use Rattle.std.specs.Prelude.{ℕ, ◌≡◌, ◌⊎◌, true, Option, Some, None, List, [], ◌∷◌, ◌++◌, codes}
use Rattle.pie_model.specs.Paths.{Path, among, after_prefix}
use Rattle.pie_model.specs.Tasks.{Task}
use Rattle.pie_model.specs.Trees.{Trace, ends, looks, lists, writes, needs, Ended, trace_of}
use Rattle.pie_model.specs.Evaluation.{World, Project, evaluation}
use Rattle.pie_model.specs.Records.{Record, Observation}
use Rattle.pie_model.specs.StampNow.{Teller, by_evaluation, stamp_now, asked_before, RecordAgrees}
use Rattle.pie_model.specs.Built.{Directory, bytes_at, store_path, open_path, pending_path}

-- at some place a recorded stamp is not the one that its query would get now
abbrev pub Differs : World → Project → Teller → List (Path × List ℕ) → List Task → List Observation → Type 0
Differs w P by own before [] = ⊥
Differs w P by own before (o ∷ os) =
    (stamp_now w P by own before o.query ≡ Some o.stamp → ⊥) ⊎ Differs w P by own (asked_before before o.query) os

-- some file that a record wrote is not there with the contents of its hash
abbrev pub WriteIsMissing : World → Directory → List (Path × List ℕ) → Type 0
WriteIsMissing w now [] = ⊥
WriteIsMissing w now (x ∷ xs) = ((b : List ℕ) → bytes_at now x.0 ≡ Some b → w.hash b ≡ x.1 → ⊥) ⊎ WriteIsMissing w now xs

-- the digest of a task's function is kept, and is the one now
abbrev pub SameCode : Option (List ℕ) → Option (List ℕ) → Type 0
SameCode before now = (d : List ℕ) × (before ≡ Some d) × (now ≡ Some d)

-- a reason to run a task, given its old record, the kept digest of its function and the one now, and the directory:
-- it is new; its code differs; a stamp differs; a file that it provided does
pub data RunReason (w : World) (now : Project) (directory : Directory) (old : Option Record) (kept digest : Option (List ℕ)) : Type 0 where
  is_new : old ≡ None → RunReason w now directory old kept digest
  code : (SameCode kept digest → ⊥) → RunReason w now directory old kept digest
  stamp : (r : Record) → old ≡ Some r → Differs w now (by_evaluation w now) r.writes [] r.observations → RunReason w now directory old kept digest
  provided : (r : Record) → old ≡ Some r → WriteIsMissing w directory r.writes → RunReason w now directory old kept digest

-- a record stands by evaluation: it ended with a value, the digest is the present one, and each stamp is the one now
pub record StandsNow (w : World) (now : Project) (r : Record) (kept digest : Option (List ℕ)) : Type 0 where
  pub value : List ℕ
  pub done : r.outcome ≡ Ended value
  pub code : SameCode kept digest
  pub agrees : RecordAgrees w now (by_evaluation w now) r

-- the paths that a trace observed
abbrev pub observed_paths : Trace → List Path
observed_paths (ends e) = []
observed_paths (looks l p s k) = p ∷ observed_paths k
observed_paths (lists d es k) = d ∷ observed_paths k
observed_paths (writes p b k) = observed_paths k
observed_paths (needs h u n k) = observed_paths k

-- the files that say what the project is, and the builder's own
abbrev pub project_files : List Path
project_files = codes "pie.pipeline" ∷ codes "pie.roots" ∷ store_path ∷ open_path ∷ pending_path ∷ []

-- a path that a build may ask for, given the names of what changed and the tasks that ran
pub data MayAsk (w : World) (now : Project) (names : List Path) (ran : List Task) (p : Path) : Type 0 where
  project_file : among p project_files ≡ true → MayAsk w now names ran p
  changed : among p names ≡ true → MayAsk w now names ran p
  above : (q : Path) (rest : List ℕ) → among q names ≡ true → after_prefix (p ++ 47 ∷ []) q ≡ Some rest → MayAsk w now names ran p
  by_run : (t : Task) → among t ran ≡ true → among p (observed_paths (trace_of (evaluation w now t))) ≡ true → MayAsk w now names ran p
