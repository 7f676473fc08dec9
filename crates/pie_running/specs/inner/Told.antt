-- What a machine gives, and what a task is told.
use Rattle.std.specs.Prelude.{◌≡◌, ◌==◌, ◌⊎◌, ℕ, ◌<◌, Bool, true, false, cond, List, [], ◌∷◌, ◌++◌, map, Option, Some, None}
use Rattle.sha2.specs.Sha256.{sha256}
use Rattle.pie_base.specs.declared.fault.FaultKind.{FaultKind}
use Rattle.pie_base.specs.declared.fault.FaultKind.TheVariants as faults
use Rattle.pie_value.specs.declared.event.Answer.{Answer}
use Rattle.pie_value.specs.declared.event.Answer.TheVariants as answers
use Rattle.pie_value.specs.declared.event.By.{By}
use Rattle.pie_value.specs.declared.stamp.Stamp.{Stamp}
use Rattle.pie_value.specs.declared.stamp.Stamp.TheVariants as stamps
use Rattle.pie_value.specs.Tree.{Tree, TPath, TList, items_of}
use Rattle.pie_value.specs.Values.{tree_of}
use Rattle.pie_value.specs.Canonical.{enc}
use Rattle.pie_value.specs.Limits.{is_small}
use Rattle.pie_operators.specs.Domain.{Outcome, done, fails, wants, State}
use Rattle.pie_code.specs.declared.code.Code.{Code}
use Rattle.pie_code.specs.Coming.{CodeNext}
use Rattle.pie_vm.specs.Machines.{Follows}
use Rattle.pie_record.specs.declared.dep.Dep.{Dep}
use Rattle.pie_record.specs.declared.dep.DepKind.TheVariants as kinds
use Rattle.pie_view.specs.Content.{Staged, content, Puts}
use Rattle.pie_builder_laws.specs.Looks.{reading_stamp, reading_answer}
use Rattle.pie_running.specs.declared.frame.RunningTask.{RunningTask}
use Rattle.pie_running.specs.declared.frame.Waiting.{Waiting}
use Rattle.pie_running.specs.declared.frame.Paused.{Paused}
use Rattle.pie_running.specs.declared.frame.Paused.TheVariants.{Asks, Ends, Fails as Stops}
use Rattle.pie_running.specs.declared.frame.Told.{Told}
use Rattle.pie_running.specs.declared.frame.Told.TheVariants.{Goes, Fails}
use Rattle.pie_running.specs.declared.looking.Sight.{Sight}
use Rattle.pie_running.specs.declared.looking.Sight.TheVariants.{File, Long, Clash as Clashes}
use Rattle.pie_running.specs.inner.Noted.{Noted, absent_dep, file_dep, read_kind, observed, wrote}
use Rattle.pie_running.specs.inner.Sights.{found_in}

-- ---- what a machine gives

-- with these answers the code evaluates to this
pub record EvaluatedTo (code : Code) (args : List Tree) (answers : List Answer) (o : Outcome Tree) : Type 0 where
  pub state : State
  pub is : CodeNext code args answers (o, state)

-- a machine that was stopped had no answer left, or its code gave a fault
abbrev pub StopsFor : Code → Noted → List Answer → FaultKind → Type 0
StopsFor code old answers k = ((old.left ≡ 0) × (k ≡ faults.Budget)) ⊎ ((0 < old.left) × EvaluatedTo code old.task.args answers (fails k))

-- what a machine gave is what its code evaluates to, with the answers so far
abbrev pub ComesAs : Code → Noted → List Answer → Paused → Type 0
ComesAs code old answers (Asks w e) = (w.code.now ≡ code) × Follows code old.task.args answers w.machine × EvaluatedTo code old.task.args answers (wants e)
ComesAs code old answers (Ends n v) = (0 < old.left) × EvaluatedTo code old.task.args answers (done (tree_of v))
ComesAs code old answers (Stops n k) = (n ≡ old) × StopsFor code old answers k

-- ---- what a task is told

-- a task goes on with one more answer, and has these notes
pub record IsTold (w : Waiting) (f : RunningTask) (n : Noted) (a : Answer) : Type 0 where
  pub code : f.code.now ≡ w.code.now
  pub notes : f.notes ≡ n
  pub follows : (args : List Tree) (given : List Answer) → Follows w.code.now args given w.machine → Follows w.code.now args (given ++ a ∷ []) f.machine

-- a task fails with these notes for this fault
abbrev pub HasFailed : Noted → FaultKind → Told → Type 0
HasFailed n k (Goes f) = ⊥
HasFailed n k (Fails m j) = (m ≡ n) × (j ≡ k)

-- a task is told this, with this observation; and it fails for a clash where there is none, with the other observation
abbrev pub IsToldOrFails : Waiting → Dep → Option (Dep × Answer) → Told → Type 0
IsToldOrFails w missed (Some x) (Goes f) = IsTold w f (observed x.0 w.notes) x.1
IsToldOrFails w missed (Some x) (Fails n k) = ⊥
IsToldOrFails w missed None t = HasFailed (observed missed w.notes) faults.Clash t

-- the stamp by presence
abbrev pub flag_stamp : Bool → Stamp
flag_stamp true = stamps.Present
flag_stamp false = stamps.Absent

-- the stamp by hash
abbrev pub hash_stamp : Option (List ℕ) → Stamp
hash_stamp None = stamps.Absent
hash_stamp (Some hash) = stamps.Hash hash

-- what is noted and told of a file: whether it is there, its bytes, their hash
abbrev pub told_flag : List ℕ → Bool → Dep × Answer
told_flag path b = (file_dep kinds.Exists path (flag_stamp b), answers.Flag b)

abbrev pub told_reading : By → List ℕ → Option (List ℕ × ℕ) → Dep × Answer
told_reading by path seen = (file_dep (read_kind by) path (reading_stamp by path seen), reading_answer seen)

abbrev pub told_hash : List ℕ → Option (List ℕ) → Dep × Answer
told_hash path hash = (file_dep kinds.Digest path (hash_stamp hash), answers.Digest hash)

-- the fault of a task that was told more bytes than a value may hold; where that was the last answer it may have, it fails for having no more
abbrev pub too_much : ℕ → FaultKind
too_much left = cond (left == 1) faults.Budget faults.Big

-- a task is told the bytes of a file, or fails for a clash or for too many bytes, of which it noted the stamp
abbrev pub IsToldReading : Waiting → By → List ℕ → Sight → Told → Type 0
IsToldReading w by path (File found) t = IsToldOrFails w (absent_dep (read_kind by) path) (Some (told_reading by path (found_in found))) t
IsToldReading w by path (Long stamp) t = HasFailed (observed (file_dep (read_kind by) path stamp) w.notes) (too_much w.notes.left) t
IsToldReading w by path Clashes t = IsToldOrFails w (absent_dep (read_kind by) path) None t

-- the list of the paths of a listing
abbrev pub paths_list : List (List ℕ) → Tree
paths_list paths = TList (items_of (map TPath paths))

-- what is noted of the entries of a directory
abbrev pub listed_dep : List ℕ → List (List ℕ) → Dep
listed_dep dir paths = file_dep kinds.List dir (stamps.Hash (sha256 (enc (paths_list paths))))

-- a task is told the entries of a directory, where their list is within the limits
abbrev pub IsToldSmall : Bool → Waiting → List ℕ → List (List ℕ) → Told → Type 0
IsToldSmall true w dir paths (Goes f) = IsTold w f (observed (listed_dep dir paths) w.notes) (answers.Entries (map TPath paths))
IsToldSmall true w dir paths (Fails n k) = ⊥
IsToldSmall false w dir paths t = HasFailed (observed (absent_dep kinds.List dir) w.notes) faults.Big t

abbrev pub IsToldEntries : Waiting → List ℕ → List (List ℕ) → Told → Type 0
IsToldEntries w dir paths t = IsToldSmall (is_small (paths_list paths)) w dir paths t

-- a task is told the entries of a source directory
abbrev pub IsToldList : Waiting → List ℕ → Option (List (List ℕ)) → Told → Type 0
IsToldList w dir (Some paths) t = IsToldEntries w dir paths t
IsToldList w dir None t = HasFailed w.notes faults.BadList t

-- ---- writes

-- a content is staged where none was, and else all stays
abbrev pub StagesFirst : Option (List ℕ) → Staged → Staged → ℕ → List ℕ → List ℕ → Type 0
StagesFirst (Some old_bytes) old new task path bytes = new ≡ old
StagesFirst None old new task path bytes = Puts old new task path bytes

abbrev pub KeepsFirst : Staged → Staged → ℕ → List ℕ → List ℕ → Type 0
KeepsFirst old new task path bytes = StagesFirst (content old task path) old new task path bytes

-- a task is told that it wrote, where the path is under `out/`: its content is staged and noted
abbrev pub IsToldWrite : Bool → Waiting → Staged → Staged → List ℕ → List ℕ → Told → Type 0
IsToldWrite true w old new path bytes (Goes f) =
    KeepsFirst old new w.notes.number path bytes × IsTold w f (wrote path (sha256 bytes) w.notes) answers.Wrote
IsToldWrite true w old new path bytes (Fails n k) = ⊥
IsToldWrite false w old new path bytes t = (new ≡ old) × HasFailed w.notes faults.BadWrite t
