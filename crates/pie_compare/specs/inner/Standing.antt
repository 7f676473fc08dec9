-- When the record of a task stands: what it observed would have the stamps that were recorded, and what it wrote is there, as far as is known.
use Rattle.std.specs.Prelude.{◌≡◌, ℕ, Bool, true, false, cond, List, [], ◌∷◌, ◌++◌, Option, Some, None, All, is_some, slice_get}
use Rattle.sha2.specs.Sha256.{sha256}
use Rattle.pie_base.specs.Path.{same_text, is_out, is_source}
use Rattle.pie_value.specs.declared.stamp.Stamp.{Stamp}
use Rattle.pie_value.specs.declared.stamp.Stamp.TheVariants as stamps
use Rattle.pie_value.specs.declared.value.Value.{Value}
use Rattle.pie_value.specs.Values.{tree_of}
use Rattle.pie_value.specs.Canonical.{enc}
use Rattle.pie_graph.specs.Rows.{Row}
use Rattle.pie_record.specs.declared.dep.Dep.{Dep}
use Rattle.pie_record.specs.declared.dep.DepKind.{DepKind}
use Rattle.pie_record.specs.declared.dep.DepKind.TheVariants as kinds
use Rattle.pie_record.specs.declared.dep.DepOn.{DepOn}
use Rattle.pie_record.specs.declared.dep.DepOn.TheVariants.{File, Called}
use Rattle.pie_record.specs.declared.task_record.Outcome.{Outcome}
use Rattle.pie_record.specs.declared.task_record.Outcome.TheVariants.{Done, Failed, Cycled}
use Rattle.pie_record.specs.declared.task_record.TaskRecord.{TaskRecord}
use Rattle.pie_record.specs.Kinds.{calls}
use Rattle.pie_record.specs.inner.Records.{record_of}
use Rattle.pie_tables.specs.declared.tables.Tables.{Tables}
use Rattle.pie_named.specs.declared.named.Named.{Named}
use Rattle.pie_named.specs.inner.Known.{known_stamp, known_differs}
use Rattle.pie_view.specs.declared.seen.Seen.{Seen}
use Rattle.pie_view.specs.declared.seen.Seen.TheVariants.{Absent, By, Clash}
use Rattle.pie_view.specs.Seen.{IsOnly, Visible}

-- what a record is compared with: the records of others, the rows of the graph, what is known of the files, and the writes of the task itself
pub record Around : Type 0 where
  pub tables : Tables
  pub rows : List Row
  pub known : Named
  pub own : List (List ℕ × List ℕ)

-- ---- files under `out/`

-- the hash of the first write of a path
abbrev pub write_at : List (List ℕ × List ℕ) → List ℕ → Option (List ℕ)
write_at [] path = None
write_at (w ∷ writes) path = cond (same_text w.0 path) (Some w.1) (write_at writes path)

-- the hash that the record of a task has for a path
abbrev pub hash_in : Option TaskRecord → List ℕ → Option (List ℕ)
hash_in None path = None
hash_in (Some rec) path = write_at rec.writes path

-- whether an observation of this kind is of one file
abbrev pub is_of_file : DepKind → Bool
is_of_file kinds.Exists = true
is_of_file kinds.ReadHash = true
is_of_file kinds.ReadMark = true
is_of_file kinds.Digest = true
is_of_file kind = false

-- the stamp of a file under `out/` that has this hash, or isn't there
abbrev pub out_stamp : DepKind → Option (List ℕ) → Stamp
out_stamp kind None = stamps.Absent
out_stamp kinds.Exists (Some hash) = stamps.Present
out_stamp kind (Some hash) = stamps.Hash hash

-- this is the stamp of what is seen: of the file that the one task wrote first, or of no file; with files of two tasks there is none
abbrev pub SeenStands : Tables → DepKind → List ℕ → Stamp → Seen → Type 0
SeenStands t kind path stamp Absent = stamp ≡ out_stamp kind None
SeenStands t kind path stamp (By one) = stamp ≡ out_stamp kind (hash_in (record_of t.records one.0) path)
SeenStands t kind path stamp Clash = ⊥

-- this is the stamp of what the tasks that were required so far wrote there, or that these require
abbrev pub OthersStand : Around → List ℕ → DepKind → List ℕ → Stamp → Type 0
OthersStand a required kind path stamp = (seen : Seen) × IsOnly (Visible a.rows required path) seen × SeenStands a.tables kind path stamp seen

-- an observation of a path under `out/` stands: it is of one file, and that is the task's own first write there, or what others wrote
pub record OutStands (a : Around) (required : List ℕ) (kind : DepKind) (path : List ℕ) (stamp : Stamp) : Type 0 where
  pub file : is_of_file kind ≡ true
  pub own : (hash : List ℕ) → write_at a.own path ≡ Some hash → stamp ≡ out_stamp kind (Some hash)
  pub others : write_at a.own path ≡ None → OthersStand a required kind path stamp

-- an observation outside `out/` stands: of a source nothing else is known, and at a reserved path nothing is there
pub record SourceStands (n : Named) (kind : DepKind) (path : List ℕ) (stamp : Stamp) : Type 0 where
  pub source : is_source path ≡ true → known_differs (known_stamp n kind path) stamp ≡ false
  pub reserved : is_source path ≡ false → stamp ≡ stamps.Absent

-- an observation of a path stands
pub record FileStands (a : Around) (required : List ℕ) (kind : DepKind) (path : List ℕ) (stamp : Stamp) : Type 0 where
  pub looks : calls kind ≡ false
  pub out : is_out path ≡ true → OutStands a required kind path stamp
  pub other : is_out path ≡ false → SourceStands a.known kind path stamp

-- ---- required tasks

-- an output, if a task gave one
abbrev pub output_of : Outcome → Option Value
output_of (Done value) = Some value
output_of (Failed fault) = None
output_of (Cycled tasks) = None

-- the output in a record
abbrev pub output_in : Option TaskRecord → Option Value
output_in None = None
output_in (Some rec) = output_of rec.outcome

-- the stamp of a required task that gave this output
abbrev pub output_stamp : DepKind → Value → Option Stamp
output_stamp kinds.Require v = Some (stamps.Whole v)
output_stamp kinds.RequireHash v = Some (stamps.Hash (sha256 (enc (tree_of v))))
output_stamp kinds.Run v = Some stamps.Done
output_stamp kind v = None

-- the stamp of a required task, if it gave an output
abbrev pub called_stamp : DepKind → Option Value → Option Stamp
called_stamp kind None = None
called_stamp kind (Some v) = output_stamp kind v

-- the task is that with this number, and has this stamp
pub record CalledStands (t : Tables) (k : ℕ) (kind : DepKind) (stamp : Stamp) : Type 0 where
  pub stamped : called_stamp kind (output_in (record_of t.records k)) ≡ Some stamp

-- ---- records

-- an observation stands where these tasks were required before it, and after it these are
abbrev pub OnStands : Around → List ℕ → DepKind → DepOn → Stamp → List ℕ → Type 0
OnStands a required kind (File path) stamp after = FileStands a required kind path stamp × (after ≡ required)
OnStands a required kind (Called task) stamp after =
    (k : ℕ) × (slice_get a.tables.names k ≡ Some task) × CalledStands a.tables k kind stamp × (after ≡ required ++ k ∷ [])

abbrev pub DepStands : Around → List ℕ → Dep → List ℕ → Type 0
DepStands a required dep after = OnStands a required dep.kind dep.what dep.stamp after

-- each of these observations stands after those before it
abbrev pub DepsStand : Around → List ℕ → List Dep → Type 0
DepsStand a required [] = Unit {0}
DepsStand a required (dep ∷ deps) = (after : List ℕ) × DepStands a required dep after × DepsStand a after deps

-- at a written path nothing else is known than what was written
abbrev pub WriteStands : Named → List ℕ × List ℕ → Type 0
WriteStands n w = known_differs (known_stamp n kinds.ReadHash w.0) (stamps.Hash w.1) ≡ false

-- a record stands: the task gave an output, and its observations and its writes stand
pub record Stands (t : Tables) (rows : List Row) (n : Named) (rec : TaskRecord) : Type 0 where
  pub output : is_some (output_of rec.outcome) ≡ true
  pub deps : DepsStand (record { tables = t; rows = rows; known = n; own = rec.writes }) [] rec.deps
  pub writes : All (WriteStands n) rec.writes

-- a task has a record, and it stands
abbrev pub RecordStands : Tables → List Row → Named → ℕ → Type 0
RecordStands t rows n task = (rec : TaskRecord) × (record_of t.records task ≡ Some rec) × Stands t rows n rec

-- an answer on one observation: it stands exactly where it can, and these are the required tasks after it
pub record Tells (P : List ℕ → Type 0) (stands : Bool) (after : List ℕ) : Type 0 where
  pub only : stands ≡ true → P after
  pub each : (other : List ℕ) → P other → (stands ≡ true) × (other ≡ after)
