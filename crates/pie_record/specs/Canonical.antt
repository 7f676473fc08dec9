-- The canonical bytes of records.
use Rattle.std.specs.Prelude.{◌≡◌, ℕ, ◌<◌, ◌^◌, List, [], ◌∷◌, ◌++◌, length, IsTrue, All}
use Rattle.std.specs.Int.{w64, to_be_bytes}
use Rattle.std.specs.Str.{IsUtf8}
use Rattle.pie_base.specs.Path.{is_path, is_out}
use Rattle.pie_value.specs.declared.task.Task.{Task}
use Rattle.pie_value.specs.declared.stamp.Stamp.{Stamp}
use Rattle.pie_value.specs.declared.stamp.Stamp.TheVariants.{Absent, Present, Hash, Mark, Whole, Done}
use Rattle.pie_value.specs.Tree.{items_of}
use Rattle.pie_value.specs.Values.{tree_of}
use Rattle.pie_value.specs.Canonical.{be32, counted, enc, enc_task, IsEncodable, IsEncodableTask, HasTrueLeaves, HaveTrueLeaves}
use Rattle.pie_record.specs.declared.dep.Dep.{Dep}
use Rattle.pie_record.specs.declared.dep.DepOn.{DepOn}
use Rattle.pie_record.specs.declared.dep.DepOn.TheVariants.{File, Called}
use Rattle.pie_record.specs.declared.task_record.Outcome.{Outcome}
use Rattle.pie_record.specs.declared.task_record.Outcome.TheVariants.{Done as Gave, Failed, Cycled}
use Rattle.pie_record.specs.declared.task_record.TaskRecord.{TaskRecord}
use Rattle.pie_record.specs.Kinds.{kind_byte, tag_byte, tag_of, allows}
use Rattle.std.specs.List.{flat_map}

-- the bytes of what was observed: a path behind its length, or a task
abbrev pub enc_on : DepOn → List ℕ
enc_on (File path) = counted path
enc_on (Called task) = enc_task task

-- a number in eight bytes, the highest first
unfoldable pub be64 : ℕ → List ℕ
be64 n = to_be_bytes w64 n

-- what follows the tag of a stamp
abbrev pub contents : Stamp → List ℕ
contents Absent = []
contents Present = []
contents (Hash hash) = hash
contents (Mark mark) = be64 mark
contents (Whole value) = enc (tree_of value)
contents Done = []

-- the bytes of a stamp: its tag, and what it holds
abbrev pub enc_stamp : Stamp → List ℕ
enc_stamp stamp = tag_byte (tag_of stamp) ∷ contents stamp

-- the bytes of an observation: its kind, what was observed, the stamp
unfoldable pub enc_dep : Dep → List ℕ
enc_dep d = kind_byte d.kind ∷ (enc_on d.what ++ enc_stamp d.stamp)

-- the bytes of a write: the path behind its length, and the hash
unfoldable pub enc_write : List ℕ × List ℕ → List ℕ
enc_write w = counted w.0 ++ w.1

-- some things behind their number
abbrev pub listed : {A : Type 0} → (A → List ℕ) → List A → List ℕ
listed bytes xs = be32 (length xs) ++ flat_map bytes xs

-- the bytes of an output; an outcome without one has none
abbrev pub enc_outcome : Outcome → List ℕ
enc_outcome (Gave value) = enc (tree_of value)
enc_outcome (Failed fault) = []
enc_outcome (Cycled tasks) = []

-- the bytes of a record: the task, the observations, the writes, the output
abbrev pub enc_record : TaskRecord → List ℕ
enc_record r = enc_task r.task ++ (listed enc_dep r.deps ++ (listed enc_write r.writes ++ enc_outcome r.outcome))

-- a task that was observed has canonical bytes
abbrev pub IsStorableOn : DepOn → Type 0
IsStorableOn (File path) = Unit {0}
IsStorableOn (Called task) = IsEncodableTask task

-- an output in a stamp has canonical bytes
abbrev pub IsStorableStamp : Stamp → Type 0
IsStorableStamp Absent = Unit {0}
IsStorableStamp Present = Unit {0}
IsStorableStamp (Hash hash) = Unit {0}
IsStorableStamp (Mark mark) = Unit {0}
IsStorableStamp (Whole value) = IsEncodable (tree_of value)
IsStorableStamp Done = Unit {0}

-- an observation that can be stored: its stamp is one that its kind allows
pub record IsStorableDep (d : Dep) : Type 0 where
  pub allowed : IsTrue (allows d.kind d.what (tag_of d.stamp))
  pub what : IsStorableOn d.what
  pub stamp : IsStorableStamp d.stamp

-- a written path lies under `out/`
abbrev pub IsStorableWrite : List ℕ × List ℕ → Type 0
IsStorableWrite w = IsTrue (is_out w.0)

-- an outcome that can be stored: an output that has canonical bytes
abbrev pub IsStorableOutcome : Outcome → Type 0
IsStorableOutcome (Gave value) = IsEncodable (tree_of value)
IsStorableOutcome (Failed fault) = ⊥
IsStorableOutcome (Cycled tasks) = ⊥

-- a record that has canonical bytes: an output, and observations and writes as they may stand
pub record IsStorable (r : TaskRecord) : Type 0 where
  pub task : IsEncodableTask r.task
  pub few_deps : length r.deps < 2 ^ 32
  pub deps : All IsStorableDep r.deps
  pub few_writes : length r.writes < 2 ^ 32
  pub writes : All IsStorableWrite r.writes
  pub outcome : IsStorableOutcome r.outcome

-- the name of a task is UTF-8, and its arguments are values
abbrev pub IsTrueTask : Task → Type 0
IsTrueTask t = IsUtf8 t.func × HaveTrueLeaves (items_of t.args)

-- a path in UTF-8
abbrev pub IsTruePath : List ℕ → Type 0
IsTruePath path = IsUtf8 path × IsTrue (is_path path)

-- what was observed is a path or a task
abbrev pub IsTrueOn : DepOn → Type 0
IsTrueOn (File path) = IsTruePath path
IsTrueOn (Called task) = IsTrueTask task

-- a hash has 32 bytes, a mark has 64 bits, an output is a value
abbrev pub IsTrueStamp : Stamp → Type 0
IsTrueStamp Absent = Unit {0}
IsTrueStamp Present = Unit {0}
IsTrueStamp (Hash hash) = length hash ≡ 32
IsTrueStamp (Mark mark) = mark < 2 ^ 64
IsTrueStamp (Whole value) = HasTrueLeaves (tree_of value)
IsTrueStamp Done = Unit {0}

-- an observation of the program: what every one there is by its types
abbrev pub IsTrueDep : Dep → Type 0
IsTrueDep d = IsTrueOn d.what × IsTrueStamp d.stamp

-- a write of the program: a path, and a SHA-256 of 32 bytes
abbrev pub IsTrueWrite : List ℕ × List ℕ → Type 0
IsTrueWrite w = IsTruePath w.0 × (length w.1 ≡ 32)

-- an outcome of the program: what every one there is by its types
abbrev pub IsTrueOutcome : Outcome → Type 0
IsTrueOutcome (Gave value) = HasTrueLeaves (tree_of value)
IsTrueOutcome (Failed fault) = Unit {0}
IsTrueOutcome (Cycled tasks) = Unit {0}

-- a record of the program: what every record there is by its types
pub record IsTrueRecord (r : TaskRecord) : Type 0 where
  pub task : IsTrueTask r.task
  pub deps : All IsTrueDep r.deps
  pub writes : All IsTrueWrite r.writes
  pub outcome : IsTrueOutcome r.outcome

-- these bytes are the canonical bytes of this record
pub record IsCanonicalRecord (r : TaskRecord) (bs : List ℕ) : Type 0 where
  pub storable : IsStorable r
  pub parts : IsTrueRecord r
  pub bytes : bs ≡ enc_record r
