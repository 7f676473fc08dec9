-- What a builder notes of a look, and what it tells the task, are the observation and the answer of the model.
use Rattle.std.specs.Prelude.{◌≡◌, ℕ, Bool, true, false, cond, not, ◌&&◌, List, map, Option, Some, None}
use Rattle.sha2.specs.Sha256.{sha256}
use Rattle.pie_base.specs.Path.{is_out, is_source}
use Rattle.pie_value.specs.declared.event.Answer.{Answer}
use Rattle.pie_value.specs.declared.event.Answer.TheVariants as answers
use Rattle.pie_value.specs.declared.event.By.{By}
use Rattle.pie_value.specs.declared.event.By.TheVariants as stamped
use Rattle.pie_value.specs.declared.stamp.Stamp.{Stamp}
use Rattle.pie_value.specs.declared.stamp.Stamp.TheVariants as stamps
use Rattle.pie_value.specs.declared.value.Value.{Value}
use Rattle.pie_value.specs.Tree.{TPath, TList, items_of}
use Rattle.pie_value.specs.Values.{tree_of}
use Rattle.pie_value.specs.Canonical.{enc}
use Rattle.pie_value.specs.Limits.{is_small}
use Rattle.pie_stamp.specs.declared.observed.Observed.TheVariants.{Output as SeenOutput}
use Rattle.pie_stamp.specs.Stamps.{StampsHash}
use Rattle.pie_record.specs.declared.dep.Dep.{Dep}
use Rattle.pie_record.specs.declared.dep.DepKind.{DepKind}
use Rattle.pie_record.specs.declared.dep.DepKind.TheVariants as kinds
use Rattle.pie_record.specs.declared.dep.DepOn.TheVariants.{File}
use Rattle.pie_parser.specs.FunctionTrees.{FunctionTree}
use Rattle.pie_files.specs.Directory.{Directory, entries_of}
use Rattle.pie_model.specs.declared.words.Look.{Look}
use Rattle.pie_model.specs.declared.words.Look.TheVariants as looks
use Rattle.pie_model.specs.declared.words.Answer.{Answer as ModelAnswer}
use Rattle.pie_model.specs.declared.words.Answer.TheVariants.{Entries}
use Rattle.pie_model.specs.Seen.{seen_file}
use Rattle.pie_model.specs.Evaluation.{absent_answer, present_answer, listing}
use Rattle.pie_model.specs.Records.{Hash, Looked, Listed, observed, look_stamp}
use Rattle.pie_model_pipeline.specs.Words.{look_by}
use Rattle.pie_model_pipeline.specs.Answers.{answer_of}
use Rattle.pie_model_pipeline.specs.Rows.{observation_of}
use Rattle.pie_model_pipeline.specs.World.{world, project}

-- a file that is seen: its bytes and its mark, or none
abbrev pub Sight : Type 0
Sight = Option (List ℕ × ℕ)

-- the observation of a path
abbrev pub of_path : DepKind → List ℕ → Stamp → Dep
of_path kind path stamp = record { kind = kind; what = File path; stamp = stamp }

-- ---- what a builder notes, and what it tells the task

-- whether a file is there
abbrev pub presence_stamp : Sight → Stamp
presence_stamp None = stamps.Absent
presence_stamp (Some f) = stamps.Present

abbrev pub presence_answer : Sight → Answer
presence_answer None = answers.Flag false
presence_answer (Some f) = answers.Flag true

-- the kind of an observation of a file's bytes
abbrev pub reading_kind : By → DepKind
reading_kind stamped.Hash = kinds.ReadHash
reading_kind stamped.Raw = kinds.ReadHash
reading_kind stamped.Mark = kinds.ReadMark

-- whether a file is read by its mark
abbrev pub is_by_mark : By → Bool
is_by_mark stamped.Hash = false
is_by_mark stamped.Raw = false
is_by_mark stamped.Mark = true

-- the bytes of a file: by mark and not under `out/` the mark, and else their hash
abbrev pub reading_stamp : By → List ℕ → Sight → Stamp
reading_stamp by path None = stamps.Absent
reading_stamp by path (Some f) = cond (is_by_mark by && not (is_out path)) (stamps.Mark f.1) (stamps.Hash (sha256 f.0))

abbrev pub reading_answer : Sight → Answer
reading_answer None = answers.Bytes None
reading_answer (Some f) = answers.Bytes (Some f.0)

-- the hash of a file
abbrev pub digest_stamp : Sight → Stamp
digest_stamp None = stamps.Absent
digest_stamp (Some f) = stamps.Hash (sha256 f.0)

abbrev pub digest_answer : Sight → Answer
digest_answer None = answers.Digest None
digest_answer (Some f) = answers.Digest (Some (sha256 f.0))

-- ---- the laws

-- the answer of the model to a look that finds this
abbrev pub look_answer : Look → Sight → ModelAnswer
look_answer l None = absent_answer l
look_answer l (Some f) = present_answer world f.0 l

-- an observation and an answer are those of the model's look at a path where this is seen
pub record IsLook (l : Look) (path : List ℕ) (seen : Sight) (d : Dep) (a : Answer) : Type 0 where
  pub observation : observation_of d ≡ observed (Looked l path) (look_stamp world l path (seen_file seen))
  pub answer : a ≡ answer_of (look_answer l seen)

-- where a path is neither a source nor under `out/`, nothing is seen
abbrev pub IsSightAt : List ℕ → Sight → Type 0
IsSightAt path seen = is_out path ≡ false → is_source path ≡ false → seen ≡ None

-- whether a file is there
abbrev pub PresencesAreTheModels : Type 0
PresencesAreTheModels =
    (path : List ℕ) (seen : Sight) → IsLook looks.Exists path seen (of_path kinds.Exists path (presence_stamp seen)) (presence_answer seen)

-- the bytes of a file
abbrev pub ReadingsAreTheModels : Type 0
ReadingsAreTheModels =
    (by : By) (path : List ℕ) (seen : Sight) → IsSightAt path seen
    → IsLook (look_by by) path seen (of_path (reading_kind by) path (reading_stamp by path seen)) (reading_answer seen)

-- the hash of a file
abbrev pub DigestsAreTheModels : Type 0
DigestsAreTheModels =
    (path : List ℕ) (seen : Sight) → IsLook looks.Digest path seen (of_path kinds.Digest path (digest_stamp seen)) (digest_answer seen)

-- a stamp by hash of a value is the hash of its canonical bytes
abbrev pub HashesAreOfBytes : Type 0
HashesAreOfBytes = (v : Value) (stamp : Stamp) → StampsHash (SeenOutput v) stamp → stamp ≡ stamps.Hash (sha256 (enc (tree_of v)))

-- the observation of the entries of a directory, and what the task is told
pub record IsListing (dir : List ℕ) (entries : List (List ℕ)) (d : Dep) (a : Answer) : Type 0 where
  pub observation : observation_of d ≡ observed (Listed dir) (Hash (world.hash (world.listing_bytes entries)))
  pub answer : a ≡ answer_of (Entries entries)

-- entries are noted by the hash of the list of their paths
abbrev pub ListingsAreTheModels : Type 0
ListingsAreTheModels =
    (dir : List ℕ) (entries : List (List ℕ))
    → IsListing dir entries (of_path kinds.List dir (stamps.Hash (sha256 (enc (TList (items_of (map TPath entries))))))) (answers.Entries (map TPath entries))

-- and are too many in the model where that list is past the limits
abbrev pub ListingsHaveTheLimit : Type 0
ListingsHaveTheLimit =
    (fs : List FunctionTree) (d : Directory) (dir : List ℕ) → listing world (project fs d) dir
    ≡ cond (is_small (TList (items_of (map TPath (entries_of d dir))))) (Some (entries_of d dir)) None
