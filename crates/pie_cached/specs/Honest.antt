-- When the record cache is honest, and what must be separate for a cache of true entries to be so.
use Rattle.std.specs.Prelude.{◌≡◌, ◌⊎◌, ℕ, ◌<◌, ◌≤◌, ◌^◌, true, List, [], ◌∷◌, ◌++◌, length, map, All, Contains, Option, Some, None, Ok, codes}
use Rattle.std.specs.List.{flat_map}
use Rattle.sha2.specs.Sha256.{sha256}
use Rattle.pie_build.specs.Left.{IsProjectOf}
use Rattle.pie_files.specs.Directory.{Directory, file_at}
use Rattle.pie_incremental.specs.Earlier.{function_spelling, Earlier}
use Rattle.pie_lexer.specs.Tokens.{Lexes}
use Rattle.pie_lexer.specs.declared.token.Token.{Token}
use Rattle.pie_model.specs.Changes.{IsMet}
use Rattle.pie_model.specs.Evaluation.{Project, evaluation}
use Rattle.pie_model.specs.Records.{record_of as model_record}
use Rattle.pie_model.specs.Separate.{AllMet, NeverWritesWhatItSaw, StampsSeparate}
use Rattle.pie_model.specs.Trees.{outcome_of, trace_of, writes_of, is_done}
use Rattle.pie_model_pipeline.specs.Rows.{record_of}
use Rattle.pie_model_pipeline.specs.World.{world, next, project}
use Rattle.pie_parser.specs.FunctionTrees.{FunctionTree}
use Rattle.pie_project.specs.Looking.{file_bytes, pipeline_path}
use Rattle.pie_record.specs.Canonical.{enc_record}
use Rattle.pie_record.specs.declared.task_record.TaskRecord.{TaskRecord}
use Rattle.pie_store.specs.Texts.{IsRow}
use Rattle.pie_topdown_build.specs.Records.{IsOfEvaluation}
use Rattle.pie_value.specs.Canonical.{counted, enc_task}
use Rattle.pie_value.specs.declared.task.Task.{Task}
use Rattle.pie_cached.specs.Kept.{cache_file}

-- ---- the files of the cache

-- an entry: the record of a task, and the bytes of each of its writes
abbrev pub Entry : Type 0
Entry = TaskRecord × List (List ℕ)

-- the bytes of an entry: its record, and each content behind its length
abbrev pub entry_bytes : Entry → List ℕ
entry_bytes e = enc_record e.0 ++ flat_map counted e.1

-- the bytes of a file of entries but its digest: `PIEC`, the version, the number of entries, the entries
abbrev pub entries_bytes : List Entry → List ℕ
entries_bytes es = codes "PIEC" ++ (1 ∷ (length es ∷ flat_map entry_bytes es))

-- one content for each write, with the recorded hash, and short enough for its length to fit
abbrev pub HaveHashes : List (List ℕ × List ℕ) → List (List ℕ) → Type 0
HaveHashes [] [] = Unit {0}
HaveHashes [] (c ∷ contents) = ⊥
HaveHashes (w ∷ writes) [] = ⊥
HaveHashes (w ∷ writes) (c ∷ contents) = (sha256 c ≡ w.1) × (length c < 2 ^ 32) × HaveHashes writes contents

-- a record with canonical bytes, and the contents of its writes
abbrev pub IsWholeEntry : Entry → Type 0
IsWholeEntry e = IsRow e.0 × HaveHashes e.0.writes e.1

-- these bytes are a file of these entries, of which there are one to four
pub record IsFileOf (es : List Entry) (bytes : List ℕ) : Type 0 where
  pub some : 1 ≤ length es
  pub few : length es ≤ 4
  pub each : All IsWholeEntry es
  pub is : bytes ≡ entries_bytes es ++ sha256 (entries_bytes es)

-- there is no file, or one that is too long to be read, or one of entries
abbrev pub IsOfEntries : Option (List ℕ × ℕ) → Type 0
IsOfEntries None = Unit {0}
IsOfEntries (Some f) = (16777216 < length f.0) ⊎ ((es : List Entry) × IsFileOf es f.0)

-- so it is at the path of each cache file
abbrev pub AreOfEntries : Directory → Type 0
AreOfEntries d = (t : Task) (digest : List ℕ) → IsOfEntries (file_at d (cache_file t digest))

-- ---- honest entries

-- what is met by an earlier build and by one of these functions and roots in a directory, these strings among it
abbrev pub IsMetBy : Earlier → List (List ℕ) → Directory → List FunctionTree → List Task → List ℕ → Type 0
IsMetBy e strings d fs roots =
    IsMet world (project e.found.functions e.built) (project fs d) (map enc_task e.roots) (map enc_task roots) strings

-- an entry has the record of its task's evaluation in some project, which ended with a value and means the same by these functions, and what that wrote; what
-- that met is met, and where its sources and those of the directory have one mark, they have one content
pub record IsHonestEntry (Met : List ℕ → Type 0) (d : Directory) (fs : List FunctionTree) (entry : Entry) : Type 0 where
  pub before : Project
  pub was : record_of entry.0 ≡ model_record world (evaluation world before (enc_task entry.0.task))
  pub done : is_done (outcome_of (evaluation world before (enc_task entry.0.task))) ≡ true
  pub meaning : before.next (enc_task entry.0.task) ≡ next fs (enc_task entry.0.task)
  pub polite : NeverWritesWhatItSaw (before.next (enc_task entry.0.task))
  pub met : AllMet world Met (trace_of (evaluation world before (enc_task entry.0.task)))
  pub apart : StampsSeparate world before (project fs d) Met
  pub wrote : map (λ (w : List ℕ × List ℕ). w.1) (writes_of (trace_of (evaluation world before (enc_task entry.0.task)))) ≡ entry.1

-- so is an entry that is looked at for a task, if its record is of that task: others are passed over
abbrev pub IsHonestFor : (List ℕ → Type 0) → Directory → List FunctionTree → Task → Entry → Type 0
IsHonestFor Met d fs t entry = entry.0.task ≡ t → IsHonestEntry Met d fs entry

-- bytes that are no file of entries are passed over too
pub record IsNoFile (bytes : List ℕ) : Type 0 where
  pub fit : All (λ b. b < 256) bytes
  pub none : (es : List Entry) → ¬ (IsFileOf es bytes)

-- there is no file, or one that is too long to be read, or one that is none of entries, or one of honest entries
abbrev pub AreHonestIn : (Entry → Type 0) → Option (List ℕ × ℕ) → Type 0
AreHonestIn honest None = Unit {0}
AreHonestIn honest (Some f) = (16777216 < length f.0) ⊎ (IsNoFile f.0 ⊎ ((es : List Entry) × IsFileOf es f.0 × All honest es))

-- so is each file of the cache that is looked at for a task by the digest of its function now, where these strings are met by the functions and roots of a
-- project
pub record IsHonestCache (Met : List FunctionTree → List Task → List ℕ → Type 0) (d : Directory) : Type 0 where
  pub each : (funcs : List (List ℕ × List ℕ)) (roots : List Task) (found : IsProjectOf d funcs roots) (t : Task) (digest : List ℕ)
      → Contains funcs (t.func, digest) → AreHonestIn (IsHonestFor (Met found.functions roots) d found.functions t) (file_at d (cache_file t digest))

-- ---- entries of evaluations

-- an entry at a path of the cache is of its task's evaluation by the project of one of these directories, and the path is that of the task by the digest that
-- its function has there
pub record IsTrueEntry (seen : List Directory) (path : List ℕ) (entry : Entry) : Type 0 where
  pub built : Directory
  pub among : Contains seen built
  pub funcs : List (List ℕ × List ℕ)
  pub roots : List Task
  pub found : IsProjectOf built funcs roots
  pub digest : List ℕ
  pub listed : Contains funcs (entry.0.task.func, digest)
  pub is : path ≡ cache_file entry.0.task digest
  pub evaluated : IsOfEvaluation found.functions built entry

-- so are all entries of the cache: at the path of each cache file there is no file, or one that is too long to be read, or one that is none of entries, or one
-- of such entries
abbrev pub IsTrueCache : List Directory → Directory → Type 0
IsTrueCache seen d = (t : Task) (digest : List ℕ) → AreHonestIn (IsTrueEntry seen (cache_file t digest)) (file_at d (cache_file t digest))

-- ---- what must be separate

-- an entry of a cache file of a directory
pub record IsEntryIn (d : Directory) (entry : Entry) : Type 0 where
  pub task : Task
  pub digest : List ℕ
  pub file : List ℕ × ℕ
  pub there : file_at d (cache_file task digest) ≡ Some file
  pub entries : List Entry
  pub is : IsFileOf entries file.0
  pub listed : Contains entries entry

-- what is hashed to the path of an entry: a digest that its function has in a directory, and the canonical bytes of its task
pub record IsKeyIn (d built : Directory) (key : List ℕ) : Type 0 where
  pub entry : Entry
  pub kept : IsEntryIn d entry
  pub funcs : List (List ℕ × List ℕ)
  pub roots : List Task
  pub found : IsProjectOf built funcs roots
  pub digest : List ℕ
  pub listed : Contains funcs (entry.0.task.func, digest)
  pub is : key ≡ digest ++ enc_task entry.0.task

-- no two different byte strings that are hashed so, by these directories or by this one, have one SHA-256
abbrev pub KeysSeparate : List Directory → Directory → Type 0
KeysSeparate seen d =
    (built other : Directory) (a b : List ℕ) → Contains (d ∷ seen) built → Contains (d ∷ seen) other → IsKeyIn d built a → IsKeyIn d other b
    → sha256 a ≡ sha256 b → a ≡ b

-- the spellings of these functions of a directory are met
abbrev pub AreSpellingsMet : (List ℕ → Type 0) → Directory → List FunctionTree → Type 0
AreSpellingsMet Met d fs =
    (text : List ℕ) (ts : List Token) → file_bytes d pipeline_path ≡ Some text → Lexes 0 text (Ok ts) → (f : FunctionTree) → Contains fs f
    → Met (function_spelling text ts f)

-- an entry is of an evaluation by some functions in a directory: their spellings and those of the functions now are met, and so is what the evaluation met; no
-- two different byte strings that are met have one hash, and no source has one mark and two contents, there and now
pub record IsApart (Met : List ℕ → Type 0) (d : Directory) (fs : List FunctionTree) (built : Directory) (gs : List FunctionTree) (entry : Entry) : Type 0 where
  pub spelled : AreSpellingsMet Met d fs
  pub spelled_then : AreSpellingsMet Met built gs
  pub met : AllMet world Met (trace_of (evaluation world (project gs built) (enc_task entry.0.task)))
  pub stamps : StampsSeparate world (project gs built) (project fs d) Met

-- so it is for each entry of the cache that is of an evaluation by the project of one of these directories, where these strings are met by the functions and
-- roots of a project now; and what is hashed to paths of the cache is separate
pub record EntriesSeparate (Met : List FunctionTree → List Task → List ℕ → Type 0) (seen : List Directory) (d : Directory) : Type 0 where
  pub keys : KeysSeparate seen d
  pub each : (funcs others : List (List ℕ × List ℕ)) (roots tasks : List Task) (now : IsProjectOf d funcs roots) (built : Directory) → Contains seen built
      → (was : IsProjectOf built others tasks) (entry : Entry) → IsEntryIn d entry → IsOfEvaluation was.functions built entry
      → IsApart (Met now.functions roots) d now.functions built was.functions entry
