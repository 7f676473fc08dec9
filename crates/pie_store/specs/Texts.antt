-- When bytes are the text of a store.
use Rattle.std.specs.Prelude.{◌≡◌, ℕ, ◌<◌, ◌^◌, List, [], length, All, Contains, Option, Some, None}
use Rattle.std.specs.Str.{IsUtf8}
use Rattle.pie_value.specs.declared.task.Task.{Task}
use Rattle.pie_record.specs.declared.task_record.TaskRecord.{TaskRecord}
use Rattle.pie_record.specs.Canonical.{enc_record, IsCanonicalRecord}
use Rattle.pie_store.specs.declared.image.StoreImage.{StoreImage}
use Rattle.pie_store.specs.Canonical.{enc_store, names_of, tasks_in, AreFuncs, AreInOrder}
use Rattle.pie_store.specs.Ranks.{IsStored}

-- a function: a name in UTF-8 that is short enough for its length to fit, and a digest of 32 bytes
abbrev pub IsFunc : List ℕ × List ℕ → Type 0
IsFunc f = (length f.0 < 2 ^ 32) × IsUtf8 f.0 × (length f.1 ≡ 32)

-- a record that has canonical bytes
abbrev pub IsRow : TaskRecord → Type 0
IsRow r = IsCanonicalRecord r (enc_record r)

-- version 2 has a table of functions, version 1 the digest of the pipeline and no functions
abbrev pub IsFormat : ℕ → Option (List ℕ) → List (List ℕ × List ℕ) → Type 0
IsFormat version None funcs = version ≡ 2
IsFormat version (Some digest) funcs = (version ≡ 1) × (length digest ≡ 32) × (funcs ≡ [])

-- the function of each record stands in the table, if there is one
abbrev pub AreKnown : Option (List ℕ) → List (List ℕ × List ℕ) → List TaskRecord → Type 0
AreKnown None funcs rows = All (λ (r : TaskRecord). Contains (names_of funcs) r.task.func) rows
AreKnown (Some digest) funcs rows = Unit {0}

-- what a store may say: canonical parts, functions and records in order, and a record for each root
pub record IsStore (s : StoreImage) : Type 0 where
  pub format : IsFormat s.version s.pipeline s.funcs
  pub funcs : All IsFunc s.funcs
  pub table : AreFuncs s.funcs
  pub few_roots : length s.roots < 2 ^ 32
  pub roots : All IsStored s.roots
  pub few_rows : length s.rows < 2 ^ 32
  pub rows : All IsRow s.rows
  pub order : AreInOrder s.rows
  pub known : AreKnown s.pipeline s.funcs s.rows
  pub closed : All (λ (t : Task). Contains (tasks_in s.rows) t) s.roots

-- these bytes are the text of what a store says
pub record IsStoreText (s : StoreImage) (bs : List ℕ) : Type 0 where
  pub store : IsStore s
  pub bytes : bs ≡ enc_store s
