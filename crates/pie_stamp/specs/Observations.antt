-- Observations as contracts see them: their bytes, and what a task is told by them.
use Rattle.std.specs.Prelude.{◌≡◌, ℕ, Bool, true, false, List, Option, None, Some}
use Rattle.sha2.specs.Sha256.{sha256}
use Rattle.pie_files.specs.declared.files.Found.{Found}
use Rattle.pie_value.specs.Tree.{Tree, TList, items_of}
use Rattle.pie_value.specs.Values.{tree_of}
use Rattle.pie_value.specs.Canonical.{IsCanonical, IsEncodable}
use Rattle.pie_stamp.specs.declared.observed.Observed.{Observed}
use Rattle.pie_stamp.specs.declared.observed.Observed.TheVariants.{File, Entries, Output}

-- the observation is of a file
abbrev pub IsFile : Observed → Type 0
IsFile (File file) = Unit {0}
IsFile (Entries entries) = ⊥
IsFile (Output output) = ⊥

-- the observation is of an output
abbrev pub IsOutput : Observed → Type 0
IsOutput (File file) = ⊥
IsOutput (Entries entries) = ⊥
IsOutput (Output output) = Unit {0}

-- entries and outputs have canonical bytes
abbrev pub IsEncodableSight : Observed → Type 0
IsEncodableSight (File file) = Unit {0}
IsEncodableSight (Entries entries) = IsEncodable (TList (items_of entries))
IsEncodableSight (Output output) = IsEncodable (tree_of output)

-- both observations are of files, of entries, or of outputs
abbrev pub OfOneKind : Observed → Observed → Type 0
OfOneKind (File file) b = IsFile b
OfOneKind (Entries entries) (Entries others) = Unit {0}
OfOneKind (Entries entries) (File file) = ⊥
OfOneKind (Entries entries) (Output output) = ⊥
OfOneKind (Output output) b = IsOutput b

-- these are the bytes of an observation: those of the file that is there, or the canonical ones of the entries or the output
abbrev pub HasBytes : Observed → List ℕ → Type 0
HasBytes (File None) bytes = ⊥
HasBytes (File (Some found)) bytes = bytes ≡ found.bytes.items
HasBytes (Entries entries) bytes = IsCanonical (TList (items_of entries)) bytes
HasBytes (Output output) bytes = IsCanonical (tree_of output) bytes

-- an observation of a file with this mark
abbrev pub HasMark : Observed → ℕ → Type 0
HasMark (File None) mark = ⊥
HasMark (File (Some found)) mark = mark ≡ found.mark
HasMark (Entries entries) mark = ⊥
HasMark (Output output) mark = ⊥

-- the bytes of two observations, if different, have different SHA-256
abbrev pub Separate : Observed → Observed → Type 0
Separate a b = (x y : List ℕ) → HasBytes a x → HasBytes b y → sha256 x ≡ sha256 y → x ≡ y

-- besides, two files with different contents have different marks
abbrev pub SeparateByMark : Observed → Observed → Type 0
SeparateByMark a b = Separate a b × ((x y : List ℕ) (mark : ℕ) → HasBytes a x → HasBytes b y → HasMark a mark → HasMark b mark → x ≡ y)

-- what a task is told
pub data Answered : Type 0 where
  Presence : Bool → Answered
  Contents : Option (List ℕ) → Answered
  Listing : List Tree → Answered
  Given : Tree → Answered
  Success : Answered

-- whether a file is there
abbrev pub is_there : Option Found → Bool
is_there None = false
is_there (Some found) = true

-- a file's bytes, or nothing where there is none
abbrev pub bytes_there : Option Found → Option (List ℕ)
bytes_there None = None
bytes_there (Some found) = Some found.bytes.items

-- all that an observation tells: a file's bytes or nothing, the entries, or the output
abbrev pub told_by : Observed → Answered
told_by (File file) = Contents (bytes_there file)
told_by (Entries entries) = Listing entries
told_by (Output output) = Given (tree_of output)

-- of a file only whether it is there
abbrev pub presence_by : Observed → Answered
presence_by (File file) = Presence (is_there file)
presence_by (Entries entries) = Listing entries
presence_by (Output output) = Given (tree_of output)

-- only that it succeeded
abbrev pub success_by : Observed → Answered
success_by seen = Success
