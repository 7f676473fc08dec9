-- Why bytes are no manifest: which fault they have, and where it stands. What is tested before holds.
use Rattle.std.specs.Prelude.{◌≡◌, ◌≢◌, ◌⊎◌, ℕ, ◌+◌, ◌-◌, ◌<◌, ◌≤◌, ◌^◌, List, [], ◌∷◌, ◌++◌, length, take, drop, slice_index, All, Result, Ok, Err}
use Rattle.std.specs.List.{flat_map}
use Rattle.std.specs.List.Sorted.{IsStrictlySortedBy}
use Rattle.sha2.specs.Sha256.{sha256}
use Rattle.pie_value.specs.Canonical.{be32, counted}
use Rattle.pie_record.specs.Canonical.{be64, IsTruePath}
use Rattle.pie_scan.specs.declared.entry.Entry.{Entry}
use Rattle.pie_scan.specs.declared.manifest.Manifest.{Manifest}
use Rattle.pie_scan.specs.declared.manifest_fault.ManifestFault.{ManifestFault}
use Rattle.pie_scan.specs.declared.manifest_fault.ManifestFault.TheVariants.{Short, Magic, Version, Digest, Entry as BadEntry, Order, Rest, OutOfMemory}
use Rattle.pie_scan.specs.Entries.{path_cmp, AreInOrder}
use Rattle.pie_scan.specs.Texts.{magic, enc_entry, HasMark, IsTrueEntry}

-- an entry that may stand in a manifest
abbrev pub FitsEntry : Entry → Type 0
FitsEntry e = IsTrueEntry e × HasMark e

-- tops, and entries, that may stand together
abbrev pub AreTops : List (List ℕ) → Type 0
AreTops tops = All IsTruePath tops × IsStrictlySortedBy path_cmp tops

abbrev pub AreEntries : List Entry → Type 0
AreEntries entries = All FitsEntry entries × AreInOrder entries

-- how many there may be
abbrev pub FewTops : ℕ → Type 0
FewTops n = n < 2 ^ 32

abbrev pub FewEntries : ℕ → Type 0
FewEntries n = n < 2 ^ 64

-- the bytes begin with a number, and then with fewer things than it says, which may stand together
pub record Begins {A : Type 0} (number : ℕ → List ℕ) (Few : ℕ → Type 0) (bytes : A → List ℕ) (Good : List A → Type 0) (bs : List ℕ) (before : List A)
    (rest : List ℕ) : Type 0 where
  pub count : ℕ
  pub few : Few count
  pub more : length before < count
  pub parts : bs ≡ number count ++ (flat_map bytes before ++ rest)
  pub good : Good before

-- no thing that fits stands in front
abbrev pub NoneInFront : {A : Type 0} → (A → List ℕ) → (A → Type 0) → List ℕ → Type 0
NoneInFront {A} bytes Fits bs = (x : A) (after : List ℕ) → Fits x → bs ≢ bytes x ++ after

-- behind so many bytes of a list the number, which takes so many bytes, or a thing can't be read
abbrev pub Unreadable : {A : Type 0} → ℕ → (ℕ → List ℕ) → (ℕ → Type 0) → (A → List ℕ) → (A → Type 0) → (List A → Type 0) → List ℕ → ℕ → Type 0
Unreadable {A} size number Few bytes Fits Good bs k =
    ((length bs < size) × (k ≡ 0))
    ⊎ ((before : List A) × (rest : List ℕ) × Begins number Few bytes Good bs before rest × NoneInFront bytes Fits rest
    × (k ≡ size + length (flat_map bytes before)))

-- behind so many bytes of a list a thing stands that may not follow those before it
abbrev pub Misplaced : {A : Type 0} → ℕ → (ℕ → List ℕ) → (ℕ → Type 0) → (A → List ℕ) → (A → Type 0) → (List A → Type 0) → List ℕ → ℕ → Type 0
Misplaced {A} size number Few bytes Fits Good bs k =
    (before : List A) × (x : A) × (after : List ℕ) × Begins number Few bytes Good bs before (bytes x ++ after) × Fits x × (¬ (Good (before ++ x ∷ [])))
    × (k ≡ size + length (flat_map bytes before))

-- the same of tops, and of entries
abbrev pub UnreadableTop : List ℕ → ℕ → Type 0
UnreadableTop = Unreadable 4 be32 FewTops counted IsTruePath AreTops

abbrev pub MisplacedTop : List ℕ → ℕ → Type 0
MisplacedTop = Misplaced 4 be32 FewTops counted IsTruePath AreTops

abbrev pub UnreadableEntry : List ℕ → ℕ → Type 0
UnreadableEntry = Unreadable 8 be64 FewEntries enc_entry FitsEntry AreEntries

abbrev pub MisplacedEntry : List ℕ → ℕ → Type 0
MisplacedEntry = Misplaced 8 be64 FewEntries enc_entry FitsEntry AreEntries

-- the hash of the store in front, and the bytes behind it
pub record Store (inside : List ℕ) : Type 0 where
  pub hash : List ℕ
  pub rest : List ℕ
  pub long : length hash ≡ 32
  pub parts : inside ≡ hash ++ rest

-- the tops in front, and the bytes behind them
pub record Tops (bs : List ℕ) : Type 0 where
  pub tops : List (List ℕ)
  pub rest : List ℕ
  pub few : FewTops (length tops)
  pub good : AreTops tops
  pub parts : bs ≡ (be32 (length tops) ++ flat_map counted tops) ++ rest

-- the entries in front, and the bytes behind them
pub record Entries (bs : List ℕ) : Type 0 where
  pub entries : List Entry
  pub rest : List ℕ
  pub few : FewEntries (length entries)
  pub good : AreEntries entries
  pub parts : bs ≡ (be64 (length entries) ++ flat_map enc_entry entries) ++ rest

-- the offset of the entries
abbrev pub entries_at : {bs : List ℕ} → Tops bs → ℕ
entries_at t = 37 + length (be32 (length t.tops) ++ flat_map counted t.tops)

-- the fault of what stands behind the version and before the digest
pub data FaultInside (inside : List ℕ) : ManifestFault → Type 0 where
  -- the number of tops or a top can't be read
  top_unread : (s : Store inside) (k : ℕ) → UnreadableTop s.rest k → FaultInside inside (BadEntry (37 + k))
  -- a top doesn't come after the one before it
  top_misplaced : (s : Store inside) (k : ℕ) → MisplacedTop s.rest k → FaultInside inside (Order (37 + k))
  -- the number of entries or an entry can't be read, or an entry under `out/` has a mark
  entry_unread : (s : Store inside) (t : Tops s.rest) (k : ℕ) → UnreadableEntry t.rest k → FaultInside inside (BadEntry (entries_at t + k))
  -- an entry doesn't come after the one before it
  entry_misplaced : (s : Store inside) (t : Tops s.rest) (k : ℕ) → MisplacedEntry t.rest k → FaultInside inside (Order (entries_at t + k))
  -- bytes between the last entry and the digest
  left_over : (s : Store inside) (t : Tops s.rest) (e : Entries t.rest) → 0 < length e.rest → FaultInside inside Rest

-- the fault of bytes that are no manifest
pub data HasFault (bs : List ℕ) : ManifestFault → Type 0 where
  too_short : length bs < 81 → HasFault bs Short
  other_magic : 81 ≤ length bs → take 4 bs ≢ magic → HasFault bs Magic
  other_version : 81 ≤ length bs → take 4 bs ≡ magic → slice_index bs 4 ≢ 1 → HasFault bs Version
  other_digest : 81 ≤ length bs → take 4 bs ≡ magic → slice_index bs 4 ≡ 1
      → sha256 (take (length bs - 32) bs) ≢ drop (length bs - 32) bs → HasFault bs Digest
  fault_inside : (inside : List ℕ) (e : ManifestFault) → 81 ≤ length bs → bs ≡ (magic ++ (1 ∷ inside)) ++ sha256 (magic ++ (1 ∷ inside))
      → FaultInside inside e → HasFault bs e

-- a refusal has its fault; out of memory says nothing
abbrev pub TellsFault : Result Manifest ManifestFault → List ℕ → Type 0
TellsFault (Ok m) bs = Unit {0}
TellsFault (Err OutOfMemory) bs = Unit {0}
TellsFault (Err e) bs = HasFault bs e

-- an answer refuses with this fault; out of memory says nothing
abbrev pub RefusesWith : Result Manifest ManifestFault → ManifestFault → Type 0
RefusesWith (Ok m) e = ⊥
RefusesWith (Err OutOfMemory) e = Unit {0}
RefusesWith (Err d) e = d ≡ e
