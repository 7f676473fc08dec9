-- The bytes of a manifest, and when bytes are its text.
use Rattle.std.specs.Prelude.{◌≡◌, ℕ, ◌<◌, ◌^◌, List, [], ◌∷◌, ◌++◌, length, true, All}
use Rattle.std.specs.List.{flat_map}
use Rattle.std.specs.List.Sorted.{IsStrictlySortedBy}
use Rattle.sha2.specs.Sha256.{sha256}
use Rattle.pie_base.specs.Path.{is_out}
use Rattle.pie_value.specs.Canonical.{counted}
use Rattle.pie_record.specs.Canonical.{be64, listed, IsTruePath}
use Rattle.pie_scan.specs.declared.entry.Entry.{Entry}
use Rattle.pie_scan.specs.declared.manifest.Manifest.{Manifest}
use Rattle.pie_scan.specs.Entries.{path_cmp, AreInOrder}

-- the bytes that a manifest begins with, `PIEM`
abbrev pub magic : List ℕ
magic = 80 ∷ 73 ∷ 69 ∷ 77 ∷ []

-- the bytes of an entry: its path behind its length, the mark, the hash
unfoldable pub enc_entry : Entry → List ℕ
enc_entry e = counted e.path ++ (be64 e.mark ++ e.hash)

-- the bytes of entries: their number in eight bytes, and each of them
abbrev pub enc_entries : List Entry → List ℕ
enc_entries entries = be64 (length entries) ++ flat_map enc_entry entries

-- all bytes of a manifest but its digest
abbrev pub enc_body : Manifest → List ℕ
enc_body m = magic ++ (1 ∷ (m.store ++ (listed counted m.tops ++ enc_entries m.entries)))

-- the bytes of a manifest
abbrev pub enc_manifest : Manifest → List ℕ
enc_manifest m = enc_body m ++ sha256 (enc_body m)

-- an entry under `out/` has the mark 0
abbrev pub HasMark : Entry → Type 0
HasMark e = is_out e.path ≡ true → e.mark ≡ 0

-- what can be written: tops and entries in path order, each once, few enough tops, and the mark 0 under `out/`
pub record IsWritable (m : Manifest) : Type 0 where
  pub few : length m.tops < 2 ^ 32
  pub tops : IsStrictlySortedBy path_cmp m.tops
  pub entries : AreInOrder m.entries
  pub marks : All HasMark m.entries

-- an entry of the program: a path, a mark of 64 bits, a hash of 32 bytes
abbrev pub IsTrueEntry : Entry → Type 0
IsTrueEntry e = IsTruePath e.path × (e.mark < 2 ^ 64) × (length e.hash ≡ 32)

-- what a manifest may say
pub record IsManifest (m : Manifest) : Type 0 where
  pub writable : IsWritable m
  pub store : length m.store ≡ 32
  pub tops : All IsTruePath m.tops
  pub few : length m.entries < 2 ^ 64
  pub entries : All IsTrueEntry m.entries

-- these bytes are the text of what a manifest says
pub record IsManifestText (m : Manifest) (bs : List ℕ) : Type 0 where
  pub manifest : IsManifest m
  pub bytes : bs ≡ enc_manifest m
