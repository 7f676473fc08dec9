-- The bytes of a cache file, and when bytes are its text.
use Rattle.std.specs.Prelude.{◌≡◌, ℕ, ◌<◌, ◌≤◌, ◌^◌, List, [], ◌∷◌, ◌++◌, length, All}
use Rattle.std.specs.List.{flat_map}
use Rattle.sha2.specs.Sha256.{sha256}
use Rattle.pie_value.specs.Canonical.{counted}
use Rattle.pie_record.specs.Canonical.{enc_record, IsStorable}
use Rattle.pie_store.specs.Texts.{IsRow}
use Rattle.pie_store.specs.inner.Offers.{Offered}

-- the bytes that a cache file begins with, `PIEC`
abbrev pub magic : List ℕ
magic = 80 ∷ 73 ∷ 69 ∷ 67 ∷ []

-- the bytes of an entry: its record, and each content behind its length
unfoldable pub enc_entry : Offered → List ℕ
enc_entry e = enc_record e.0 ++ flat_map counted e.1

-- all bytes of a cache file but its digest: the version, the number of entries, the entries
abbrev pub enc_body : List Offered → List ℕ
enc_body entries = magic ++ (1 ∷ (length entries ∷ flat_map enc_entry entries))

-- the bytes of a cache file
abbrev pub enc_cache : List Offered → List ℕ
enc_cache entries = enc_body entries ++ sha256 (enc_body entries)

-- one content for each write, which has the recorded hash, and is short enough for its length to fit
abbrev pub AreContents : List (List ℕ × List ℕ) → List (List ℕ) → Type 0
AreContents [] [] = Unit {0}
AreContents [] (c ∷ contents) = ⊥
AreContents (w ∷ writes) [] = ⊥
AreContents (w ∷ writes) (c ∷ contents) = (sha256 c ≡ w.1) × (length c < 2 ^ 32) × AreContents writes contents

-- how many entries there may be
abbrev pub IsCount : ℕ → Type 0
IsCount n = (1 ≤ n) × (n ≤ 4)

-- what can be kept: a record that has canonical bytes, and its contents
abbrev pub IsKept : Offered → Type 0
IsKept e = IsStorable e.0 × AreContents e.0.writes e.1

-- an entry of a cache file
abbrev pub IsEntry : Offered → Type 0
IsEntry e = IsRow e.0 × AreContents e.0.writes e.1

-- these bytes are the text of a cache file with these entries
pub record IsCacheText (entries : List Offered) (bs : List ℕ) : Type 0 where
  pub count : IsCount (length entries)
  pub each : All IsEntry entries
  pub bytes : bs ≡ enc_cache entries
