-- Why bytes are no cache file: which fault they have, and where it stands. What is tested before holds.
use Rattle.std.specs.Prelude.{◌≡◌, ◌≢◌, ℕ, ◌+◌, ◌-◌, ◌<◌, ◌≤◌, List, ◌∷◌, ◌++◌, length, take, drop, slice_index, All, Result, Ok, Err, Vec}
use Rattle.std.specs.Global.{Global}
use Rattle.std.specs.List.{flat_map}
use Rattle.sha2.specs.Sha256.{sha256}
use Rattle.pie_store.specs.declared.offers.Offer.{Offer}
use Rattle.pie_store.specs.inner.Offers.{Offered}
use Rattle.pie_cache.specs.declared.cache_fault.CacheFault.{CacheFault}
use Rattle.pie_cache.specs.declared.cache_fault.CacheFault.TheVariants.{Short, Magic, Version, Digest, Count, Entry, Rest, OutOfMemory}
use Rattle.pie_cache.specs.inner.Texts.{magic, enc_entry, IsCount, IsEntry}

-- no entry stands in front
abbrev pub NoneInFront : List ℕ → Type 0
NoneInFront bs = (e : Offered) (after : List ℕ) → IsEntry e → bs ≢ enc_entry e ++ after

-- the fault of what stands behind the version and before the digest: a number of entries, and what follows it
pub data FaultInside (n : ℕ) (inside : List ℕ) : CacheFault → Type 0 where
  -- there may not be so many
  other_count : ¬ (IsCount n) → FaultInside n inside Count
  -- fewer entries can be read than the number says
  entry_unread : (before : List Offered) (rest : List ℕ) → IsCount n → length before < n → All IsEntry before
      → inside ≡ flat_map enc_entry before ++ rest → NoneInFront rest → FaultInside n inside (Entry (6 + length (flat_map enc_entry before)))
  -- bytes between the last entry and the digest
  left_over : (entries : List Offered) (rest : List ℕ) → IsCount n → length entries ≡ n → All IsEntry entries
      → inside ≡ flat_map enc_entry entries ++ rest → 0 < length rest → FaultInside n inside Rest

-- the fault of bytes that are no cache file
pub data HasFault (bs : List ℕ) : CacheFault → Type 0 where
  too_short : length bs < 38 → HasFault bs Short
  other_magic : 38 ≤ length bs → take 4 bs ≢ magic → HasFault bs Magic
  other_version : 38 ≤ length bs → take 4 bs ≡ magic → slice_index bs 4 ≢ 1 → HasFault bs Version
  other_digest : 38 ≤ length bs → take 4 bs ≡ magic → slice_index bs 4 ≡ 1
      → sha256 (take (length bs - 32) bs) ≢ drop (length bs - 32) bs → HasFault bs Digest
  fault_inside : (n : ℕ) (inside : List ℕ) (e : CacheFault)
      → bs ≡ (magic ++ (1 ∷ (n ∷ inside))) ++ sha256 (magic ++ (1 ∷ (n ∷ inside))) → FaultInside n inside e → HasFault bs e

-- a refusal has its fault; out of memory says nothing
abbrev pub TellsFault : Result (Vec Offer Global) CacheFault → List ℕ → Type 0
TellsFault (Ok es) bs = Unit {0}
TellsFault (Err OutOfMemory) bs = Unit {0}
TellsFault (Err e) bs = HasFault bs e

-- an answer refuses with this fault; out of memory says nothing
abbrev pub RefusesWith : Result (Vec Offer Global) CacheFault → CacheFault → Type 0
RefusesWith (Ok es) e = ⊥
RefusesWith (Err OutOfMemory) e = Unit {0}
RefusesWith (Err d) e = d ≡ e
