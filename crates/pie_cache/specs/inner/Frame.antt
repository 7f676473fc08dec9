-- What is read of a cache file's frame.
use Rattle.std.specs.Prelude.{◌≡◌, ℕ, ◌-◌, ◌==◌, List, length, take, drop, cond, nat_lt, Result, Ok, Err, slice_index}
use Rattle.std.proofs.Common.{Bor}
use Rattle.std.specs.Str.{bytes_eq}
use Rattle.sha2.specs.Sha256.{sha256}
use Rattle.pie_cache.specs.declared.cache_fault.CacheFault.{CacheFault}
use Rattle.pie_cache.specs.declared.cache_fault.CacheFault.TheVariants.{Short, Magic, Version, Digest}
use Rattle.pie_cache.specs.inner.Texts.{magic}

-- the bytes before the last 32, where these are their SHA-256
abbrev pub sealed : List ℕ → Result (List ℕ) CacheFault
sealed bs = cond (bytes_eq (sha256 (take (length bs - 32) bs)) (drop (length bs - 32) bs)) (Ok (take (length bs - 32) bs)) (Err Digest)

-- the bytes before the digest of a cache file, or the first fault of its frame
abbrev pub framed : List ℕ → Result (List ℕ) CacheFault
framed bs =
    cond (nat_lt (length bs) 38) (Err Short)
    (cond (bytes_eq (take 4 bs) magic) (cond (slice_index bs 4 == 1) (sealed bs) (Err Version)) (Err Magic))

-- an answer is this body, or this fault
abbrev pub FrameAgrees : Result (Bor (List ℕ)) CacheFault → Result (List ℕ) CacheFault → Type 0
FrameAgrees (Ok body) r = r ≡ Ok body.now
FrameAgrees (Err e) r = r ≡ Err e
