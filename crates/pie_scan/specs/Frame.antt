-- What is read of a manifest's frame.
use Rattle.std.specs.Prelude.{◌≡◌, ℕ, ◌-◌, ◌==◌, List, length, take, drop, cond, nat_lt, Result, Ok, Err, slice_index}
use Rattle.std.proofs.Common.{Bor}
use Rattle.std.specs.Str.{bytes_eq}
use Rattle.sha2.specs.Sha256.{sha256}
use Rattle.pie_scan.specs.declared.manifest_fault.ManifestFault.{ManifestFault}
use Rattle.pie_scan.specs.declared.manifest_fault.ManifestFault.TheVariants.{Short, Magic, Version, Digest}
use Rattle.pie_scan.specs.Texts.{magic}

-- the bytes before the last 32, where these are their SHA-256
abbrev pub sealed : List ℕ → Result (List ℕ) ManifestFault
sealed bs = cond (bytes_eq (sha256 (take (length bs - 32) bs)) (drop (length bs - 32) bs)) (Ok (take (length bs - 32) bs)) (Err Digest)

-- the bytes before the digest of a manifest, or the first fault of its frame
abbrev pub framed : List ℕ → Result (List ℕ) ManifestFault
framed bs =
    cond (nat_lt (length bs) 81) (Err Short)
    (cond (bytes_eq (take 4 bs) magic) (cond (slice_index bs 4 == 1) (sealed bs) (Err Version)) (Err Magic))

-- an answer is this body, or this fault
abbrev pub FrameAgrees : Result (Bor (List ℕ)) ManifestFault → Result (List ℕ) ManifestFault → Type 0
FrameAgrees (Ok body) r = r ≡ Ok body.now
FrameAgrees (Err e) r = r ≡ Err e
