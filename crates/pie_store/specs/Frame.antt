-- What stands around the contents of a store.
use Rattle.std.specs.Prelude.{◌≡◌, ℕ, ◌-◌, ◌≤◌, ◌==◌, List, [], ◌∷◌, length, take, drop, cond, nat_lt, Result, Ok, Err, slice_index}
use Rattle.std.proofs.Common.{Bor}
use Rattle.std.specs.Str.{bytes_eq}
use Rattle.sha2.specs.Sha256.{sha256}
use Rattle.pie_store.specs.declared.store_fault.StoreFault.{StoreFault}
use Rattle.pie_store.specs.declared.store_fault.StoreFault.TheVariants.{Short, Magic, Version, Digest}

-- the bytes that a store begins with, `PIES`
abbrev pub magic : List ℕ
magic = 80 ∷ 73 ∷ 69 ∷ 83 ∷ []

-- the bytes before the last 32, where these are their SHA-256
abbrev pub sealed : List ℕ → Result (List ℕ) StoreFault
sealed bs = cond (bytes_eq (sha256 (take (length bs - 32) bs)) (drop (length bs - 32) bs)) (Ok (take (length bs - 32) bs)) (Err Digest)

-- the last 32 bytes, where there are so many, are the SHA-256 of those before them
abbrev pub IsSealed : List ℕ → Type 0
IsSealed bs = 32 ≤ length bs → sha256 (take (length bs - 32) bs) ≡ drop (length bs - 32) bs

-- what the fifth byte, the version, asks for
abbrev pub versioned : ℕ → List ℕ → Result (List ℕ) StoreFault
versioned version bs = cond (version == 1) (cond (nat_lt (length bs) 77) (Err Short) (sealed bs)) (cond (version == 2) (sealed bs) (Err Version))

-- the bytes before the digest of a store, or the first fault of its frame
abbrev pub framed : List ℕ → Result (List ℕ) StoreFault
framed bs = cond (nat_lt (length bs) 49) (Err Short) (cond (bytes_eq (take 4 bs) magic) (versioned (slice_index bs 4) bs) (Err Magic))

-- an answer is this body, or this fault
abbrev pub FrameAgrees : Result (Bor (List ℕ)) StoreFault → Result (List ℕ) StoreFault → Type 0
FrameAgrees (Ok body) r = r ≡ Ok body.now
FrameAgrees (Err e) r = r ≡ Err e
