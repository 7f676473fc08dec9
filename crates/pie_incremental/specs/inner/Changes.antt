-- What a plan makes of the builder's own files.
use Rattle.std.specs.Prelude.{◌≡◌, ◌≢◌, ℕ, List, Option, Some, None}
use Rattle.std.specs.declared.alloc.Global.{Global}
use Rattle.std.specs.Option.{option_map}
use Rattle.std.proofs.Common.{Vec}
use Rattle.pie_commit.specs.declared.plan.Pending.{Pending}
use Rattle.pie_commit.specs.declared.plan.Pending.TheVariants.{Keep, Put, Drop}

-- the bytes, if there are any
abbrev pub bytes_of : Option (Vec ℕ Global) → Option (List ℕ)
bytes_of o = option_map (λ v. v.items) o

-- a file of pending names is changed to what is wanted, and only where it isn't that
abbrev pub Changes : Option (List ℕ) → Option (List ℕ) → Pending → Type 0
Changes before wanted Keep = before ≡ wanted
Changes before wanted (Put bytes) = (wanted ≡ Some bytes.items) × (before ≢ wanted)
Changes before wanted Drop = (wanted ≡ None) × (before ≢ wanted)
