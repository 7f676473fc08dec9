-- What a build begins from, by its parts.
use Rattle.std.specs.Prelude.{◌≡◌, ℕ, List, Option, Some}
use Rattle.std.specs.declared.alloc.Global.{Global}
use Rattle.std.proofs.Common.{Vec}
use Rattle.pie_store.specs.declared.cause.Cause.{Cause}
use Rattle.pie_store.specs.declared.cause.Cause.TheVariants as causes
use Rattle.pie_store.specs.declared.image.StoreImage.{StoreImage}
use Rattle.pie_store.specs.Pending.{IsPending}
use Rattle.pie_incremental.specs.declared.base.Base.{Base}
use Rattle.pie_incremental.specs.declared.base.Start.{Start}
use Rattle.pie_incremental.specs.declared.base.Start.TheVariants.{Afresh, From}
use Rattle.pie_incremental.specs.Starts.{IsNoPending}

-- a base of these parts
pub record IsBaseOf (s : StoreImage) (paths : Vec (List ℕ) Global) (text : Vec ℕ Global) (bytes : Option (Vec ℕ Global)) (b : Base) : Type 0 where
  pub image : b.image ≡ s
  pub names : b.names ≡ paths
  pub store : b.own.store ≡ text
  pub pending : b.own.pending ≡ bytes

abbrev pub IsFrom : StoreImage → Vec (List ℕ) Global → Vec ℕ Global → Option (Vec ℕ Global) → Start → Type 0
IsFrom s paths text bytes (Afresh cause) = ⊥
IsFrom s paths text bytes (From b) = IsBaseOf s paths text bytes b.value

-- bytes that no names have start a build afresh
abbrev pub IsBad : List ℕ → Cause → Type 0
IsBad bytes causes.BadPending = IsNoPending bytes
IsBad bytes cause = ⊥

-- what a build begins from where these are the bytes of the pending names
abbrev pub IsAfterPending : StoreImage → Vec ℕ Global → Vec ℕ Global → Start → Type 0
IsAfterPending s text bytes (Afresh cause) = IsBad bytes.items cause
IsAfterPending s text bytes (From b) = IsBaseOf s b.value.names text (Some bytes) b.value × IsPending b.value.names.items bytes.items
