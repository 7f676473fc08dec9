-- What the parts of a build without a list say to each other.
use Rattle.std.specs.Prelude.{◌≡◌, ℕ, Option, Some, None}
use Rattle.std.specs.declared.alloc.Global.{Global}
use Rattle.std.proofs.Common.{Vec}
use Rattle.pie_files.specs.Directory.{Directory}
use Rattle.pie_store.specs.Canonical.{IsStorableStore}
use Rattle.pie_store.specs.Faults.{HasFault}
use Rattle.pie_store.specs.Frame.{IsSealed}
use Rattle.pie_store.specs.Texts.{IsStoreText}
use Rattle.pie_store.specs.declared.cause.Cause.{Cause}
use Rattle.pie_store.specs.declared.cause.Cause.TheVariants as causes
use Rattle.pie_store.specs.declared.image.StoreImage.{StoreImage}
use Rattle.pie_value.specs.declared.verdict.Verdict.{Verdict}
use Rattle.pie_value.specs.declared.verdict.Verdict.TheVariants.{Accepted, Refused}
use Rattle.pie_incremental.specs.Starts.{IsReadable}
use Rattle.pie_incremental.specs.inner.Joined.{IsImage}
use Rattle.pie_topdown_build.specs.declared.base.Base.{Base}
use Rattle.pie_topdown_build.specs.declared.base.Start.{Start}
use Rattle.pie_topdown_build.specs.declared.base.Start.TheVariants.{Afresh, From}
use Rattle.pie_topdown_build.specs.Clean.{CanBegin, IsStoreCause}

-- a text, if there is one, ends in the digest of the rest
abbrev pub IsSealedIf : Option (Vec ℕ Global) → Type 0
IsSealedIf None = Unit {0}
IsSealedIf (Some text) = IsSealed text.items

-- what can be begun from: a store whose records can be stored, are of the program and stand in order, and its text, unless there is none
pub record IsBase (b : Base) : Type 0 where
  pub image : IsImage b.image
  pub text : IsSealedIf b.store

-- a store that was read can be begun from
abbrev pub IsWhole : Start → Type 0
IsWhole (Afresh cause) = Unit {0}
IsWhole (From b) = IsBase b.value

-- a refused build changes no file
abbrev pub Quiet : Verdict → Option Directory → Option Directory → Type 0
Quiet Accepted before after = Unit {0}
Quiet (Refused r) before after = after ≡ before

-- ---- what a build begins from

-- there was a store to build from: these are the bytes of the directory's, and it says this
abbrev pub IsReadFrom : Directory → StoreImage → Option (Vec ℕ Global) → Type 0
IsReadFrom d s None = ⊥
IsReadFrom d s (Some text) = IsReadable d s text.items

abbrev pub HasBase : Directory → Base → Type 0
HasBase d b = IsReadFrom d b.image b.store

-- a build of a directory starts afresh for the first cause that holds of it, or from its store
abbrev pub StartsAt : Directory → Start → Type 0
StartsAt d (Afresh cause) = IsStoreCause d cause
StartsAt d (From b) = HasBase d b.value

-- it starts afresh only where a marker stands or no store can be read
abbrev pub StartsOnly : Directory → Start → Type 0
StartsOnly d (Afresh cause) = CanBegin d → ⊥
StartsOnly d (From b) = Unit {0}

-- a cause is that these bytes are no store
abbrev pub IsFaultOf : Vec ℕ Global → Cause → Type 0
IsFaultOf text causes.Interrupted = ⊥
IsFaultOf text causes.NoStore = ⊥
IsFaultOf text (causes.Damaged fault) = HasFault text.items fault
IsFaultOf text causes.BadPending = ⊥
IsFaultOf text (causes.UnionCycle tasks) = ⊥
IsFaultOf text (causes.UnionMany old entered task) = ⊥

-- a base is what these bytes say
pub record IsTextOf (text : Vec ℕ Global) (b : Base) : Type 0 where
  pub store : b.store ≡ Some text
  pub says : IsStoreText b.image text.items
  pub writable : b.image.version ≡ 2 → IsStorableStore b.image

-- what a build begins from where these are the bytes of the store
abbrev pub StartsBy : Vec ℕ Global → Start → Type 0
StartsBy text (Afresh cause) = IsFaultOf text cause
StartsBy text (From b) = IsTextOf text b.value

-- only where these are no store does it start afresh
abbrev pub FailsOnly : Vec ℕ Global → Start → Type 0
FailsOnly text (Afresh cause) = (s : StoreImage) → IsStoreText s text.items → ⊥
FailsOnly text (From b) = Unit {0}
