-- What a build begins from: the first cause to start afresh, or what the build before left.
use Rattle.std.specs.Prelude.{◌≡◌, ℕ, List, [], Option, Some, None, All, IsSome}
use Rattle.std.specs.Option.{option_map}
use Rattle.pie_files.specs.Directory.{Directory}
use Rattle.pie_store.specs.declared.cause.Cause.{Cause}
use Rattle.pie_store.specs.declared.cause.Cause.TheVariants as causes
use Rattle.pie_store.specs.declared.image.StoreImage.{StoreImage}
use Rattle.pie_record.specs.Canonical.{IsStorable}
use Rattle.pie_store.specs.Canonical.{AreInOrder, IsStorableStore}
use Rattle.pie_store.specs.Texts.{IsStoreText}
use Rattle.pie_store.specs.Faults.{HasFault}
use Rattle.pie_store.specs.Pending.{IsPending}
use Rattle.pie_incremental.specs.declared.base.Base.{Base}
use Rattle.pie_incremental.specs.declared.base.Start.{Start}
use Rattle.pie_incremental.specs.declared.base.Start.TheVariants.{Afresh, From}
use Rattle.pie_incremental.specs.Own.{bytes_at, open_path, store_path, pending_path, IsClosed}

-- no marker stands, and these are the bytes of the store
pub record HasStore (d : Directory) (text : List ℕ) : Type 0 where
  pub closed : IsClosed d
  pub text_is : bytes_at d store_path ≡ Some text

-- no marker stands, and the store says this
pub record IsReadable (d : Directory) (s : StoreImage) (text : List ℕ) : Type 0 where
  pub stored : HasStore d text
  pub says : IsStoreText s text
  pub writable : s.version ≡ 2 → IsStorableStore s

-- bytes that no names have
abbrev pub IsNoPending : List ℕ → Type 0
IsNoPending bytes = (names : List (List ℕ)) → ¬ (IsPending names bytes)

-- the first cause that holds: a marker; no store; a store that can't be read; pending names that can't be read
abbrev pub IsCause : Directory → Cause → Type 0
IsCause d causes.Interrupted = IsSome (bytes_at d open_path)
IsCause d causes.NoStore = IsClosed d × (bytes_at d store_path ≡ None)
IsCause d (causes.Damaged fault) = (text : List ℕ) × HasStore d text × HasFault text fault
IsCause d causes.BadPending = (s : StoreImage) × (text : List ℕ) × IsReadable d s text × (bytes : List ℕ) × (bytes_at d pending_path ≡ Some bytes)
    × IsNoPending bytes
IsCause d (causes.UnionCycle tasks) = ⊥
IsCause d (causes.UnionMany old entered task) = ⊥

-- the names of these bytes; none where there are no bytes
abbrev pub AreNames : List (List ℕ) → Option (List ℕ) → Type 0
AreNames names None = names ≡ []
AreNames names (Some bytes) = IsPending names bytes

-- what the build before left: a store that can be read, its bytes, and the pending names
pub record IsBase (d : Directory) (b : Base) : Type 0 where
  pub readable : IsReadable d b.image b.own.store.items
  pub pending : bytes_at d pending_path ≡ option_map (λ v. v.items) b.own.pending
  pub named : AreNames b.names.items (option_map (λ v. v.items) b.own.pending)

-- what a build of a directory begins from
abbrev pub StartsFrom : Directory → Start → Type 0
StartsFrom d (Afresh cause) = IsCause d cause
StartsFrom d (From b) = IsBase d b.value

-- the store that was read, whatever the files tell: its text, its records, which can be stored and stand in order, and the pending names
pub record HasRecords (b : Base) : Type 0 where
  pub text : IsStoreText b.image b.own.store.items
  pub storable : All IsStorable b.image.rows
  pub order : AreInOrder b.image.rows
  pub named : AreNames b.names.items (option_map (λ v. v.items) b.own.pending)

-- the same of a start that isn't afresh
abbrev pub IsWhole : Start → Type 0
IsWhole (Afresh cause) = Unit {0}
IsWhole (From b) = HasRecords b.value
