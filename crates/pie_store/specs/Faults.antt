-- Why bytes are no store: which fault they have, and where it stands. What is tested before holds.
use Rattle.std.specs.Prelude.{◌≡◌, ◌≢◌, ◌⊎◌, ℕ, ◌+◌, ◌-◌, ◌<◌, ◌≤◌, ◌^◌, List, ◌∷◌, ◌++◌, length, take, drop, slice_index, All, Contains, Option, Result, Ok}
use Rattle.std.specs.Prelude.{Err, IsTrue}
use Rattle.std.specs.List.{AllPairs, flat_map}
use Rattle.sha2.specs.Sha256.{sha256}
use Rattle.pie_value.specs.declared.task.Task.{Task}
use Rattle.pie_value.specs.Canonical.{enc_task}
use Rattle.pie_record.specs.declared.task_record.TaskRecord.{TaskRecord}
use Rattle.pie_record.specs.Canonical.{listed, enc_record}
use Rattle.pie_store.specs.declared.image.StoreImage.{StoreImage}
use Rattle.pie_store.specs.declared.store_fault.StoreFault.{StoreFault}
use Rattle.pie_store.specs.declared.store_fault.StoreFault.TheVariants.{Short, Magic, Version, Digest, Row, Order, Rest, OutOfMemory}
use Rattle.pie_store.specs.Frame.{magic}
use Rattle.pie_store.specs.Canonical.{enc_func, enc_head, name_before, tasks_in, AreInOrder}
use Rattle.pie_store.specs.Ranks.{IsStored}
use Rattle.pie_store.specs.ListFaults.{Unreadable, Misplaced}
use Rattle.pie_store.specs.Texts.{IsFunc, IsRow, IsFormat, AreKnown}

-- functions that may stand together: by the lengths of their names and their bytes
abbrev pub AreTable : List (List ℕ × List ℕ) → Type 0
AreTable funcs = All IsFunc funcs × AllPairs (λ (f g : List ℕ × List ℕ). IsTrue (name_before f.0 g.0)) funcs

-- records that may stand together: in order, and each of a function that is known
abbrev pub AreRows : Option (List ℕ) → List (List ℕ × List ℕ) → List TaskRecord → Type 0
AreRows pipeline funcs rows = All IsRow rows × AreInOrder rows × AreKnown pipeline funcs rows

-- what stands before the roots, and the bytes behind it
pub record Head (version : ℕ) (inside : List ℕ) : Type 0 where
  pub pipeline : Option (List ℕ)
  pub funcs : List (List ℕ × List ℕ)
  pub rest : List ℕ
  pub format : IsFormat version pipeline funcs
  pub few : length funcs < 2 ^ 32
  pub table : AreTable funcs
  pub parts : inside ≡ enc_head pipeline funcs ++ rest

-- the roots in front, and the bytes behind them
pub record Roots (bs : List ℕ) : Type 0 where
  pub roots : List Task
  pub rest : List ℕ
  pub few : length roots < 2 ^ 32
  pub stored : All IsStored roots
  pub parts : bs ≡ listed enc_task roots ++ rest

-- the records in front, and the bytes behind them
pub record Rows (pipeline : Option (List ℕ)) (funcs : List (List ℕ × List ℕ)) (bs : List ℕ) : Type 0 where
  pub rows : List TaskRecord
  pub rest : List ℕ
  pub few : length rows < 2 ^ 32
  pub good : AreRows pipeline funcs rows
  pub parts : bs ≡ listed enc_record rows ++ rest

-- the offset of the roots, and of the records
abbrev pub roots_at : {version : ℕ} {inside : List ℕ} → Head version inside → ℕ
roots_at h = 5 + length (enc_head h.pipeline h.funcs)

abbrev pub rows_at : {version : ℕ} {inside : List ℕ} → (h : Head version inside) → Roots h.rest → ℕ
rows_at h r = roots_at h + length (listed enc_task r.roots)

-- the fault of what stands behind the version and before the digest
pub data FaultInside (version : ℕ) (inside : List ℕ) : StoreFault → Type 0 where
  -- the number of functions or a function can't be read
  func_unread : (k : ℕ) → version ≡ 2 → Unreadable enc_func IsFunc AreTable inside k → FaultInside version inside (Row (5 + k))
  -- a function doesn't stand in its order
  func_misplaced : (k : ℕ) → version ≡ 2 → Misplaced enc_func IsFunc AreTable inside k → FaultInside version inside (Order (5 + k))
  -- the number of roots or a root can't be read
  root_unread : (h : Head version inside) (k : ℕ) → Unreadable enc_task IsStored (All IsStored) h.rest k → FaultInside version inside (Row (roots_at h + k))
  -- the number of records or a record can't be read
  row_unread : (h : Head version inside) (r : Roots h.rest) (k : ℕ) → Unreadable enc_record IsRow (AreRows h.pipeline h.funcs) r.rest k
      → FaultInside version inside (Row (rows_at h r + k))
  -- a record has its task twice, requires a task without one, doesn't stand in its order, or is of an unknown function
  row_misplaced : (h : Head version inside) (r : Roots h.rest) (k : ℕ) → Misplaced enc_record IsRow (AreRows h.pipeline h.funcs) r.rest k
      → FaultInside version inside (Order (rows_at h r + k))
  -- the first root without a record
  root_missing : (h : Head version inside) (r : Roots h.rest) (w : Rows h.pipeline h.funcs r.rest) (before : List Task) (root : Task) (after : List Task)
      → r.roots ≡ before ++ root ∷ after → All (λ (t : Task). Contains (tasks_in w.rows) t) before → ¬ (Contains (tasks_in w.rows) root)
      → FaultInside version inside (Order (roots_at h + (4 + length (flat_map enc_task before))))
  -- bytes between the last record and the digest
  left_over : (h : Head version inside) (r : Roots h.rest) (w : Rows h.pipeline h.funcs r.rest) → All (λ (t : Task). Contains (tasks_in w.rows) t) r.roots
      → 0 < length w.rest → FaultInside version inside Rest

-- the version and what stands behind it, before a digest that is theirs, in enough bytes
pub record IsFramed (bs : List ℕ) (version : ℕ) (inside : List ℕ) : Type 0 where
  pub long : ((version ≡ 1) × (77 ≤ length bs)) ⊎ ((version ≡ 2) × (49 ≤ length bs))
  pub parts : bs ≡ (magic ++ (version ∷ inside)) ++ sha256 (magic ++ (version ∷ inside))

-- the fault of bytes that are no store
pub data HasFault (bs : List ℕ) : StoreFault → Type 0 where
  too_short : length bs < 49 → HasFault bs Short
  other_magic : 49 ≤ length bs → take 4 bs ≢ magic → HasFault bs Magic
  other_version : 49 ≤ length bs → take 4 bs ≡ magic → slice_index bs 4 ≢ 1 → slice_index bs 4 ≢ 2 → HasFault bs Version
  too_short_for_1 : 49 ≤ length bs → take 4 bs ≡ magic → slice_index bs 4 ≡ 1 → length bs < 77 → HasFault bs Short
  other_digest : 49 ≤ length bs → take 4 bs ≡ magic → ((slice_index bs 4 ≡ 1) × (77 ≤ length bs)) ⊎ (slice_index bs 4 ≡ 2)
      → sha256 (take (length bs - 32) bs) ≢ drop (length bs - 32) bs → HasFault bs Digest
  fault_inside : (version : ℕ) (inside : List ℕ) (e : StoreFault) → IsFramed bs version inside → FaultInside version inside e → HasFault bs e

-- a refusal has its fault; out of memory says nothing
abbrev pub TellsFault : Result StoreImage StoreFault → List ℕ → Type 0
TellsFault (Ok image) bs = Unit {0}
TellsFault (Err OutOfMemory) bs = Unit {0}
TellsFault (Err e) bs = HasFault bs e

-- an answer refuses with this fault; out of memory says nothing
abbrev pub RefusesWith : Result StoreImage StoreFault → StoreFault → Type 0
RefusesWith (Ok image) e = ⊥
RefusesWith (Err OutOfMemory) e = Unit {0}
RefusesWith (Err d) e = d ≡ e
