-- What is read from the bytes of a store: what it says, or the first fault.
use Rattle.std.specs.Prelude.{ℕ, zero, suc, ◌-◌, ◌==◌, Bool, true, cond, List, [], ◌∷◌, ◌++◌, length, map, drop, Result, Ok, Err, Option, Some, None, is_some}
use Rattle.std.specs.Prelude.{slice_get, slice_index}
use Rattle.pie_value.specs.declared.task.Task.{Task}
use Rattle.pie_record.specs.declared.task_record.TaskRecord.{TaskRecord}
use Rattle.pie_record.specs.declared.record_fault.RecordFault.{RecordFault}
use Rattle.pie_record.specs.declared.record_fault.RecordFault.TheVariants.{Short as NoMore, BadTag, BadPath, BadValue, OutOfMemory as NoMemory}
use Rattle.pie_record.specs.Reading.{Parsed as Part, then_on as then_part, text_at, bytes_at, number_at, task_at, record_at}
use Rattle.pie_store.specs.declared.image.StoreImage.{StoreImage}
use Rattle.pie_store.specs.declared.store_fault.StoreFault.{StoreFault}
use Rattle.pie_store.specs.declared.store_fault.StoreFault.TheVariants.{Row, Order, Rest as More, OutOfMemory}
use Rattle.pie_store.specs.Frame.{framed}
use Rattle.pie_store.specs.Canonical.{name_before}
use Rattle.pie_store.specs.Ranks.{Ranked, rank_in, knows, height_after}

-- what is read and the bytes after it, or a fault
abbrev pub Parsed : Type 0 → Type 0
Parsed A = Result (A × List ℕ) StoreFault

-- reading one thing and then another; the first fault stays
abbrev pub then_on : {A B : Type 0} → Parsed A → (A → List ℕ → Parsed B) → Parsed B
then_on (Ok p) k = k p.0 p.1
then_on (Err e) k = Err e

-- a part that can't be read, by its offset
abbrev pub row_fault : ℕ → RecordFault → StoreFault
row_fault at NoMore = Row at
row_fault at BadTag = Row at
row_fault at BadPath = Row at
row_fault at BadValue = Row at
row_fault at NoMemory = OutOfMemory

abbrev pub placed : {A : Type 0} → ℕ → Part A → Parsed A
placed at (Ok p) = Ok p
placed at (Err e) = Err (row_fault at e)

-- a part that begins where so many bytes are left of so many
abbrev pub part_at : {A : Type 0} → ℕ → (List ℕ → Part A) → List ℕ → Parsed A
part_at end one bs = placed (end - length bs) (one bs)

-- what passes, or that it is out of order
abbrev pub ordered : {A : Type 0} → ℕ → Bool → A → List ℕ → Parsed A
ordered at good a rest = cond good (Ok (a, rest)) (Err (Order at))

-- so many things more, after some; each may depend on those before it
abbrev pub some_at : {A : Type 0} → (List A → List ℕ → Parsed A) → ℕ → List A → List ℕ → Parsed (List A)
some_at one zero xs bs = Ok (xs, bs)
some_at one (suc n) xs bs = then_on (one xs bs) (λ x rest. some_at one n (xs ++ x ∷ []) rest)

-- some things and one more
abbrev pub grown : {A : Type 0} → (List A → List ℕ → Parsed A) → List A → List ℕ → Parsed (List A)
grown one xs bs = then_on (one xs bs) (λ x rest. Ok (xs ++ x ∷ [], rest))

-- things behind their number
abbrev pub list_at : {A : Type 0} → ℕ → (List A → List ℕ → Parsed A) → List ℕ → Parsed (List A)
list_at end one bs = then_on (part_at end number_at bs) (λ n rest. some_at one n [] rest)

-- a function and its digest
unfoldable pub func_at : List ℕ → Part (List ℕ × List ℕ)
func_at bs = then_part (text_at bs) (λ name after. then_part (bytes_at 32 after) (λ digest rest. Ok ((name, digest), rest)))

-- a name comes after a function, if there is one
abbrev pub name_follows : Option (List ℕ × List ℕ) → List ℕ → Bool
name_follows None name = true
name_follows (Some f) name = name_before f.0 name

-- a name comes after those of all functions so far
abbrev pub name_last : List (List ℕ × List ℕ) → List ℕ → Bool
name_last funcs name = name_follows (slice_get funcs (length funcs - 1)) name

-- a function that comes after those before it
unfoldable pub next_func : ℕ → List (List ℕ × List ℕ) → List ℕ → Parsed (List ℕ × List ℕ)
next_func end funcs bs = then_on (part_at end func_at bs) (λ f rest. ordered (end - length bs) (name_last funcs f.0) f rest)

-- a root, with its offset
unfoldable pub next_root : ℕ → List (Task × ℕ) → List ℕ → Parsed (Task × ℕ)
next_root end roots bs = then_on (part_at end task_at bs) (λ task rest. Ok ((task, end - length bs), rest))

-- a record that may stand after those before it, with its height
abbrev pub ranked_as : ℕ → Option ℕ → TaskRecord → List ℕ → Parsed (TaskRecord × ℕ)
ranked_as at None r rest = Err (Order at)
ranked_as at (Some height) r rest = Ok ((r, height), rest)

unfoldable pub next_row : (List ℕ → Bool) → ℕ → Ranked → List ℕ → Parsed (TaskRecord × ℕ)
next_row known end rows bs = then_on (part_at end record_at bs) (λ r rest. ranked_as (end - length bs) (height_after known rows r) r rest)

-- the offset of the first root without a record
abbrev pub first_missing : Ranked → List (Task × ℕ) → Option ℕ
first_missing rows [] = None
first_missing rows (r ∷ roots) = cond (is_some (rank_in rows r.0)) (first_missing rows roots) (Some r.1)

-- what was read, if each root has a record and nothing is left
abbrev pub closed : Option ℕ → List ℕ → StoreImage → Result StoreImage StoreFault
closed (Some at) rest image = Err (Order at)
closed None [] image = Ok image
closed None (b ∷ rest) image = Err More

-- the roots of what was read, and the records
abbrev pub tasks_of : List (Task × ℕ) → List Task
tasks_of roots = map (λ (r : Task × ℕ). r.0) roots

abbrev pub rows_of : Ranked → List TaskRecord
rows_of rows = map (λ (r : TaskRecord × ℕ). r.0) rows

-- the fault of reading, or what follows from what was read
abbrev pub then_image : {A : Type 0} → Parsed A → (A → List ℕ → Result StoreImage StoreFault) → Result StoreImage StoreFault
then_image (Ok p) k = k p.0 p.1
then_image (Err e) k = Err e

-- the image of roots and records after a head
abbrev pub image_of : ℕ → Option (List ℕ) → List (List ℕ × List ℕ) → List (Task × ℕ) → Ranked → StoreImage
image_of version pipeline funcs roots rows =
    record { version = version; pipeline = pipeline; funcs = funcs; roots = tasks_of roots; rows = rows_of rows }

-- roots and records to the end
abbrev pub tail_of : ℕ → (List ℕ → Bool) → ℕ → Option (List ℕ) → List (List ℕ × List ℕ) → List ℕ → Result StoreImage StoreFault
tail_of end known version pipeline funcs bs =
    then_image (list_at end (next_root end) bs) (λ roots after.
    then_image (list_at end (next_row known end) after) (λ rows rest.
    closed (first_missing rows roots) rest (image_of version pipeline funcs roots rows)))

-- what stands after the version, in version 2 and in version 1
abbrev pub contents_2 : ℕ → List ℕ → Result StoreImage StoreFault
contents_2 end bs =
    then_image (list_at end (next_func end) bs) (λ funcs rest. tail_of end (knows (Some funcs)) 2 None funcs rest)

abbrev pub contents_1 : ℕ → List ℕ → Result StoreImage StoreFault
contents_1 end bs = then_image (part_at end (bytes_at 32) bs) (λ digest rest. tail_of end (knows None) 1 (Some digest) [] rest)

-- what a body says: all of a store but its digest
abbrev pub body_says : List ℕ → Result StoreImage StoreFault
body_says body = cond (slice_index body 4 == 1) (contents_1 (length body) (drop 5 body)) (contents_2 (length body) (drop 5 body))

-- what a store says
abbrev pub on_body : Result (List ℕ) StoreFault → Result StoreImage StoreFault
on_body (Ok body) = body_says body
on_body (Err e) = Err e

abbrev pub store_says : List ℕ → Result StoreImage StoreFault
store_says bs = on_body (framed bs)
