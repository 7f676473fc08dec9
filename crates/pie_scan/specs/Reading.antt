-- What is read from the bytes of a manifest: what it says, or the first fault.
use Rattle.std.specs.Prelude.{ℕ, zero, suc, ◌-◌, ◌==◌, Bool, true, not, ◌&&◌, cond, List, [], ◌∷◌, ◌++◌, length, drop, Result, Ok, Err, Option, Some, None}
use Rattle.std.specs.Prelude.{slice_get}
use Rattle.std.specs.Ordering.{is_lt}
use Rattle.pie_base.specs.Path.{is_out}
use Rattle.pie_record.specs.declared.record_fault.RecordFault.{RecordFault}
use Rattle.pie_record.specs.declared.record_fault.RecordFault.TheVariants.{Short as NoMore, BadTag, BadPath, BadValue, OutOfMemory as NoMemory}
use Rattle.pie_record.specs.Reading.{Parsed as Part, then_on as then_part, bytes_at, path_at, number_at, mark_at}
use Rattle.pie_scan.specs.declared.entry.Entry.{Entry}
use Rattle.pie_scan.specs.declared.manifest.Manifest.{Manifest}
use Rattle.pie_scan.specs.declared.manifest_fault.ManifestFault.{ManifestFault}
use Rattle.pie_scan.specs.declared.manifest_fault.ManifestFault.TheVariants.{Entry as BadEntry, Order, Rest as More, OutOfMemory}
use Rattle.pie_scan.specs.Entries.{path_cmp}
use Rattle.pie_scan.specs.Frame.{framed}

-- what is read and the bytes after it, or a fault
abbrev pub Parsed : Type 0 → Type 0
Parsed A = Result (A × List ℕ) ManifestFault

-- reading one thing and then another; the first fault stays
abbrev pub then_on : {A B : Type 0} → Parsed A → (A → List ℕ → Parsed B) → Parsed B
then_on (Ok p) k = k p.0 p.1
then_on (Err e) k = Err e

-- a part that can't be read, by its offset
abbrev pub part_fault : ℕ → RecordFault → ManifestFault
part_fault at NoMore = BadEntry at
part_fault at BadTag = BadEntry at
part_fault at BadPath = BadEntry at
part_fault at BadValue = BadEntry at
part_fault at NoMemory = OutOfMemory

abbrev pub placed : {A : Type 0} → ℕ → Part A → Parsed A
placed at (Ok p) = Ok p
placed at (Err e) = Err (part_fault at e)

-- a part that begins where so many bytes are left of so many
abbrev pub part_at : {A : Type 0} → ℕ → (List ℕ → Part A) → List ℕ → Parsed A
part_at end one bs = placed (end - length bs) (one bs)

-- the path by which tops, and entries, are ordered
abbrev pub path_key : List ℕ → List ℕ
path_key path = path

abbrev pub entry_key : Entry → List ℕ
entry_key e = e.path

-- a thing comes after another, if there is one
abbrev pub follows : {A : Type 0} → (A → List ℕ) → Option A → A → Bool
follows key None x = true
follows key (Some y) x = is_lt (path_cmp (key y) (key x))

-- a thing comes after the last of these
abbrev pub is_last : {A : Type 0} → (A → List ℕ) → List A → A → Bool
is_last key xs x = follows key (slice_get xs (length xs - 1)) x

-- what passes, or that it is out of order
abbrev pub ordered : {A : Type 0} → ℕ → Bool → A → List ℕ → Parsed A
ordered at good a rest = cond good (Ok (a, rest)) (Err (Order at))

-- a thing that comes after those before it
unfoldable pub next_at : {A : Type 0} → ℕ → (A → List ℕ) → (List ℕ → Part A) → List A → List ℕ → Parsed A
next_at end key one xs bs = then_on (part_at end one bs) (λ x rest. ordered (end - length bs) (is_last key xs x) x rest)

-- so many things more, after some; each may depend on those before it
abbrev pub some_at : {A : Type 0} → (List A → List ℕ → Parsed A) → ℕ → List A → List ℕ → Parsed (List A)
some_at one zero xs bs = Ok (xs, bs)
some_at one (suc n) xs bs = then_on (one xs bs) (λ x rest. some_at one n (xs ++ x ∷ []) rest)

-- things behind their number, in order
abbrev pub list_at : {A : Type 0} → ℕ → (List ℕ → Part ℕ) → (A → List ℕ) → (List ℕ → Part A) → List ℕ → Parsed (List A)
list_at end count key one bs = then_on (part_at end count bs) (λ n rest. some_at (next_at end key one) n [] rest)

-- an entry, whose mark is 0 under `out/`
abbrev pub marked : Bool → Entry → List ℕ → Part Entry
marked bad e rest = cond bad (Err BadValue) (Ok (e, rest))

unfoldable pub entry_part : List ℕ → Part Entry
entry_part bs =
    then_part (path_at bs) (λ path after_path.
    then_part (mark_at after_path) (λ mark after_mark.
    then_part (bytes_at 32 after_mark) (λ hash rest.
    marked (is_out path && not (mark == 0)) (record { path = path; mark = mark; hash = hash }) rest)))

-- what was read, if nothing is left
abbrev pub closed : List ℕ → Manifest → Result Manifest ManifestFault
closed [] m = Ok m
closed (b ∷ rest) m = Err More

-- the fault of reading, or what follows from what was read
abbrev pub then_manifest : {A : Type 0} → Parsed A → (A → List ℕ → Result Manifest ManifestFault) → Result Manifest ManifestFault
then_manifest (Ok p) k = k p.0 p.1
then_manifest (Err e) k = Err e

-- entries, and nothing else
abbrev pub after_tops : ℕ → List ℕ → List (List ℕ) → List ℕ → Result Manifest ManifestFault
after_tops end store tops bs =
    then_manifest (list_at end mark_at entry_key entry_part bs) (λ entries rest. closed rest (record { store = store; tops = tops; entries = entries }))

-- tops, and then entries
abbrev pub after_store : ℕ → List ℕ → List ℕ → Result Manifest ManifestFault
after_store end store bs = then_manifest (list_at end number_at path_key path_at bs) (after_tops end store)

-- what stands after the version: the hash of the store, tops and entries, and nothing else
abbrev pub contents : ℕ → List ℕ → Result Manifest ManifestFault
contents end bs = then_manifest (part_at end (bytes_at 32) bs) (after_store end)

-- what a body says: all of a manifest but its digest
abbrev pub body_says : List ℕ → Result Manifest ManifestFault
body_says body = contents (length body) (drop 5 body)

-- what a manifest says
abbrev pub on_body : Result (List ℕ) ManifestFault → Result Manifest ManifestFault
on_body (Ok body) = body_says body
on_body (Err e) = Err e

abbrev pub manifest_says : List ℕ → Result Manifest ManifestFault
manifest_says bs = on_body (framed bs)
