-- What is read from the bytes of a cache file: its entries, or the first fault.
use Rattle.std.specs.Prelude.{ℕ, zero, suc, ◌-◌, nat_le, Bool, ◌&&◌, cond, List, [], ◌∷◌, ◌++◌, length, drop, slice_index, Result, Ok, Err}
use Rattle.std.specs.Str.{bytes_eq}
use Rattle.sha2.specs.Sha256.{sha256}
use Rattle.pie_record.specs.declared.record_fault.RecordFault.{RecordFault}
use Rattle.pie_record.specs.declared.record_fault.RecordFault.TheVariants.{Short as NoMore, BadTag, BadPath, BadValue, OutOfMemory as NoMemory}
use Rattle.pie_record.specs.Reading.{Parsed as Part, then_on as then_part, counted_at, record_at}
use Rattle.pie_store.specs.inner.Offers.{Offered}
use Rattle.pie_cache.specs.declared.cache_fault.CacheFault.{CacheFault}
use Rattle.pie_cache.specs.declared.cache_fault.CacheFault.TheVariants.{Count, Entry, Rest, OutOfMemory}
use Rattle.pie_cache.specs.inner.Frame.{framed}

-- what is read and the bytes after it, or a fault
abbrev pub Parsed : Type 0 → Type 0
Parsed A = Result (A × List ℕ) CacheFault

-- reading one thing and then another; the first fault stays
abbrev pub then_on : {A B : Type 0} → Parsed A → (A → List ℕ → Parsed B) → Parsed B
then_on (Ok p) k = k p.0 p.1
then_on (Err e) k = Err e

-- an entry that can't be read, by its offset
abbrev pub part_fault : ℕ → RecordFault → CacheFault
part_fault at NoMore = Entry at
part_fault at BadTag = Entry at
part_fault at BadPath = Entry at
part_fault at BadValue = Entry at
part_fault at NoMemory = OutOfMemory

abbrev pub placed : {A : Type 0} → ℕ → Part A → Parsed A
placed at (Ok p) = Ok p
placed at (Err e) = Err (part_fault at e)

-- a part that begins where so many bytes are left of so many
abbrev pub part_at : {A : Type 0} → ℕ → (List ℕ → Part A) → List ℕ → Parsed A
part_at end one bs = placed (end - length bs) (one bs)

-- a content that has this hash, behind its length
abbrev pub hashed : List ℕ → List ℕ → List ℕ → Part (List ℕ)
hashed hash content rest = cond (bytes_eq (sha256 content) hash) (Ok (content, rest)) (Err BadValue)

unfoldable pub content_at : List ℕ → List ℕ → Part (List ℕ)
content_at hash bs = then_part (counted_at bs) (hashed hash)

-- the contents of writes, one after another, after some
abbrev pub contents_at : List (List ℕ × List ℕ) → List (List ℕ) → List ℕ → Part (List (List ℕ))
contents_at [] contents bs = Ok (contents, bs)
contents_at (w ∷ writes) contents bs = then_part (content_at w.1 bs) (λ c rest. contents_at writes (contents ++ c ∷ []) rest)

-- an entry: a record, and the contents of its writes
unfoldable pub entry_part : List ℕ → Part Offered
entry_part bs =
    then_part (record_at bs) (λ row after_row.
    then_part (contents_at row.writes [] after_row) (λ contents rest. Ok ((row, contents), rest)))

-- so many entries more, after some
abbrev pub some_at : ℕ → ℕ → List Offered → List ℕ → Parsed (List Offered)
some_at end zero entries bs = Ok (entries, bs)
some_at end (suc n) entries bs = then_on (part_at end entry_part bs) (λ e rest. some_at end n (entries ++ e ∷ []) rest)

-- what was read, if nothing is left
abbrev pub closed : List Offered → List ℕ → Result (List Offered) CacheFault
closed entries [] = Ok entries
closed entries (b ∷ rest) = Err Rest

-- the fault of reading, or what was read, if nothing is left
abbrev pub then_closed : Parsed (List Offered) → Result (List Offered) CacheFault
then_closed (Ok p) = closed p.0 p.1
then_closed (Err e) = Err e

-- how many entries there may be
abbrev pub is_count : ℕ → Bool
is_count n = nat_le 1 n && nat_le n 4

-- so many entries that begin behind the number, and nothing else
abbrev pub counted_says : ℕ → ℕ → List ℕ → Result (List Offered) CacheFault
counted_says end n inside = cond (is_count n) (then_closed (some_at end n [] inside)) (Err Count)

-- what a body says: all of a cache file but its digest
abbrev pub body_says : List ℕ → Result (List Offered) CacheFault
body_says body = counted_says (length body) (slice_index body 5) (drop 6 body)

-- what a cache file says
abbrev pub on_body : Result (List ℕ) CacheFault → Result (List Offered) CacheFault
on_body (Ok body) = body_says body
on_body (Err e) = Err e

abbrev pub cache_says : List ℕ → Result (List Offered) CacheFault
cache_says bs = on_body (framed bs)
