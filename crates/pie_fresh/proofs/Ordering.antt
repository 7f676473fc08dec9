-- The records at places stand in the order of a store.
use Rattle.std.proofs.Common.{◌≡◌, ℕ, suc, ◌+◌, ◌<◌, max, List, [], ◌∷◌, ◌++◌, length, get_or, Some, None, sym, ap, subst, refl, ◌∙◌, arith, inl, inr}
use Rattle.std.specs.Prelude.{All, Contains, Option, Vec, IfSome, slice_get}
use Rattle.std.specs.List.{AllByRecursion, AllPairs, AllZip}
use Rattle.std.specs.List.Sorted.{IsStrictlySortedBy}
use Rattle.std.specs.Option.{option_to_list}
use Rattle.std.specs.declared.cmp.Ordering.{Ordering}
use Rattle.std.specs.declared.cmp.Ordering.TheVariants.{Less, Equal, Greater}
use Rattle.std.specs.Ordering.{nat_cmp, ordering_then, MatchOrdering}
use Rattle.std.specs.Cmp.{ranks}
use Rattle.std.specs.Cmp.Lexicographic.{slice_cmp}
use Rattle.std.proofs.lemmas.List.Elements.{All-nil, All-cons}
use Rattle.std.proofs.lemmas.List.Kept.{AllPairs-cons}
use Rattle.std.proofs.lemmas.Option.{slice_get_within, get_or_from_slice_get}
use Rattle.pie_value.specs.declared.task.Task.{Task}
use Rattle.pie_value.specs.Canonical.{enc_task, IsCanonicalTask}
use Rattle.pie_value.specs.Order.{byte_order}
use Rattle.pie_record.specs.declared.task_record.TaskRecord.{TaskRecord}
use Rattle.pie_record.specs.inner.Names.{AreDistinct}
use Rattle.pie_record.specs.inner.Records.{record_of}
use Rattle.pie_record.proofs.Naming.{bytes_tell}
use Rattle.pie_store.specs.Canonical.{tasks_in, needs, over, RowBefore}
use Rattle.pie_fresh.specs.declared.ledger.Ledger.{Ledger}
use Rattle.pie_fresh.specs.inner.Ledgers.{HasHeight, Rises, IsRecorded, IsLedger}
use Rattle.pie_fresh.specs.inner.Ordered.{Place, place_cmp, keys_in, IsPlace, HasPlace, ArePlaces, recorded, AreOrdered}
use Rattle.pie_fresh.proofs.Heights.{in_order, height_in, height_at}

abbrev pub IsTold : Task → Type 0
IsTold t = IsCanonicalTask t (enc_task t)

-- ---- places and their records

pub placed_zip : {Z : Type 0} (l : Ledger) (es : List (Place Z)) → AllByRecursion (λ (p : Place Z). (r : TaskRecord) × IsPlace l p r) es
    → AllZip (IsPlace l) es (recorded l.records es)
placed_zip l [] all = tt
placed_zip {Z} l (p ∷ es) all =
    subst (λ o. AllZip (IsPlace l) (p ∷ es) (option_to_list o ++ recorded l.records es)) (sym all.0.1.done) (all.0.1, placed_zip l es all.1)

pub rows_all : {Z : Type 0} (l : Ledger) (P : TaskRecord → Type 0) → ((p : Place Z) (r : TaskRecord) → IsPlace l p r → P r) → (es : List (Place Z))
    (rows : List TaskRecord) → AllZip (IsPlace l) es rows → All P rows
rows_all l P h [] [] z = All-nil P
rows_all l P h [] (r ∷ rows) z = elim z [ ]
rows_all l P h (p ∷ es) [] z = elim z [ ]
rows_all l P h (p ∷ es) (r ∷ rows) z = All-cons P r rows (h p r z.0) (rows_all l P h es rows z.1)

zip_length : {Z : Type 0} (l : Ledger) (es : List (Place Z)) (rows : List TaskRecord) → AllZip (IsPlace l) es rows → length rows ≡ length es
zip_length l [] [] z = refl
zip_length l [] (r ∷ rows) z = elim z [ ]
zip_length l (p ∷ es) [] z = elim z [ ]
zip_length l (p ∷ es) (r ∷ rows) z = let rest = zip_length l es rows z.1 in omega (arith, rest)

pub recorded_at : (l : Ledger) (n : ℕ) (r : TaskRecord) → IsLedger l → record_of l.records n ≡ Some r → IsRecorded l n r
recorded_at l n r is e = subst (λ o. IfSome o (IsRecorded l n)) e (is.recorded n)

pub named_contains : (names : List Task) (n : ℕ) (t : Task) → slice_get names n ≡ Some t → Contains names t
named_contains names n t e = (n, slice_get_within names n t e, get_or_from_slice_get names n t t e)

some_same : (t u : Task) → Some t ≡ Some u → t ≡ u
some_same t u e = cc

pub told_at : (names : List Task) (n : ℕ) (t : Task) → All IsTold names → slice_get names n ≡ Some t → IsTold t
told_at names n t all e = subst IsTold (get_or_from_slice_get names n t t e) (all n t (slice_get_within names n t e))

-- ---- the order

before : (height : Task → ℕ) (n m : ℕ) (a b : List ℕ) (r s : TaskRecord) → height r.task ≡ n → height s.task ≡ m → a ≡ enc_task r.task → b ≡ enc_task s.task
    → ordering_then (nat_cmp n m) (slice_cmp nat_cmp a b) ≡ Less → RowBefore height r s
before height n m a b r s hr hs ar bs e = by (nat_cmp n m) (ranks n m) e
  where
    by : (o : Ordering) → MatchOrdering o (n < m) (n ≡ m) (m < n) → ordering_then o (slice_cmp nat_cmp a b) ≡ Less → RowBefore height r s
    by Less lt h = inl (omega (arith, lt, hr, hs))
    by Equal eq h =
        inr (hr ∙ eq ∙ sym hs, subst (λ (x : List ℕ). byte_order x (enc_task s.task) ≡ Less) ar (subst (λ (y : List ℕ). byte_order a y ≡ Less) bs h))
    by Greater gt h = absurd (cc)

all_after : {Z : Type 0} (l : Ledger) (height : Task → ℕ) → ((p : Place Z) (r : TaskRecord) → IsPlace l p r → height r.task ≡ p.0.0) → (p : Place Z)
    (r : TaskRecord) (es : List (Place Z)) (rows : List TaskRecord) → IsPlace l p r → AllZip (IsPlace l) es rows
    → AllByRecursion (λ (y : ℕ × Vec ℕ Z). place_cmp p.0 y ≡ Less) (keys_in es) → All (RowBefore height r) rows
all_after l height h p r [] [] is z less = All-nil (RowBefore height r)
all_after l height h p r [] (s ∷ rows) is z less = elim z [ ]
all_after l height h p r (q ∷ es) [] is z less = elim z [ ]
all_after l height h p r (q ∷ es) (s ∷ rows) is z less =
    All-cons (RowBefore height r) s rows
    (before height p.0.0 q.0.0 p.0.1.items q.0.1.items r s (h p r is) (h q s z.0) is.bytes z.0.bytes less.0)
    (all_after l height h p r es rows is z.1 less.1)

rows_ascend : {Z : Type 0} (l : Ledger) (height : Task → ℕ) → ((p : Place Z) (r : TaskRecord) → IsPlace l p r → height r.task ≡ p.0.0) → (es : List (Place Z))
    (rows : List TaskRecord) → AllZip (IsPlace l) es rows → IsStrictlySortedBy place_cmp (keys_in es) → AllPairs (RowBefore height) rows
unfolding IsStrictlySortedBy
rows_ascend l height h [] [] z asc = λ i j d lt within. absurd (omega (arith, within))
rows_ascend l height h [] (r ∷ rows) z asc = elim z [ ]
rows_ascend l height h (p ∷ es) [] z asc = elim z [ ]
rows_ascend l height h (p ∷ es) (r ∷ rows) z asc =
    AllPairs-cons (RowBefore height) r rows (all_after l height h p r es rows z.0 z.1 asc.0) (rows_ascend l height h es rows z.1 asc.1)

-- ---- heights

rises_over : (l : Ledger) (height : Task → ℕ) → ((t : Task) (h : ℕ) → HasHeight l t h → height t ≡ h) → (ts : List Task) (low high : ℕ) → Rises l ts low high
    → over height ts low ≡ high
rises_over l height told [] low high r = r
rises_over l height told (t ∷ ts) low high r =
    ap (λ k. over height ts (max low (k + 1))) (told t r.0 r.1) ∙ rises_over l height told ts (max low (r.0 + 1)) high r.2

risen_all : (l : Ledger) (P : Task → Type 0) → ((t : Task) (h : ℕ) → HasHeight l t h → P t) → (ts : List Task) (low high : ℕ) → Rises l ts low high → All P ts
risen_all l P h [] low high r = All-nil P
risen_all l P h (t ∷ ts) low high r = All-cons P t ts (h t r.0 r.1) (risen_all l P h ts (max low (r.0 + 1)) high r.2)

-- ---- each record has its row

place_row : {Z : Type 0} (l : Ledger) (height : ℕ) (r : TaskRecord) (es : List (Place Z)) (rows : List TaskRecord) → IsTold r.task
    → ((p : Place Z) (s : TaskRecord) → IsPlace l p s → IsTold s.task) → AllZip (IsPlace l) es rows → HasPlace height (enc_task r.task) es
    → Contains (tasks_in rows) r.task
place_row l height r [] rows told all z has = elim has [ ]
place_row l height r (p ∷ es) [] told all z has = elim z [ ]
place_row l height r (p ∷ es) (s ∷ rows) told all z (inl at) =
    (0, omega arith, bytes_tell s.task r.task (all p s z.0) told (sym z.0.bytes ∙ at.1))
place_row l height r (p ∷ es) (s ∷ rows) told all z (inr more) =
    let m = place_row l height r es rows told all z.1 more in (suc m.0, omega (arith, m.1), m.2)

if_some : (o : Option TaskRecord) (P : TaskRecord → Type 0) → ((r : TaskRecord) → o ≡ Some r → P r) → IfSome o P
if_some None P h = tt
if_some (Some r) P h = h r refl

-- ---- all of it

pub ordered_rows : {Z : Type 0} (l : Ledger) (es : List (Place Z)) (rows : List TaskRecord) → IsLedger l → AreDistinct l.names → All IsTold l.names
    → ArePlaces l (length l.heights.items) es → rows ≡ recorded l.records es → AreOrdered l rows
ordered_rows {Z} l es rows is distinct canonical a e = record {
  order = in_order height rows (rows_ascend l height placed_height es rows zip a.ascending)
      (rows_all l (λ r. height r.task ≡ over height (needs r) 0) placed_over es rows zip)
      (rows_all l (λ r. All (λ (t : Task). Contains (tasks_in rows) t) (needs r)) placed_closed es rows zip);
  few = let size = zip_length l es rows zip in omega (arith, size, a.few, is.heights);
  named = rows_all l (λ r. Contains l.names r.task) (λ p r at. named_contains l.names p.1 r.task (recorded_at l p.1 r is at.done).named) es rows zip;
  each = λ n. if_some (record_of l.records n) (λ r. Contains (tasks_in rows) r.task) (row_at n);
}
  where
    height : Task → ℕ
    height = height_in l.names l.heights.items

    zip : AllZip (IsPlace l) es rows
    zip = subst (λ (rs : List TaskRecord). AllZip (IsPlace l) es rs) (sym e) (placed_zip l es a.only)

    named_height : (n : ℕ) (t : Task) → slice_get l.names n ≡ Some t → height t ≡ get_or l.heights.items n 0
    named_height n t named = height_at l.names l.heights.items n t is.heights canonical distinct named

    placed_height : (p : Place Z) (r : TaskRecord) → IsPlace l p r → height r.task ≡ p.0.0
    placed_height p r at = named_height p.1 r.task (recorded_at l p.1 r is at.done).named ∙ at.high

    told_height : (t : Task) (h : ℕ) → HasHeight l t h → height t ≡ h
    told_height t h has = named_height has.number t has.named ∙ has.high.high

    placed_told : (p : Place Z) (s : TaskRecord) → IsPlace l p s → IsTold s.task
    placed_told p s at = told_at l.names p.1 s.task canonical (recorded_at l p.1 s is at.done).named

    placed_over : (p : Place Z) (r : TaskRecord) → IsPlace l p r → height r.task ≡ over height (needs r) 0
    placed_over p r at =
        let known : IsRecorded l p.1 r = recorded_at l p.1 r is at.done in
        named_height p.1 r.task known.named ∙ sym (rises_over l height told_height (needs r) 0 (get_or l.heights.items p.1 0) known.risen)

    row_at : (n : ℕ) (r : TaskRecord) → record_of l.records n ≡ Some r → Contains (tasks_in rows) r.task
    row_at n r found =
        let known : IsRecorded l n r = recorded_at l n r is found in
        let inside : n < length l.names = slice_get_within l.names n r.task known.named in
        let has : HasPlace (get_or l.heights.items n 0) (enc_task r.task) es
        = subst (λ o. IfSome o (λ s. HasPlace (get_or l.heights.items n 0) (enc_task s.task) es)) found (a.each n (omega (arith, inside, is.heights))) in
        place_row l (get_or l.heights.items n 0) r es rows (told_at l.names n r.task canonical known.named) placed_told zip has

    has_row : (t : Task) (h : ℕ) → HasHeight l t h → Contains (tasks_in rows) t
    has_row t h has =
        let known : IsRecorded l has.number has.high.rec = recorded_at l has.number has.high.rec is has.high.done in
        let same : has.high.rec.task ≡ t = some_same has.high.rec.task t (sym known.named ∙ has.named) in
        subst (λ (u : Task). Contains (tasks_in rows) u) same (row_at has.number has.high.rec has.high.done)

    placed_closed : (p : Place Z) (r : TaskRecord) → IsPlace l p r → All (λ (t : Task). Contains (tasks_in rows) t) (needs r)
    placed_closed p r at =
        risen_all l (λ (t : Task). Contains (tasks_in rows) t) has_row (needs r) 0 (get_or l.heights.items p.1 0) (recorded_at l p.1 r is at.done).risen
