-- Tasks that stand before those that require them.
use Rattle.std.proofs.Common.{◌≡◌, ℕ, ◌<◌, ◌≤◌, List, [], ◌∷◌, ◌++◌, length, get_or, drop, take, map, Option, Some, sym, ap, subst, ◌∙◌, arith, inl, inr}
use Rattle.std.specs.Prelude.{All, Contains, slice_get}
use Rattle.std.proofs.lemmas.Bool.{cases_lt}
use Rattle.std.proofs.lemmas.List.{get_or-map, get_or_append_left, get_or_default, length-append, length-map, length-take, map-append, take-append-drop}
use Rattle.std.proofs.lemmas.List.Elements.{All-contains, Contains-append_left, Contains-get_or}
use Rattle.std.proofs.lemmas.Option.{get_or_from_slice_get, slice_get-get_or, slice_get_within}
use Rattle.pie_value.specs.declared.task.Task.{Task}
use Rattle.pie_graph.specs.Rows.{Row, no_edges, row_at, Calls, NeedsBelow}
use Rattle.pie_reach.proofs.WalkSteps.{caller_below}
use Rattle.pie_record.specs.declared.task_record.Outcome.TheVariants.{Cycled}
use Rattle.pie_record.specs.declared.task_record.TaskRecord.{TaskRecord}
use Rattle.pie_record.specs.inner.Names.{AreDistinct}
use Rattle.pie_store.specs.Canonical.{AreInOrder, needs, tasks_in}
use Rattle.pie_walk.specs.States.{NeedsAreEarlier}
use Rattle.pie_old.specs.inner.Rows.{AreNamed, AreRowsOf}

has_map : {X Y : Type 0} (f : X → Y) (xs : List X) (x : X) → Contains xs x → Contains (map f xs) (f x)
has_map f xs x c = (c.0, let long = length-map xs f in omega (arith, long, c.1), get_or-map f xs c.0 x (f x) c.1 ∙ ap f c.2)

map_has : {X Y : Type 0} (f : X → Y) (xs : List X) (y : Y) → Contains (map f xs) y → (x : X) × Contains xs x × (y ≡ f x)
map_has f [] y c = absurd (omega (arith, c.1))
map_has f (x ∷ xs) y c =
    let inside : c.0 < length (x ∷ xs) = let long = length-map (x ∷ xs) f in omega (arith, long, c.1) in
    (get_or (x ∷ xs) c.0 x, Contains-get_or (x ∷ xs) c.0 x inside, sym c.2 ∙ get_or-map f (x ∷ xs) c.0 x y inside)

get_of : {X : Type 0} (xs : List X) (x : X) → Contains xs x → (j : ℕ) × (j < length xs) × (slice_get xs j ≡ Some x)
get_of xs x c = (c.0, c.1, slice_get-get_or xs c.0 x c.1 ∙ ap Some c.2)

-- a task has one place among distinct ones
same_place : (tasks : List Task) (i j : ℕ) (t : Task) → AreDistinct tasks → slice_get tasks i ≡ Some t → slice_get tasks j ≡ Some t → i ≡ j
same_place tasks i j t distinct e f =
    let at : get_or tasks i t ≡ t = get_or_from_slice_get tasks i t t e in
    let there : get_or tasks j t ≡ t = get_or_from_slice_get tasks j t t f in
    let m : i < length tasks = slice_get_within tasks i t e in
    let n : j < length tasks = slice_get_within tasks j t f in
    elim (cases_lt i j) [
      | inl lt ↦ absurd (distinct i j t lt n (at ∙ sym there))
      | inr ge ↦ elim (cases_lt j i) [
        | inl lt ↦ absurd (distinct j i t lt m (there ∙ sym at))
        | inr le ↦ omega (arith, ge, le)
      ]
    ]

blank : Task → TaskRecord
blank t = record { task = t; deps = []; writes = []; outcome = Cycled [] }

-- no two records in order are of one task
pub distinct_in : (records : List TaskRecord) → AreInOrder records → AreDistinct (tasks_in records)
distinct_in records order i j d lt within =
    let n : j < length records = let long = length-map records (λ (r : TaskRecord). r.task) in omega (arith, long, within) in
    let m : i < length records = omega (arith, lt, n) in
    λ e. order.once i j (blank d) lt n
    (sym (get_or-map (λ (r : TaskRecord). r.task) records i (blank d) d m) ∙ e ∙ get_or-map (λ (r : TaskRecord). r.task) records j (blank d) d n)

before_all : (records : List TaskRecord) (i : ℕ) (t : Task) → Contains (tasks_in (take i records)) t → Contains (tasks_in records) t
before_all records i t c =
    subst (λ (rs : List TaskRecord). Contains (tasks_in rs) t) (take-append-drop i records)
    (subst (λ (ts : List Task). Contains ts t) (sym (map-append (λ (r : TaskRecord). r.task) (take i records) (drop i records)))
    (Contains-append_left (tasks_in (take i records)) (tasks_in (drop i records)) t c))

-- what records in order require has a record
pub named_in : (records : List TaskRecord) → AreInOrder records → All (AreNamed (tasks_in records)) records
named_in records order k d lt i t m = before_all records k (get_or (needs (get_or records k d)) i t) (order.earlier k d lt i t m)

-- the place of one of the tasks before another
place_before : (records : List TaskRecord) (a b : ℕ) (t : Task) → AreDistinct (tasks_in records) → slice_get (tasks_in records) b ≡ Some t
    → Contains (tasks_in (take a records)) t → b < a
place_before records a b t distinct e c =
    let front = tasks_in (take a records) in
    let back = tasks_in (drop a records) in
    let whole : tasks_in records ≡ front ++ back =
    ap tasks_in (sym (take-append-drop a records)) ∙ map-append (λ (r : TaskRecord). r.task) (take a records) (drop a records) in
    let low : length front ≤ a =
    let long = length-map (take a records) (λ (r : TaskRecord). r.task) in let few = length-take a records in omega (arith, long, few) in
    let there : slice_get (tasks_in records) c.0 ≡ Some t =
    ap (λ (ts : List Task). slice_get ts c.0) whole
    ∙ slice_get-get_or (front ++ back) c.0 t (let long = length-append front back in omega (arith, long, c.1))
    ∙ ap Some (get_or_append_left front back t c.0 c.1 ∙ c.2) in
    let same = same_place (tasks_in records) b c.0 t distinct e there in
    omega (arith, same, c.1, low)

-- the task that a number in a row stands for
required_by : (records : List TaskRecord) (rows : List Row) (a b : ℕ) (r : TaskRecord) → AreRowsOf (tasks_in records) records rows → Calls rows a b
    → slice_get records a ≡ Some r → (t : Task) × Contains (needs r) t × (slice_get (tasks_in records) b ≡ Some t)
required_by records rows a b r of calls e =
    map_has Some (needs r) (slice_get (tasks_in records) b)
    (subst (λ (os : List (Option Task)). Contains os (slice_get (tasks_in records) b)) (of.each a r e).needs
    (has_map (slice_get (tasks_in records)) (row_at rows a).needs b calls))

record_there : (records : List TaskRecord) (a : ℕ) → a < length records → (r : TaskRecord) × (slice_get records a ≡ Some r)
record_there [] a l = absurd (omega (arith, l))
record_there (r ∷ rs) a l = (get_or (r ∷ rs) a r, slice_get-get_or (r ∷ rs) a r l)

-- the number of a required task is lower
pub earlier_in : (records : List TaskRecord) (rows : List Row) → AreInOrder records → AreRowsOf (tasks_in records) records rows → NeedsAreEarlier rows
earlier_in records rows order of a b calls =
    let inside : a < length records = let low = caller_below rows a b calls in omega (arith, low, of.as_many) in
    let r = record_there records a inside in
    let task = required_by records rows a b r.0 of calls r.1 in
    let same : get_or records a r.0 ≡ r.0 = get_or_from_slice_get records a r.0 r.0 r.1 in
    let before : All (λ (t : Task). Contains (tasks_in (take a records)) t) (needs r.0) =
    subst (λ (x : TaskRecord). All (λ (t : Task). Contains (tasks_in (take a records)) t) (needs x)) same (order.earlier a r.0 inside) in
    place_before records a b task.0 (distinct_in records order) task.2
    (All-contains (λ (t : Task). Contains (tasks_in (take a records)) t) (needs r.0) task.0 before task.1)

pub below_in : (rows : List Row) → NeedsAreEarlier rows → NeedsBelow rows
below_in rows earlier k row lt i n m =
    let same : get_or rows k row ≡ row_at rows k = get_or_default rows k row no_edges lt in
    let calls : Calls rows k (get_or (get_or rows k row).needs i n) =
    subst (λ (x : Row). Contains x.needs (get_or (get_or rows k row).needs i n)) same (Contains-get_or (get_or rows k row).needs i n m) in
    let low = earlier k (get_or (get_or rows k row).needs i n) calls in
    omega (arith, low, lt)
