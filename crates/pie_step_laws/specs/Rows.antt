-- The rows of the store: the kept records in the order of heights and tasks.
use Rattle.std.specs.Prelude.{ℕ, ◌+◌, ◌<◌, ◌≡◌, ◌⊎◌, max, true, All, Option, Some, List, [], ◌∷◌, map}
use Rattle.std.specs.List.{AllPairs}
use Rattle.std.specs.Ordering.{nat_cmp}
use Rattle.std.specs.Cmp.Lexicographic.{slice_cmp}
use Rattle.std.specs.declared.cmp.Ordering.TheVariants.{Less}
use Rattle.pie_model.specs.Paths.{among}
use Rattle.pie_model.specs.Tasks.{Task}
use Rattle.pie_model.specs.Evaluation.{World, Project, evaluation}
use Rattle.pie_model.specs.Records.{Record, needs_of}
use Rattle.pie_model.specs.Built.{height, store_rows}
use Rattle.pie_step_laws.specs.Table.{Rests}
use Rattle.pie_step_laws.specs.Roots.{Between}

-- at least so much, and above the heights of some tasks
abbrev pub over : (Task → ℕ) → List Task → ℕ → ℕ
over h [] n = n
over h (t ∷ ts) n = over h ts (max n (h t + 1))

-- a recorded task has no height where it requires none, and else one more than the greatest height of the tasks that it requires
abbrev pub AreHeights : (Task → Option Record) → (Task → ℕ) → Type 0
AreHeights R h = (t : Task) (r : Record) → R t ≡ Some r → h t ≡ over h (needs_of r.observations) 0

-- a task comes before another: at a lower height, and at one height by its bytes
abbrev pub ComesBefore : (Task → ℕ) → Task → Task → Type 0
ComesBefore h s t = (h s < h t) ⊎ ((h s ≡ h t) × (slice_cmp nat_cmp s t ≡ Less))

-- these are the records of all entered tasks, in the order of heights and tasks
pub record AreRows (R : Task → Option Record) (names : List Task) (h : Task → ℕ) (rows : List Record) : Type 0 where
  pub kept : All (λ (r : Record). R r.task ≡ Some r) rows
  pub whole : (t : Task) → among t names ≡ true → among t (map (λ (r : Record). r.task) rows) ≡ true
  pub ascending : AllPairs (λ (r s : Record). ComesBefore h r.task s.task) rows

-- the height of an entered task is that of its evaluation
abbrev pub HeightsAreLevels : Type 0
HeightsAreLevels =
    (w : World) (P : Project) (R : Task → Option Record) (names : List Task) (h : Task → ℕ) (t : Task) → Rests w P R names → AreHeights R h
    → among t names ≡ true → h t ≡ height (evaluation w P t)

-- once all roots are done these rows are those of the store
abbrev pub RowsInOrder : Type 0
RowsInOrder =
    (w : World) (P : Project) (roots : List Task) (R : Task → Option Record) (names : List Task) (h : Task → ℕ) (rows : List Record)
    → Between w P roots R names → AreHeights R h → AreRows R names h rows → rows ≡ store_rows w P roots

-- where the rows have all records, it is enough that they have the heights
abbrev pub HeightsOfRows : Type 0
HeightsOfRows =
    (w : World) (P : Project) (R : Task → Option Record) (names : List Task) (h : Task → ℕ) (rows : List Record) → Rests w P R names
    → AreRows R names h rows → All (λ (r : Record). h r.task ≡ over h (needs_of r.observations) 0) rows → AreHeights R h
