-- What the rows of a graph show at a path is what the kept contents show in the model.
use Rattle.std.specs.Prelude.{◌≡◌, ℕ, List, [], ◌∷◌, ◌++◌, map, length, Option, Some, None, option_map, slice_get, slice_set, ◌<◌}
use Rattle.pie_value.specs.declared.task.Task.{Task}
use Rattle.pie_value.specs.Canonical.{enc_task}
use Rattle.pie_graph.specs.Rows.{Row, row_at, no_edges}
use Rattle.pie_record.specs.declared.records.Records.{Records}
use Rattle.pie_record.specs.declared.task_record.TaskRecord.{TaskRecord}
use Rattle.pie_record.specs.inner.Records.{record_of as kept_of, Puts}
use Rattle.pie_view.specs.declared.seen.Seen.{Seen as RowsSeen}
use Rattle.pie_view.specs.declared.seen.Seen.TheVariants.{Absent, By, Clash}
use Rattle.pie_view.specs.Seen.{Visible, IsOnly}
use Rattle.pie_model.specs.Paths.{Path}
use Rattle.pie_model.specs.declared.words.Seen.{Seen}
use Rattle.pie_model.specs.declared.words.Seen.TheVariants.{Nothing, Clashing}
use Rattle.pie_model.specs.Trees.{trace_of, writes_of}
use Rattle.pie_model.specs.Seen.{first_write, seen_file, provided}
use Rattle.pie_model.specs.Evaluation.{World, Project, evaluation}
use Rattle.pie_model.specs.Records.{needs_of}
use Rattle.pie_model.specs.inner.Stack.{Frame}
use Rattle.pie_step_laws.specs.Contents.{WroteContents, IsShown}
use Rattle.pie_step_laws.specs.UnderWay.{UnderWay}
use Rattle.pie_builder_laws.specs.Names.{AreTasks, called_in}
use Rattle.pie_builder_laws.specs.Tables.{recorded, Kept, kept}

-- these are the numbers of these tasks
abbrev pub AreNumbersOf : List Task → List ℕ → List Task → Type 0
AreNumbersOf names numbers tasks = map (slice_get names) numbers ≡ map Some tasks

-- a row requires the numbers of the tasks that the record requires; without a record it requires none
abbrev pub RowRequires : List Task → Row → Option TaskRecord → Type 0
RowRequires names row None = row.needs ≡ []
RowRequires names row (Some rec) = AreNumbersOf names row.needs (called_in rec.deps)

-- there is a row for each task, by its record, and it has the paths of the contents that are kept
pub record AreRowsOf (names : List Task) (records : Records) (contents : Kept) (rows : List Row) : Type 0 where
  pub as_many : length rows ≡ length names
  pub needs : (n : ℕ) → RowRequires names (row_at rows n) (kept_of records n)
  pub writes : (n : ℕ) → (row_at rows n).writes ≡ map (λ (w : Path × List ℕ). w.0) (contents n)

-- contents without a mark
abbrev pub unmarked : Option (List ℕ) → Option (List ℕ × ℕ)
unmarked content = option_map (λ (b : List ℕ). (b, 0)) content

-- what is seen: nothing, what the one task wrote first, or a clash
abbrev pub shown : Kept → Path → RowsSeen → Seen
shown contents path Absent = Nothing
shown contents path (By one) = seen_file (unmarked (first_write path (contents one.0)))
shown contents path Clash = Clashing

-- what is seen by the rows is shown by the contents
abbrev pub ViewsAreTheModels : Type 0
ViewsAreTheModels =
    (names : List Task) (records : Records) (contents : Kept) (rows : List Row) (required : List ℕ) (us : List Task) (path : Path) (seen : RowsSeen)
    → AreTasks names → AreRowsOf names records contents rows → AreNumbersOf names required us → IsOnly (Visible rows required path) seen
    → IsShown (WroteContents (recorded names records) (kept names contents) (map enc_task us) path) (shown contents path seen)

-- ---- by the records and the evaluations

-- a row requires the numbers of the tasks that the record requires and has the paths that it wrote; without a record it has no edges of these kinds
abbrev pub RowIs : List Task → Row → Option TaskRecord → Type 0
RowIs names row None = (row.needs ≡ []) × (row.writes ≡ [])
RowIs names row (Some rec) = AreNumbersOf names row.needs (called_in rec.deps) × (row.writes ≡ map (λ (w : Path × List ℕ). w.0) rec.writes)

-- there is a row for each task, by its record
pub record IsGraphOf (names : List Task) (records : Records) (rows : List Row) : Type 0 where
  pub as_many : length rows ≡ length names
  pub each : (n : ℕ) → RowIs names (row_at rows n) (kept_of records n)

-- what is staged by numbers: at each path contents, or none
abbrev pub Staged : Type 0
Staged = ℕ → Path → Option (List ℕ)

-- of each recorded task what is staged is what its evaluation wrote first
abbrev pub IsStaged : World → Project → List Task → Records → Staged → Type 0
IsStaged w P names records staged =
    (n : ℕ) (t : Task) (rec : TaskRecord) → slice_get names n ≡ Some t → kept_of records n ≡ Some rec
    → (p : Path) → staged n p ≡ first_write p (writes_of (trace_of (evaluation w P (enc_task t))))

-- what is found: nothing, what the one task staged, or a clash
abbrev pub found : Staged → Path → RowsSeen → Seen
found staged path Absent = Nothing
found staged path (By one) = seen_file (unmarked (staged one.0 path))
found staged path Clash = Clashing

-- what is found by the rows is what the tasks that the running one required so far provide to it
abbrev pub ViewsAreProvided : Type 0
ViewsAreProvided =
    (w : World) (P : Project) (root : List ℕ) (base : List (List ℕ)) (names : List Task) (records : Records) (fs : List Frame) (f : Frame)
    (rows : List Row) (staged : Staged) (required : List ℕ) (us : List Task) (path : Path) (seen : RowsSeen) → AreTasks names
    → UnderWay w P root base (recorded names records) (map enc_task names) fs f → IsGraphOf names records rows → IsStaged w P names records staged
    → AreNumbersOf names required us → needs_of f.seen ≡ map enc_task us → IsOnly (Visible rows required path) seen
    → provided f.progress.kids path ≡ found staged path seen

-- numbers stay those of the tasks where a task is added
abbrev pub NumbersStay : Type 0
NumbersStay =
    (names : List Task) (t : Task) (numbers : List ℕ) (tasks : List Task) → AreNumbersOf names numbers tasks
    → AreNumbersOf (names ++ t ∷ []) numbers tasks

-- a new task gets a row without edges
abbrev pub GraphsGrow : Type 0
GraphsGrow =
    (names : List Task) (records : Records) (rows : List Row) (t : Task) → IsGraphOf names records rows
    → IsGraphOf (names ++ t ∷ []) records (rows ++ no_edges ∷ [])

-- a record that is put under a number comes with its row
abbrev pub GraphsChange : Type 0
GraphsChange =
    (names : List Task) (old new : Records) (rows : List Row) (n : ℕ) (row : Row) (rec : TaskRecord) → IsGraphOf names old rows
    → Puts old new n rec → n < length rows → RowIs names row (Some rec) → IsGraphOf names new (slice_set rows n row)
