-- What the contents that were kept show at a path.
use Rattle.std.specs.Prelude.{ℕ, suc, ◌≡◌, true, Option, Some, None, List, map}
use Rattle.pie_model.specs.Paths.{Path, among, kind_of}
use Rattle.pie_model.specs.declared.words.Kind.TheVariants.{Out, Kept, Source}
use Rattle.pie_model.specs.Tasks.{Task, Value}
use Rattle.pie_model.specs.declared.words.Event.TheVariants.{Done}
use Rattle.pie_model.specs.Trees.{trace_of, writes_of}
use Rattle.pie_model.specs.declared.words.Seen.{Seen}
use Rattle.pie_model.specs.declared.words.Seen.TheVariants.{Nothing, Holds, Clashing}
use Rattle.pie_model.specs.Seen.{first_write, provided, seen_file, visible_at}
use Rattle.pie_model.specs.Evaluation.{World, Project, evaluation}
use Rattle.pie_model.specs.Records.{Record, needs_of}
use Rattle.pie_model.specs.inner.Present.{Reaches, OneWriter, TwoWriters}
use Rattle.pie_model.specs.inner.Consistent.{IsRecorded}
use Rattle.pie_model.specs.inner.Stack.{Frame}
use Rattle.pie_model.specs.inner.Steps.{ChangesAt}
use Rattle.pie_step_laws.specs.Frames.{record_left}
use Rattle.pie_step_laws.specs.Table.{IsTable}
use Rattle.pie_step_laws.specs.UnderWay.{UnderWay}

-- of each recorded task its writes are kept, with their contents
abbrev pub KeepsContents : World → Project → (Task → Option Record) → (Task → List (Path × List ℕ)) → Type 0
KeepsContents w P R kept = (t : Task) → IsRecorded R t → kept t ≡ writes_of (trace_of (evaluation w P t))

-- by the records and what is kept, a task that one of these reaches wrote these contents at the path
pub record WroteContents (R : Task → Option Record) (kept : Task → List (Path × List ℕ)) (us : List Task) (p : Path) (x : Task) (b : List ℕ) : Type 0 where
  pub from : Task
  pub listed : among from us ≡ true
  pub reaches : Reaches R from x
  pub wrote : first_write p (kept x) ≡ Some b

-- this is seen of the writers: nothing without one, the contents of the one task that wrote, a clash where two distinct tasks did
abbrev pub IsShown : (Task → List ℕ → Type 0) → Seen → Type 0
IsShown W Nothing = (x : Task) (b : List ℕ) → W x b → ⊥
IsShown W (Holds b m) = OneWriter W b × (m ≡ 0)
IsShown W Clashing = TwoWriters W

-- what is kept shows what recorded tasks provide
abbrev pub KeptContentsAreVisible : Type 0
KeptContentsAreVisible =
    (w : World) (P : Project) (R : Task → Option Record) (names : List Task) (kept : Task → List (Path × List ℕ)) (us : List Task) (p : Path) (s : Seen)
    → IsTable w P R names → KeepsContents w P R kept → ((u : Task) → among u us ≡ true → IsRecorded R u) → IsShown (WroteContents R kept us p) s
    → provided (map (evaluation w P) us) p ≡ s

-- and so what the tasks that the running one required so far provide to it
abbrev pub RunningTasksSeeContents : Type 0
RunningTasksSeeContents =
    (w : World) (P : Project) (root : Task) (base : List Task) (R : Task → Option Record) (names : List Task) (fs : List Frame) (f : Frame)
    (kept : Task → List (Path × List ℕ)) (p : Path) (s : Seen) → UnderWay w P root base R names fs f → KeepsContents w P R kept
    → IsShown (WroteContents R kept (needs_of f.seen) p) s → provided f.progress.kids p ≡ s

-- nothing has to be kept before the first task is recorded
abbrev pub ContentsBegin : Type 0
ContentsBegin =
    (w : World) (P : Project) (R : Task → Option Record) (kept : Task → List (Path × List ℕ)) → ((t : Task) → R t ≡ None) → KeepsContents w P R kept

-- the writes of one task alone change: to these
pub record KeepsMore (kept after : Task → List (Path × List ℕ)) (t : Task) (new : List (Path × List ℕ)) : Type 0 where
  pub now : after t ≡ new
  pub others : (x : Task) → (x ≡ t → ⊥) → after x ≡ kept x

-- a task that ends with a value keeps the contents that it wrote
abbrev pub ContentsAreKept : Type 0
ContentsAreKept =
    (w : World) (P : Project) (root : Task) (base : List Task) (R S : Task → Option Record) (names : List Task) (fs : List Frame) (f : Frame) (n : ℕ)
    (v : Value) (kept after : Task → List (Path × List ℕ)) → UnderWay w P root base R names fs f → f.left ≡ suc n
    → P.next f.task f.progress.answers ≡ Done v → ChangesAt R S f.task (record_left w f v) → KeepsMore kept after f.task f.progress.own
    → KeepsContents w P R kept → KeepsContents w P S after

-- while it runs its own contents alone may change
abbrev pub WritesKeepContents : Type 0
WritesKeepContents =
    (w : World) (P : Project) (root : Task) (base : List Task) (R : Task → Option Record) (names : List Task) (fs : List Frame) (f : Frame)
    (kept after : Task → List (Path × List ℕ)) → UnderWay w P root base R names fs f → ((x : Task) → (x ≡ f.task → ⊥) → after x ≡ kept x)
    → KeepsContents w P R kept → KeepsContents w P R after

-- ---- what is visible to the running task

-- its own first write at a path under `out`
abbrev pub OwnWritesAreSeen : Type 0
OwnWritesAreSeen =
    (P : Project) (f : Frame) (p : Path) (b : List ℕ) → kind_of p ≡ Out → first_write p f.progress.own ≡ Some b
    → visible_at P.file f.progress.own f.progress.kids p ≡ Holds b 0

-- and else what is kept of the tasks that it required so far and of those that they required
abbrev pub KeptWritesAreSeen : Type 0
KeptWritesAreSeen =
    (w : World) (P : Project) (root : Task) (base : List Task) (R : Task → Option Record) (names : List Task) (fs : List Frame) (f : Frame)
    (kept : Task → List (Path × List ℕ)) (p : Path) (s : Seen) → UnderWay w P root base R names fs f → KeepsContents w P R kept → kind_of p ≡ Out
    → first_write p f.progress.own ≡ None → IsShown (WroteContents R kept (needs_of f.seen) p) s
    → visible_at P.file f.progress.own f.progress.kids p ≡ s

-- nothing at a path that the builder keeps for itself
abbrev pub NothingIsSeenAtReservedPaths : Type 0
NothingIsSeenAtReservedPaths =
    (P : Project) (f : Frame) (p : Path) → kind_of p ≡ Kept → visible_at P.file f.progress.own f.progress.kids p ≡ Nothing

-- the file at a source path
abbrev pub SourcesAreSeen : Type 0
SourcesAreSeen =
    (P : Project) (f : Frame) (p : Path) → kind_of p ≡ Source → visible_at P.file f.progress.own f.progress.kids p ≡ seen_file (P.file p)
