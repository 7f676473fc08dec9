-- What holds of the steps under a root: each keeps the root under way.
use Rattle.std.specs.Prelude.{ℕ, suc, ◌<◌, ◌≡◌, false, Option, Some, List, [], ◌∷◌, ◌++◌, length}
use Rattle.pie_model.specs.Paths.{Path, among}
use Rattle.pie_model.specs.Tasks.{Task, Value}
use Rattle.pie_model.specs.declared.words.Look.{Look}
use Rattle.pie_model.specs.declared.words.How.{How}
use Rattle.pie_model.specs.declared.words.Event.TheVariants.{LookAt, ListOf, Write, Require}
use Rattle.pie_model.specs.declared.words.Seen.TheVariants.{Nothing, Holds}
use Rattle.pie_model.specs.declared.words.Outcome.TheVariants.{Ended}
use Rattle.pie_model.specs.Seen.{visible_at}
use Rattle.pie_model.specs.Evaluation.{World, Project, listing}
use Rattle.pie_model.specs.Records.{Record}
use Rattle.pie_model.specs.inner.Stack.{Frame}
use Rattle.pie_step_laws.specs.Table.{Rests}
use Rattle.pie_step_laws.specs.Frames.{begun, saw_nothing, saw_contents, has_listed, has_written, was_answered, set_aside}
use Rattle.pie_step_laws.specs.UnderWay.{UnderWay}

-- a root that was not entered yet begins, if there is room for one more task
abbrev pub RootsBegin : Type 0
RootsBegin =
    (w : World) (P : Project) (R : Task → Option Record) (names : List Task) (root : Task) → Rests w P R names → among root names ≡ false
    → length names < w.most_tasks → UnderWay w P root names R (names ++ root ∷ []) [] (begun w root)

-- a look that finds nothing
abbrev pub AbsentLooksGoOn : Type 0
AbsentLooksGoOn =
    (w : World) (P : Project) (root : Task) (base : List Task) (R : Task → Option Record) (names : List Task) (fs : List Frame) (f : Frame) (n : ℕ)
    (l : Look) (p : Path) → UnderWay w P root base R names fs f → f.left ≡ suc n → P.next f.task f.progress.answers ≡ LookAt l p
    → visible_at P.file f.progress.own f.progress.kids p ≡ Nothing → UnderWay w P root base R names fs (saw_nothing f n l p)

-- a look that finds contents
abbrev pub PresentLooksGoOn : Type 0
PresentLooksGoOn =
    (w : World) (P : Project) (root : Task) (base : List Task) (R : Task → Option Record) (names : List Task) (fs : List Frame) (f : Frame) (n : ℕ)
    (l : Look) (p : Path) (b : List ℕ) (m : ℕ) → UnderWay w P root base R names fs f → f.left ≡ suc n → P.next f.task f.progress.answers ≡ LookAt l p
    → visible_at P.file f.progress.own f.progress.kids p ≡ Holds b m → UnderWay w P root base R names fs (saw_contents w f n l p b m)

-- a listing
abbrev pub ListingsGoOn : Type 0
ListingsGoOn =
    (w : World) (P : Project) (root : Task) (base : List Task) (R : Task → Option Record) (names : List Task) (fs : List Frame) (f : Frame) (n : ℕ)
    (d : Path) (es : List Path) → UnderWay w P root base R names fs f → f.left ≡ suc n → P.next f.task f.progress.answers ≡ ListOf d
    → listing w P d ≡ Some es → UnderWay w P root base R names fs (has_listed w f n d es)

-- a write
abbrev pub WritesGoOn : Type 0
WritesGoOn =
    (w : World) (P : Project) (root : Task) (base : List Task) (R : Task → Option Record) (names : List Task) (fs : List Frame) (f : Frame) (n : ℕ)
    (p : Path) (b : List ℕ) → UnderWay w P root base R names fs f → f.left ≡ suc n → P.next f.task f.progress.answers ≡ Write p b
    → UnderWay w P root base R names fs (has_written f n p b)

-- a require of a recorded task is answered with the value in its record
abbrev pub RequiresAreAnswered : Type 0
RequiresAreAnswered =
    (w : World) (P : Project) (root : Task) (base : List Task) (R : Task → Option Record) (names : List Task) (fs : List Frame) (f : Frame) (n : ℕ)
    (h : How) (u : Task) (r : Record) (v : Value) → UnderWay w P root base R names fs f → f.left ≡ suc n → P.next f.task f.progress.answers ≡ Require h u
    → R u ≡ Some r → r.outcome ≡ Ended v → UnderWay w P root base R names fs (was_answered w P f n h u v)

-- a require of a task that was not entered yet puts the running task aside, and that task runs next, if there is room for one more
abbrev pub RequiresDescend : Type 0
RequiresDescend =
    (w : World) (P : Project) (root : Task) (base : List Task) (R : Task → Option Record) (names : List Task) (fs : List Frame) (f : Frame) (n : ℕ)
    (h : How) (u : Task) → UnderWay w P root base R names fs f → f.left ≡ suc n → P.next f.task f.progress.answers ≡ Require h u
    → among u names ≡ false → length names < w.most_tasks → UnderWay w P root base R (names ++ u ∷ []) (set_aside f n ∷ fs) (begun w u)

-- a table that has the same records serves as well
abbrev pub SameTablesGoOn : Type 0
SameTablesGoOn =
    (w : World) (P : Project) (root : Task) (base : List Task) (R S : Task → Option Record) (names : List Task) (fs : List Frame) (f : Frame)
    → ((t : Task) → S t ≡ R t) → UnderWay w P root base R names fs f → UnderWay w P root base S names fs f
