-- The result of a build, where the tasks that its roots reach are known among others that have records too.
use Rattle.std.specs.Prelude.{◌≡◌, ◌↔◌, true, cond, Option, None, List}
use Rattle.pie_model.specs.Paths.{among}
use Rattle.pie_model.specs.Tasks.{Task}
use Rattle.pie_model.specs.Trees.{outcome_of, entered}
use Rattle.pie_model.specs.declared.words.Outcome.{Outcome}
use Rattle.pie_model.specs.Evaluation.{World, Project, evaluation}
use Rattle.pie_model.specs.Records.{Record}
use Rattle.pie_model.specs.Forest.{entered_tasks}
use Rattle.pie_step_laws.specs.UnderWay.{HasEnded}
use Rattle.pie_step_laws.specs.Roots.{Between}
use Rattle.pie_settle_laws.specs.Known.{IsKnown, AreDone, AreCounted, ReachedFrom}

-- the records of these tasks alone
abbrev pub recorded_among : List Task → (Task → Option Record) → Task → Option Record
recorded_among names R t = cond (among t names) (R t) None

-- the tasks that known roots enter are those that they reach by the records
abbrev pub EnteredTasksAreReached : Type 0
EnteredTasksAreReached =
    (w : World) (P : Project) (R : Task → Option Record) (roots : List Task) (x : Task) → AreDone w P R roots
    → (among x (entered_tasks w P roots) ≡ true) ↔ ReachedFrom R roots x

-- the records of the entered tasks alone are those of a build in which these roots are done
abbrev pub KnownRootsAreDone : Type 0
KnownRootsAreDone =
    (w : World) (P : Project) (R : Task → Option Record) (held roots : List Task) → AreCounted w R held → AreDone w P R roots
    → Between w P roots (recorded_among (entered_tasks w P roots) R) (entered_tasks w P roots)

-- and a known root after them ends as its record tells
abbrev pub KnownRootsEnd : Type 0
KnownRootsEnd =
    (w : World) (P : Project) (R : Task → Option Record) (held done : List Task) (root : Task) (e : Outcome) → AreCounted w R held → AreDone w P R done
    → IsKnown w P R root → outcome_of (evaluation w P root) ≡ e
    → HasEnded w P root (entered_tasks w P done) (entered (evaluation w P root) (entered_tasks w P done)) e
