-- What holds from root to root, and at the end of a build.
use Rattle.std.specs.Prelude.{◌≡◌, ◌≤◌, true, Option, Some, None, List, [], ◌∷◌, ◌++◌, map, length, take}
use Rattle.pie_model.specs.Paths.{among}
use Rattle.pie_model.specs.Tasks.{Task, Value}
use Rattle.pie_model.specs.declared.words.FaultKind.{FaultKind}
use Rattle.pie_model.specs.Trees.{entered, outcome_of}
use Rattle.pie_model.specs.declared.words.Outcome.TheVariants.{Ended, Failed, Cycled}
use Rattle.pie_model.specs.Evaluation.{World, Project, evaluation}
use Rattle.pie_model.specs.Records.{Record, record_of}
use Rattle.pie_model.specs.inner.Stack.{Begins}
use Rattle.pie_model.specs.Forest.{forest, entered_tasks, live_evaluations, first_stop}
use Rattle.pie_model.specs.Verdict.{final_checks, verdict}
use Rattle.pie_model.specs.declared.words.Verdict.{Verdict}
use Rattle.pie_model.specs.declared.words.Verdict.TheVariants.{Many, Fault, Cycle}
use Rattle.pie_step_laws.specs.Table.{Rests}
use Rattle.pie_step_laws.specs.UnderWay.{HasEnded}
use Rattle.pie_step_laws.specs.Roots.{Between, EvaluatesTo}

-- a build begins with nothing recorded and nothing entered
abbrev pub BuildsBegin : Type 0
BuildsBegin = (w : World) (P : Project) (R : Task → Option Record) → ((t : Task) → R t ≡ None) → Between w P [] R []

-- a root that was entered before is done
abbrev pub KnownRootsPass : Type 0
KnownRootsPass =
    (w : World) (P : Project) (done : List Task) (R : Task → Option Record) (names : List Task) (root : Task) → Between w P done R names
    → among root names ≡ true → Between w P (done ++ root ∷ []) R names

-- and so is a root that ended with a value
abbrev pub EndedRootsPass : Type 0
EndedRootsPass =
    (w : World) (P : Project) (done : List Task) (R S : Task → Option Record) (base names : List Task) (root : Task) (v : Value)
    → Between w P done R base → Rests w P S names → HasEnded w P root base names (Ended v) → Between w P (done ++ root ∷ []) S names

-- once all roots are done, no evaluation of the forest stopped
abbrev pub DoneRootsStopNowhere : Type 0
DoneRootsStopNowhere =
    (w : World) (P : Project) (roots : List Task) (R : Task → Option Record) (names : List Task) → Between w P roots R names
    → first_stop (forest w P roots) ≡ None

-- and the verdict is that of the last checks
abbrev pub AllRootsDone : Type 0
AllRootsDone =
    (w : World) (P : Project) (roots : List Task) (R : Task → Option Record) (names : List Task) → Between w P roots R names
    → EvaluatesTo w P roots names (final_checks (live_evaluations w P roots))

-- the first root that fails gives the verdict
abbrev pub FirstRootFails : Type 0
FirstRootFails =
    (w : World) (P : Project) (roots done rest : List Task) (R : Task → Option Record) (base names : List Task) (root t : Task) (k : FaultKind)
    → Between w P done R base → roots ≡ done ++ root ∷ rest → HasEnded w P root base names (Failed t k) → EvaluatesTo w P roots names (Fault t k)

-- and so does the first root that ends in a cycle
abbrev pub FirstRootEndsInCycle : Type 0
FirstRootEndsInCycle =
    (w : World) (P : Project) (roots done rest : List Task) (R : Task → Option Record) (base names : List Task) (root : Task) (ts : List Task)
    → Between w P done R base → roots ≡ done ++ root ∷ rest → HasEnded w P root base names (Cycled ts) → EvaluatesTo w P roots names (Cycle ts)

-- where as many tasks as may be were entered and a root enters one more, there are too many, whatever follows
abbrev pub TooManyTasks : Type 0
TooManyTasks =
    (w : World) (P : Project) (roots done rest : List Task) (R : Task → Option Record) (base names : List Task) (root u : Task)
    → Between w P done R base → roots ≡ done ++ root ∷ rest → length names ≡ w.most_tasks
    → Begins (names ++ u ∷ []) (entered (evaluation w P root) base) → verdict w P roots ≡ Many

-- and those are the first of the entered tasks
abbrev pub FirstTasksEntered : Type 0
FirstTasksEntered =
    (w : World) (P : Project) (roots done rest : List Task) (R : Task → Option Record) (base names : List Task) (root u : Task)
    → Between w P done R base → roots ≡ done ++ root ∷ rest → length names ≡ w.most_tasks
    → Begins (names ++ u ∷ []) (entered (evaluation w P root) base) → take w.most_tasks (entered_tasks w P roots) ≡ names

-- an entered task has the record of its evaluation
abbrev pub RecordsAreLive : Type 0
RecordsAreLive =
    (w : World) (P : Project) (R : Task → Option Record) (names : List Task) (t : Task) → Rests w P R names → among t names ≡ true
    → R t ≡ Some (record_of w (evaluation w P t))

-- once all roots are done, the records of the entered tasks, in their order, are those of the live evaluations
abbrev pub RecordsInOrder : Type 0
RecordsInOrder =
    (w : World) (P : Project) (roots : List Task) (R : Task → Option Record) (names : List Task) (kept : List Record) → Between w P roots R names
    → map R names ≡ map Some kept → kept ≡ map (record_of w) (live_evaluations w P roots)

-- each root that is done was entered
abbrev pub RootsAreEntered : Type 0
RootsAreEntered =
    (w : World) (P : Project) (done : List Task) (R : Task → Option Record) (names : List Task) (t : Task) → Between w P done R names
    → among t done ≡ true → among t names ≡ true

-- so its record has its value
abbrev pub RootsHaveValues : Type 0
RootsHaveValues =
    (w : World) (P : Project) (done : List Task) (R : Task → Option Record) (names : List Task) (t : Task) (r : Record) → Between w P done R names
    → among t done ≡ true → R t ≡ Some r → r.outcome ≡ outcome_of (evaluation w P t)

-- where no more tasks are entered than may be, the first ones are all of them
abbrev pub FewTasksAreTheFirst : Type 0
FewTasksAreTheFirst =
    (w : World) (P : Project) (roots names : List Task) (v : Verdict) → EvaluatesTo w P roots names v → length names ≤ w.most_tasks
    → take w.most_tasks (entered_tasks w P roots) ≡ names

-- a table that has the same records serves as well
abbrev pub SameTablesRest : Type 0
SameTablesRest =
    (w : World) (P : Project) (done : List Task) (R S : Task → Option Record) (names : List Task) → ((t : Task) → S t ≡ R t)
    → Between w P done R names → Between w P done S names
