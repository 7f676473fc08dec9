-- A root under way, with its tasks by numbers, machines and notes, is a root under way in the model.
use Rattle.std.specs.Prelude.{◌≡◌, ℕ, ◌<◌, ◌≤◌, false, List, [], ◌∷◌, ◌++◌, map, reverse, length, Option, Some, None, IfSome, slice_get, All}
use Rattle.pie_value.specs.declared.task.Task.{Task}
use Rattle.pie_value.specs.declared.event.Event.{Event}
use Rattle.pie_value.specs.declared.event.Event.TheVariants as events
use Rattle.pie_value.specs.declared.value.Value.{Value}
use Rattle.pie_value.specs.declared.verdict.Refusal.{Refusal}
use Rattle.pie_value.specs.declared.verdict.Refusal.TheVariants as refusals
use Rattle.pie_value.specs.Values.{tree_of}
use Rattle.pie_value.specs.Canonical.{enc, enc_task, IsCanonical}
use Rattle.pie_operators.specs.Domain.{done, wants}
use Rattle.pie_code.specs.declared.code.Code.{Code}
use Rattle.pie_vm.specs.Machines.{Standing}
use Rattle.pie_files.specs.Directory.{Directory}
use Rattle.pie_view.specs.Content.{content}
use Rattle.pie_record.specs.inner.Records.{record_of as kept_of}
use Rattle.pie_record.specs.declared.task_record.Outcome.{Outcome}
use Rattle.pie_record.specs.declared.task_record.TaskRecord.{TaskRecord}
use Rattle.pie_record.specs.declared.task_record.Outcome.TheVariants as ends
use Rattle.pie_parser.specs.FunctionTrees.{FunctionTree}
use Rattle.pie_types.specs.Headings.{Heading, function_in}
use Rattle.pie_types.specs.Whole.{number_from}
use Rattle.pie_type_laws.specs.Fitting.{OutputFits}
use Rattle.pie_model.specs.Paths.{among}
use Rattle.pie_model.specs.declared.words.How.{How}
use Rattle.pie_model.specs.declared.words.Event.TheVariants.{Require}
use Rattle.pie_model.specs.declared.words.Outcome.TheVariants.{Ended, Failed, Cycled}
use Rattle.pie_model.specs.Trees.{entered}
use Rattle.pie_model.specs.Evaluation.{Project, evaluation}
use Rattle.pie_model.specs.Records.{Record}
use Rattle.pie_model.specs.inner.Stack.{Frame as ModelFrame, Begins}
use Rattle.pie_step_laws.specs.Table.{Rests as TableRests}
use Rattle.pie_step_laws.specs.Frames.{begun, was_answered}
use Rattle.pie_step_laws.specs.UnderWay.{UnderWay, HasEnded}
use Rattle.pie_step_laws.specs.EndLaws.{Requires}
use Rattle.pie_model_pipeline.specs.Words.{fault_of, effect_of, output_or_big}
use Rattle.pie_model_pipeline.specs.Answers.{answer_of}
use Rattle.pie_model_pipeline.specs.World.{world, project}
use Rattle.pie_builder_laws.specs.Names.{AreTasks}
use Rattle.pie_builder_laws.specs.Tables.{recorded}
use Rattle.pie_builder_laws.specs.Views.{IsGraphOf, IsStaged}
use Rattle.pie_builder_laws.specs.Events.{AreCompiled}
use Rattle.pie_builder_laws.specs.Fits.{HasHeadings, Fit}
use Rattle.pie_running.specs.declared.frame.RunningTask.{RunningTask}
use Rattle.pie_running.specs.declared.frame.Waiting.{Waiting}
use Rattle.pie_running.specs.declared.frame.Caller.{Caller}
use Rattle.pie_fresh.specs.declared.ledger.Ledger.{Ledger}
use Rattle.pie_fresh.specs.declared.builder.Builder.{Builder}
use Rattle.pie_fresh.specs.declared.builder.Entered.{Entered}
use Rattle.pie_fresh.specs.declared.builder.Entered.TheVariants.{Runs, Refused as NotStarted}
use Rattle.pie_fresh.specs.declared.turn.Turn.{Turn}
use Rattle.pie_fresh.specs.declared.turn.Turn.TheVariants.{Goes, Rests, Stops}
use Rattle.pie_running.specs.inner.Noted.{Noted}
use Rattle.pie_running.specs.inner.Means as running
use Rattle.pie_running.specs.inner.Told.{EvaluatedTo}
use Rattle.pie_fresh.specs.inner.Kept.{HasOutput}
use Rattle.pie_fresh.specs.Told.{IsTrueTask}

-- where a root is under way: the functions with their headings and codes, the directory, the root, and the tasks that were entered before it,
-- these by their canonical bytes
pub record Site : Type 0 where
  pub functions : List FunctionTree
  pub headings : List Heading
  pub codes : List Code
  pub directory : Directory
  pub root : List ℕ
  pub base : List (List ℕ)

-- what a build there starts from
abbrev pub project_of : Site → Project
project_of s = project s.functions s.directory

-- the table of the model
abbrev pub table_of : Ledger → List ℕ → Option Record
table_of l = recorded l.names l.records

-- the entered tasks of the model
abbrev pub names_of : Ledger → List (List ℕ)
names_of l = map enc_task l.names

-- ---- the tasks that are done

-- an output that has canonical bytes
abbrev pub IsKeptOutput : Outcome → Type 0
IsKeptOutput (ends.Done v) = IsCanonical (tree_of v) (enc (tree_of v))
IsKeptOutput (ends.Failed f) = ⊥
IsKeptOutput (ends.Cycled ts) = ⊥

-- an output is of the type that the task's function answers
abbrev pub FitsAs : List Heading → Task → Outcome → Type 0
FitsAs hs t (ends.Done v) = OutputFits (function_in t.func hs) (tree_of v)
FitsAs hs t (ends.Failed f) = ⊥
FitsAs hs t (ends.Cycled ts) = ⊥

-- nothing is kept under a number that no task has yet
pub record IsUnused (l : Ledger) (n : ℕ) : Type 0 where
  pub unrecorded : kept_of l.records n ≡ None
  pub unstaged : (p : List ℕ) → content l.stage n p ≡ None

-- the ledger is the table of the model, with the graph of the tasks that are done and the contents that they wrote
pub record MeansTable (s : Site) (l : Ledger) : Type 0 where
  pub tasks : AreTasks l.names
  pub graph : IsGraphOf l.names l.records l.rows
  pub staged : IsStaged world (project_of s) l.names l.records (content l.stage)
  pub unused : (n : ℕ) → length l.names ≤ n → IsUnused l n
  pub outputs : (n : ℕ) → IfSome (kept_of l.records n) (λ r. IsKeptOutput r.outcome)
  pub fits : (n : ℕ) (t : Task) (r : TaskRecord) → slice_get l.names n ≡ Some t → kept_of l.records n ≡ Some r → FitsAs s.headings t r.outcome

-- ---- tasks that run or wait

-- a task that has come so far is this one of the model, which may make so many events more
abbrev pub MeansFrame : Site → Ledger → Code → Standing → Noted → ℕ → ModelFrame → Type 0
MeansFrame s l code m n events g = running.MeansFrame s.functions s.headings s.codes l.names l.stage code m n events g

-- the tasks that wait are these of the model, the newest first
abbrev pub MeanCallers : Site → Ledger → List ModelFrame → List Caller → Type 0
MeanCallers s l gs cs = running.MeanCallers s.functions s.headings s.codes l.names l.stage gs cs

-- the functions and codes of a build are those of the site
pub record IsThere (s : Site) (b : Builder) : Type 0 where
  pub functions : b.typed.now ≡ s.functions
  pub codes : b.code.now ≡ s.codes
  pub compiled : AreCompiled s.functions s.codes
  pub headings : HasHeadings s.functions s.headings

-- the root is under way as in the model, with the task that runs: its code, its machine and its notes
pub record Means (s : Site) (b : Builder) (code : Code) (m : Standing) (n : Noted) : Type 0 where
  pub there : IsThere s b
  pub table : MeansTable s b.ledger
  pub waiting : List ModelFrame
  pub running : ModelFrame
  pub stack : MeanCallers s b.ledger waiting (reverse b.stack.items)
  pub top : MeansFrame s b.ledger code m n n.left running
  pub under : UnderWay world (project_of s) s.root s.base (table_of b.ledger) (names_of b.ledger) waiting running

-- the running task asks this, as in the model
pub record IsAsking (s : Site) (b : Builder) (w : Waiting) (e : Event) : Type 0 where
  pub means : Means s b w.code.now w.machine w.notes
  pub asks : (project_of s).next means.running.task means.running.progress.answers ≡ effect_of e
  pub came : EvaluatedTo w.code.now w.notes.task.args (map answer_of means.running.progress.answers) (wants e)

-- ---- how a step ends

-- the root enters one task more than may be
pub record EntersTooMany (s : Site) (l : Ledger) : Type 0 where
  pub full : length l.names ≡ 50000
  pub one : List ℕ
  pub begins : Begins (names_of l ++ one ∷ []) (entered (evaluation world (project_of s) s.root) s.base)

-- a root is refused for what ends it in the model
abbrev pub RefusesAs : Site → Ledger → Refusal → Type 0
RefusesAs s l (refusals.Fault f) =
    HasEnded world (project_of s) s.root s.base (names_of l) (Failed (enc_task f.task) (fault_of f.kind)) × IsTrueTask f.task
RefusesAs s l (refusals.Cycle ts) = HasEnded world (project_of s) s.root s.base (names_of l) (Cycled (map enc_task ts)) × All IsTrueTask ts
RefusesAs s l refusals.Many = EntersTooMany s l
RefusesAs s l (refusals.Overlap p t u) = ⊥
RefusesAs s l (refusals.Nested p q) = ⊥
RefusesAs s l (refusals.Hidden p t u) = ⊥

-- no root is under way, as in the model
pub record IsResting (s : Site) (b : Builder) : Type 0 where
  pub there : IsThere s b
  pub table : MeansTable s b.ledger
  pub rests : TableRests world (project_of s) (table_of b.ledger) (names_of b.ledger)
  pub alone : b.stack.items ≡ []

-- the root has ended with a value as in the model
pub record RestsAs (s : Site) (b : Builder) : Type 0 where
  pub resting : IsResting s b
  pub value : List ℕ
  pub ended : HasEnded world (project_of s) s.root s.base (names_of b.ledger) (Ended value)

-- a step ends as in the model
abbrev pub TurnMeans : Site → Builder → Turn → Type 0
TurnMeans s b (Goes f) = Means s b f.code.now f.machine f.notes
TurnMeans s b Rests = RestsAs s b
TurnMeans s b (Stops r) = RefusesAs s b.ledger r

-- an event is treated as in the model
abbrev pub GoesAs : Builder → Builder → Waiting → Event → Turn → Type 0
GoesAs old new w e t = (s : Site) → IsAsking s old w e → TurnMeans s new t

-- so it is, if the files hold the directory of the site
abbrev pub TreatsAs : Option Directory → Builder → Builder → Waiting → Event → Turn → Type 0
TreatsAs held old new w e t = (s : Site) → held ≡ Some s.directory → IsAsking s old w e → TurnMeans s new t

-- the running task goes on as in the model
abbrev pub TurnsAs : Option Directory → Builder → Builder → RunningTask → Turn → Type 0
TurnsAs held old new f t = (s : Site) → held ≡ Some s.directory → Means s old f.code.now f.machine f.notes → TurnMeans s new t

-- a root has gone on as in the model
abbrev pub RunsOn : Option Directory → Builder → RunningTask → Builder → RunningTask → Type 0
RunsOn held old f new g =
    (s : Site) → held ≡ Some s.directory → Means s old f.code.now f.machine f.notes → Means s new g.code.now g.machine g.notes

-- a root gets an answer as in the model: it is done, or refused
abbrev pub RootMeans : Site → Builder → Option Refusal → Type 0
RootMeans s b None = RestsAs s b
RootMeans s b (Some r) = RefusesAs s b.ledger r

-- and so it does from here
abbrev pub RunsAs : Option Directory → Builder → Builder → RunningTask → Option Refusal → Type 0
RunsAs held old new f why = (s : Site) → held ≡ Some s.directory → Means s old f.code.now f.machine f.notes → RootMeans s new why

-- a root that is a task of a function evaluates to an answer as in the model
abbrev pub BeginsAs : Option Directory → Builder → Builder → Task → Option Refusal → Type 0
BeginsAs held old new root why =
    (s : Site) (function : ℕ) → held ≡ Some s.directory → IsResting s old → number_from 0 s.functions root ≡ Some function → s.root ≡ enc_task root
    → s.base ≡ names_of old.ledger → RootMeans s new why

-- a look is treated as in the model, if the files hold its directory
abbrev pub LooksAs : Option Directory → Builder → Waiting → Event → Turn → Type 0
LooksAs held b w e t = (s : Site) → held ≡ Some s.directory → IsAsking s b w e → TurnMeans s b t

-- ---- how a task begins and ends

-- the running task ends with this output, as in the model, unless that is past the limits
pub record EndsWith (s : Site) (b : Builder) (n : Noted) (v : Value) : Type 0 where
  pub code : Code
  pub machine : Standing
  pub means : Means s b code machine n
  pub ends : (project_of s).next means.running.task means.running.progress.answers ≡ output_or_big (tree_of v)
  pub came : EvaluatedTo code n.task.args (map answer_of means.running.progress.answers) (done (tree_of v))
  pub left : 0 < n.left

-- how it goes on once a task has ended with a value: the newest that waits is answered, or the root ends
abbrev pub GoesOnAfter : Site → Builder → List ℕ → List ℕ → List ModelFrame → Type 0
GoesOnAfter s b u v [] =
    TableRests world (project_of s) (table_of b.ledger) (names_of b.ledger)
    × HasEnded world (project_of s) s.root s.base (names_of b.ledger) (Ended v)
GoesOnAfter s b u v (g ∷ gs) =
    Requires (project_of s) g u
    × ((h : How) → (project_of s).next g.task g.progress.answers ≡ Require h u
    → UnderWay world (project_of s) s.root s.base (table_of b.ledger) (names_of b.ledger) gs (was_answered world (project_of s) g g.left h u v))

-- a task has ended with this output, and its record is kept
pub record HasFinished (s : Site) (b : Builder) (number : ℕ) (v : Value) : Type 0 where
  pub there : IsThere s b
  pub table : MeansTable s b.ledger
  pub task : Task
  pub named : slice_get b.ledger.names number ≡ Some task
  pub output : HasOutput b.ledger.records number v
  pub waiting : List ModelFrame
  pub stack : MeanCallers s b.ledger waiting (reverse b.stack.items)
  pub goes : GoesOnAfter s b (enc_task task) (enc (tree_of v)) waiting

-- a new task is the last one of the ledger, which has all else as before
pub record AddsTask (s : Site) (old new : Builder) (t : Task) : Type 0 where
  pub there : IsThere s new
  pub table : MeansTable s new.ledger
  pub names : new.ledger.names ≡ old.ledger.names ++ t ∷ []
  pub records : new.ledger.records ≡ old.ledger.records
  pub stage : new.ledger.stage ≡ old.ledger.stage
  pub stack : new.stack ≡ old.stack
  pub room : length old.ledger.names < 50000
  pub absent : among (enc_task t) (names_of old.ledger) ≡ false

-- there is no room for it
pub record HasNoRoom (old new : Builder) (t : Task) : Type 0 where
  pub names : new.ledger.names ≡ old.ledger.names
  pub full : length old.ledger.names ≡ 50000
  pub absent : among (enc_task t) (names_of old.ledger) ≡ false

-- a new task that isn't entered: it has no function, or there are too many
abbrev pub RefusesNew : Site → Builder → Builder → Task → Refusal → Type 0
RefusesNew s old new t (refusals.Fault f) = number_from 0 s.functions t ≡ None
RefusesNew s old new t refusals.Many = HasNoRoom old new t
RefusesNew s old new t (refusals.Cycle ts) = ⊥
RefusesNew s old new t (refusals.Overlap p x y) = ⊥
RefusesNew s old new t (refusals.Nested p q) = ⊥
RefusesNew s old new t (refusals.Hidden p x y) = ⊥

-- a new task begins as in the model, or is refused
abbrev pub EntersAs : Site → Builder → Builder → Task → Entered → Type 0
EntersAs s old new t (Runs f) =
    AddsTask s old new t × MeansFrame s new.ledger f.code.now f.machine f.notes f.notes.left (begun world (enc_task t))
EntersAs s old new t (NotStarted r) = RefusesNew s old new t r

-- so it is where the build meant the model's
abbrev pub NewAs : Builder → Builder → Task → Entered → Type 0
NewAs old new t e = (s : Site) → IsThere s old → MeansTable s old.ledger → EntersAs s old new t e

abbrev pub FinishesAs : Builder → Builder → Noted → Value → Turn → Type 0
FinishesAs old new n v t = (s : Site) → EndsWith s old n v → TurnMeans s new t

abbrev pub ResumesAs : Builder → Builder → ℕ → Value → Turn → Type 0
ResumesAs old new number v t = (s : Site) → HasFinished s old number v → TurnMeans s new t
