-- A build without a list, as the model of building knows it, between two roots.
use Rattle.std.specs.Prelude.{◌≡◌, ◌⊎◌, ℕ, ◌<◌, Bool, true, false, List, [], ◌∷◌, ◌++◌, length, map, All, Option, Some, None}
use Rattle.std.specs.BTreeMap.{get_by_text}
use Rattle.pie_value.specs.declared.task.Task.{Task}
use Rattle.pie_value.specs.declared.verdict.Refusal.{Refusal}
use Rattle.pie_value.specs.Canonical.{enc_task}
use Rattle.pie_code.specs.declared.code.Code.{Code}
use Rattle.pie_parser.specs.FunctionTrees.{FunctionTree}
use Rattle.pie_files.specs.Directory.{Directory}
use Rattle.pie_record.specs.Canonical.{IsTrueOutcome, IsTrueRecord}
use Rattle.pie_record.specs.declared.task_record.TaskRecord.{TaskRecord}
use Rattle.pie_record.specs.inner.Records.{record_of as kept_of}
use Rattle.pie_store.specs.inner.Offers.{Offered}
use Rattle.pie_tables.specs.declared.tables.Tables.{Tables}
use Rattle.pie_checks.specs.declared.built.Built.{Built}
use Rattle.pie_named.specs.inner.Known.{IsTrueOf}
use Rattle.pie_old.specs.inner.Code.{digest_in, is_same_code}
use Rattle.pie_old.specs.inner.Loaded.{AreTablesOf}
use Rattle.pie_model.specs.Paths.{among}
use Rattle.pie_model.specs.Verdict.{verdict}
use Rattle.pie_model_pipeline.specs.Rows.{refusal_of}
use Rattle.pie_model_pipeline.specs.World.{world}
use Rattle.pie_builder_laws.specs.Events.{AreCompiled}
use Rattle.pie_builder_laws.specs.Names.{AreTasks}
use Rattle.pie_core_laws.specs.Update.{Update, present}
use Rattle.pie_core_laws.specs.Keeping.{Separates}
use Rattle.pie_left_laws.specs.Accepted.{OutIsMet}
use Rattle.pie_topdown_laws.specs.Ends.{AreRecorded, StandsUnder}
use Rattle.pie_topdown_laws.specs.Ledgers.{setting, IsRightLedger}
use Rattle.pie_topdown_result_laws.specs.Results.{IsResultOf}
use Rattle.pie_topdown.specs.declared.builder.Builder.{Builder}
use Rattle.pie_topdown.specs.declared.hand.Hand.{Hand}
use Rattle.pie_topdown.specs.declared.plan.Plan.{Plan}
use Rattle.pie_topdown.specs.inner.Right.{names_of, records_of, IsPlanNow, AreOffersHonest, AreWritten, AreTheBusy, IsRefused, IsRight, IsAtRest, IsFull, FailsRight}

-- ---- between two roots

-- these roots are recorded, nothing waits, and no task failed: records are right, and their outputs are values of the program; what they wrote is known; each
-- entered task is recorded, and stands in the evaluation of one of these roots
pub record IsSettledSoFar (u : Update) (done : List (List ℕ)) (b : Builder) : Type 0 where
  pub ledger : IsRightLedger u b.ledger.tables.names b.ledger.tables.records b.ledger.rows b.ledger.places.items
  pub written : AreWritten u b
  pub outputs : (n : ℕ) (rec : TaskRecord) → kept_of b.ledger.tables.records n ≡ Some rec → IsTrueOutcome rec.outcome
  pub known : IsTrueOf u.directory b.named
  pub calm : b.failure ≡ None
  pub free : b.stack.items ≡ []
  pub recorded : AreRecorded (records_of b) done
  pub all : AreTheBusy b []
  pub stand : (t : List ℕ) → among t (names_of b) ≡ true → StandsUnder (setting u) done t

-- files hold the directory of an update, this is its plan, and offers are honest
pub record IsBuildOf (u : Update) (held : Option Directory) (told : Directory → Task → List ℕ → List Offered) (p : Plan) : Type 0 where
  pub holds : held ≡ Some u.directory
  pub plan : IsPlanNow u p
  pub honest : AreOffersHonest u p told

-- ---- the steps of a root

-- once nothing waits, one task more was to be entered than may be, or a task failed
abbrev pub StopsRight : Update → List (List ℕ) → List ℕ → Builder → Bool → Type 0
StopsRight u done root b true = IsAtRest u done root b
StopsRight u done root b false = IsFull u done root b ⊎ FailsRight u done root b

-- a build with what is in hand goes on until then
abbrev pub RunsOnRight : Option Directory → (Directory → Task → List ℕ → List Offered) → Builder → Hand → Builder → Bool → Type 0
RunsOnRight held told old h new rests =
    (u : Update) (done : List (List ℕ)) (root : List ℕ) → IsBuildOf u held told old.plan → IsRight u done root old h → StopsRight u done root new rests

-- so far it is right
abbrev pub StaysRight : Option Directory → (Directory → Task → List ℕ → List Offered) → Builder → Hand → Builder → Hand → Type 0
StaysRight held told old h new next =
    (u : Update) (done : List (List ℕ)) (root : List ℕ) → IsBuildOf u held told old.plan → IsRight u done root old h → IsRight u done root new next

-- ---- a root

-- with a root that has an output one root more is settled; one that fails is why the clean build is refused
abbrev pub RootEndsRight : Update → List (List ℕ) → List ℕ → Builder → Option Refusal → Type 0
RootEndsRight u done root b None = IsSettledSoFar u (done ++ root ∷ []) b
RootEndsRight u done root b (Some why) = IsRefused u done root why

abbrev pub SettlesRight : Option Directory → (Directory → Task → List ℕ → List Offered) → Builder → Task → Builder → Option Refusal → Type 0
SettlesRight held told old root new why =
    (u : Update) (done : List (List ℕ)) → IsBuildOf u held told old.plan → among (enc_task root) u.roots ≡ true → IsSettledSoFar u done old
    → RootEndsRight u done (enc_task root) new why

-- ---- all roots

-- so far all have outputs
abbrev pub HasSettledRight : Option Directory → (Directory → Task → List ℕ → List Offered) → Builder → List Task → List Task → Builder → Type 0
HasSettledRight held told old roots done new =
    (u : Update) → IsBuildOf u held told old.plan → map enc_task roots ≡ u.roots → IsSettledSoFar u [] old → IsSettledSoFar u (map enc_task done) new

-- all have outputs, or the clean build is refused so
abbrev pub RootsEndRight : Update → Builder → Option Refusal → Type 0
RootsEndRight u b None = IsSettledSoFar u u.roots b
RootsEndRight u b (Some why) = verdict world (present u) u.roots ≡ refusal_of why

abbrev pub SettlesAllRight : Option Directory → (Directory → Task → List ℕ → List Offered) → Builder → List Task → Builder → Option Refusal → Type 0
SettlesAllRight held told old roots new why =
    (u : Update) → IsBuildOf u held told old.plan → map enc_task roots ≡ u.roots → IsSettledSoFar u [] old → RootsEndRight u new why

-- ---- the beginning

-- nothing was entered or staged, nothing waits, and what is known is true of each directory
pub record IsUnbegun (b : Builder) : Type 0 where
  pub names : b.ledger.tables.names ≡ []
  pub stage : b.stage ≡ []
  pub known : (d : Directory) → IsTrueOf d b.named
  pub stack : b.stack.items ≡ []
  pub calm : b.failure ≡ None
  pub reused : b.reused.items ≡ []

-- the tables of a store's records, or of none where these are too many
abbrev pub AreOldTables : List TaskRecord → Tables → Type 0
AreOldTables rows t = AreTablesOf rows t ⊎ ((50000 < length rows) × AreTablesOf [] t)

-- a plan is of these functions with this code, and its tables are of these records; it marks the tasks whose functions have one digest in both lists, and has the
-- first digest of each name
pub record IsPlanOf (fs : List FunctionTree) (codes : List Code) (funcs digests : List (List ℕ × List ℕ)) (rows : List TaskRecord) (p : Plan) : Type 0 where
  pub typed : p.typed.now ≡ fs
  pub code : p.code.now ≡ codes
  pub old : AreOldTables rows p.earlier
  pub tasks : AreTasks p.earlier.names
  pub same : p.same.items ≡ map (λ (t : Task). is_same_code funcs digests t.func) p.earlier.names
  pub digest : (q : List ℕ) → get_by_text p.digests q ≡ digest_in digests q

-- ---- the end

-- what is made of settled roots is what a clean build makes
abbrev pub MakesSettled : Builder → List Task → Built → Type 0
MakesSettled b roots made =
    (u : Update) → Separates u → OutIsMet u → map enc_task roots ≡ u.roots → IsSettledSoFar u u.roots b → IsResultOf u made

-- this is the code of these functions, and the records are ones of the program
pub record IsProgram (fs : List FunctionTree) (codes : List Code) (rows : List TaskRecord) : Type 0 where
  pub compiled : AreCompiled fs codes
  pub parts : All IsTrueRecord rows
