-- What an evaluation of the roots by what changed makes, as the model of building knows it.
use Rattle.std.specs.Prelude.{◌≡◌, ℕ, List, map, Option, Some, None}
use Rattle.pie_bottomup.specs.declared.state.Core.{Core}
use Rattle.pie_bottomup.specs.inner.Exact.{IsExactCore, IsSiteNow}
use Rattle.pie_bottomup.specs.inner.Going.{IsBuildNow, StandsWhole}
use Rattle.pie_bottomup.specs.inner.Loaded.{IsStoredIn}
use Rattle.pie_builder_laws.specs.Events.{AreCompiled}
use Rattle.pie_checks.specs.declared.built.Built.{Built as Result}
use Rattle.pie_code.specs.declared.code.Code.{Code}
use Rattle.pie_core_laws.specs.Keeping.{Separates}
use Rattle.pie_core_laws.specs.Update.{Update, IsUpdate, present}
use Rattle.pie_files.specs.Directory.{Directory}
use Rattle.pie_left_laws.specs.Accepted.{OutIsMet, IsAccepted}
use Rattle.pie_model.specs.Verdict.{verdict}
use Rattle.pie_model_pipeline.specs.Clean.{with_output, output_bytes}
use Rattle.pie_model_pipeline.specs.Rows.{verdict_of}
use Rattle.pie_model_pipeline.specs.World.{world}
use Rattle.pie_parser.specs.FunctionTrees.{FunctionTree}
use Rattle.pie_record.specs.declared.task_record.TaskRecord.{TaskRecord}
use Rattle.pie_results.specs.inner.Files.{contents_in}
use Rattle.pie_store.specs.declared.cause.Cause.{Cause}
use Rattle.pie_store.specs.declared.image.StoreImage.{StoreImage}
use Rattle.pie_value.specs.Canonical.{enc_task}
use Rattle.pie_value.specs.declared.task.Task.{Task}
use Rattle.pie_value.specs.declared.verdict.Verdict.TheVariants.{Accepted}
use Rattle.pie_incremental.specs.declared.evaluate.Ended.{Ended}
use Rattle.pie_incremental.specs.declared.evaluate.Ended.TheVariants.{Built, Afresh}
use Rattle.pie_incremental.specs.inner.Causes.{IsCauseNow}

-- what is made has the verdict of the clean build; where that accepts, it is an accepted build with the outputs of the clean one
pub record IsResultOf (u : Update) (b : Result) : Type 0 where
  pub verdict : verdict_of b.verdict ≡ verdict world (present u) u.roots
  pub made : b.verdict ≡ Accepted → IsAccepted u b.rows.items (contents_in b.files.items)
  pub outputs : b.verdict ≡ Accepted → map output_bytes b.outputs.items ≡ map (with_output u.functions u.directory) u.roots

-- an update to these functions and roots in what the files hold, whose hashes and marks separate what it meets
pub record IsUpdateHere (u : Update) (held : Option Directory) (fs : List FunctionTree) (roots : List Task) : Type 0 where
  pub update : IsUpdate u
  pub holds : held ≡ Some u.directory
  pub functions : fs ≡ u.functions
  pub roots_are : map enc_task roots ≡ u.roots
  pub separates : Separates u
  pub met : OutIsMet u

-- a core begins as that of each update to these functions and roots, with this code, whose store has these rows and digests
pub record BeginsNow (fs : List FunctionTree) (codes : List Code) (roots : List Task) (funcs digests : List (List ℕ × List ℕ)) (rows : List TaskRecord)
    (names : List (List ℕ)) (c : Core) : Type 0 where
  pub each : (u : Update) (held : Option Directory) → IsUpdateHere u held fs roots → AreCompiled fs codes → IsStoredIn u funcs digests rows names
      → IsBuildNow u c.plan × StandsWhole u c

-- over files that hold the directory of an update, a core that stands still does
abbrev pub StaysStanding : Option Directory → Core → Core → Type 0
StaysStanding held old new = (u : Update) → IsSiteNow u held → IsBuildNow u old.plan → StandsWhole u old → StandsWhole u new

-- it is exact at the end
abbrev pub EndsStanding : Option Directory → Core → Core → Type 0
EndsStanding held old new = (u : Update) → IsSiteNow u held → IsBuildNow u old.plan → StandsWhole u old → IsExactCore u new

-- a core that stands has to start afresh for a cause that is so
abbrev pub StopsFor : Option Directory → Core → Cause → Type 0
StopsFor held c cause = (u : Update) → IsSiteNow u held → IsBuildNow u c.plan → StandsWhole u c → IsCauseNow u cause

-- it is exact once it is settled, or has to start afresh for such a cause
abbrev pub SettlesExact : Option Directory → Core → Core → Option Cause → Type 0
SettlesExact held old new None = EndsStanding held old new
SettlesExact held old new (Some cause) = StopsFor held old cause

-- what an exact core makes of these roots
pub record ResultsExact (c : Core) (roots : List Task) (b : Result) : Type 0 where
  pub each : (u : Update) → IsExactCore u c → Separates u → OutIsMet u → map enc_task roots ≡ u.roots → IsResultOf u b

-- what an evaluation makes of each such update from this store, with these names
pub record MakesExact (held : Option Directory) (fs : List FunctionTree) (digests : List (List ℕ × List ℕ)) (roots : List Task) (s : StoreImage)
    (names : List (List ℕ)) (b : Result) : Type 0 where
  pub each : (u : Update) → IsUpdateHere u held fs roots → IsStoredIn u s.funcs digests s.rows names → IsResultOf u b

-- of each of them, an evaluation has to start afresh for a cause that is so
pub record StopsWhere (held : Option Directory) (fs : List FunctionTree) (digests : List (List ℕ × List ℕ)) (roots : List Task) (s : StoreImage)
    (names : List (List ℕ)) (cause : Cause) : Type 0 where
  pub each : (u : Update) → IsUpdateHere u held fs roots → IsStoredIn u s.funcs digests s.rows names → IsCauseNow u cause

abbrev pub EvaluatesExact : Option Directory → List FunctionTree → List (List ℕ × List ℕ) → List Task → StoreImage → List (List ℕ) → Ended → Type 0
EvaluatesExact held fs digests roots s names (Built b) = MakesExact held fs digests roots s names b.value
EvaluatesExact held fs digests roots s names (Afresh cause) = StopsWhere held fs digests roots s names cause
