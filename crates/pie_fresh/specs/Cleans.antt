-- The result of a clean build in the model.
use Rattle.std.specs.Prelude.{◌≡◌, ℕ, true, List, [], ◌++◌, map, All, Option, Some, None, Vec}
use Rattle.pie_value.specs.declared.task.Task.{Task}
use Rattle.pie_value.specs.declared.verdict.Refusal.{Refusal}
use Rattle.pie_value.specs.declared.verdict.Verdict.TheVariants.{Refused}
use Rattle.pie_value.specs.Limits.{is_small_task}
use Rattle.pie_files.specs.Directory.{Directory}
use Rattle.pie_parser.specs.FunctionTrees.{FunctionTree}
use Rattle.pie_types.specs.Whole.{number_from}
use Rattle.pie_types.specs.inner.WholeRules.{IsTyped}
use Rattle.pie_code.specs.declared.code.Code.{Code}
use Rattle.pie_checks.specs.declared.built.Built.{Built}
use Rattle.pie_model_pipeline.specs.Clean.{IsCleanBuild}
use Rattle.pie_builder_laws.specs.Events.{AreCompiled}
use Rattle.pie_builder_laws.specs.Fits.{HasHeadings}
use Rattle.pie_builder_laws.specs.Builds.{AreDone}
use Rattle.pie_fresh.specs.declared.builder.Builder.{Builder}
use Rattle.pie_fresh.specs.Told.{IsTrueRefusal, TellsTrue}
use Rattle.pie_fresh.specs.inner.Means.{Site, IsResting, BeginsAs}

-- the files with their contents
abbrev pub contents_in : {Z : Type 0} → List (List ℕ × Vec ℕ Z) → List (List ℕ × List ℕ)
contents_in {Z} files = map (λ (f : List ℕ × Vec ℕ Z). (f.0, f.1.items)) files

-- a root is a task of a function of the pipeline, within the limits
pub record IsRootOf (fs : List FunctionTree) (t : Task) : Type 0 where
  pub number : ℕ
  pub found : number_from 0 fs t ≡ Some number
  pub small : is_small_task t ≡ true

-- the clean build of the model, with the tasks that were started after those before; what is told of it is true
pub record IsCleanOf (fs : List FunctionTree) (d : Directory) (roots before after : List Task) (b : Built) : Type 0 where
  pub started : List Task
  pub gained : after ≡ before ++ started
  pub clean : IsCleanBuild fs d roots started b.verdict b.rows.items (contents_in b.files.items) b.outputs.items
  pub told : TellsTrue started b.verdict b.outputs.items

-- where the files hold a directory, the pipeline is typed and compiled and the roots are its tasks, a build is the clean build of the model
abbrev pub CleansAs : Option Directory → List FunctionTree → List Code → List Task → List Task → List Task → Built → Type 0
CleansAs held fs codes roots before after b =
    (d : Directory) → held ≡ Some d → IsTyped fs → AreCompiled fs codes → All (IsRootOf fs) roots → IsCleanOf fs d roots before after b

-- ---- from root to root

-- these roots are done, as in the model
pub record RootsDone (s : Site) (b : Builder) (roots : List Task) : Type 0 where
  pub resting : IsResting s b
  pub done : AreDone s.functions s.directory roots b.ledger.names b.ledger.records

-- a build of this pipeline begins, and no root is done
abbrev pub NoRootsDone : List FunctionTree → List Code → Builder → Type 0
NoRootsDone fs codes b =
    (s : Site) → s.functions ≡ fs → s.codes ≡ codes → AreCompiled s.functions s.codes → HasHeadings s.functions s.headings → RootsDone s b []

-- a root gets an answer as in the model, if it is within the limits
abbrev pub EvaluatesRoot : Option Directory → Builder → Builder → Task → Option Refusal → Type 0
EvaluatesRoot held old new root why = is_small_task root ≡ true → BeginsAs held old new root why

-- from where nothing was entered, the first ones of these roots are done as in the model
abbrev pub DoesRoots : Option Directory → Builder → Builder → List Task → List Task → Type 0
DoesRoots held old new roots first =
    (s : Site) → held ≡ Some s.directory → RootsDone s old [] → All (IsRootOf s.functions) roots → RootsDone s new first

-- all roots are done, or one ends the build as in the model
abbrev pub RootsMean : Site → Builder → List Task → Option Refusal → Type 0
RootsMean s b roots None = RootsDone s b roots
RootsMean s b roots (Some r) = IsCleanBuild s.functions s.directory roots b.ledger.names (Refused r) [] [] [] × IsTrueRefusal r

-- and so it is from where nothing was entered
abbrev pub EvaluatesAs : Option Directory → Builder → Builder → List Task → Option Refusal → Type 0
EvaluatesAs held old new roots why =
    (s : Site) → held ≡ Some s.directory → RootsDone s old [] → All (IsRootOf s.functions) roots → RootsMean s new roots why
