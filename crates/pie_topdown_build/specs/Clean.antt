-- What a build without a list reports and leaves, as a clean build does.
use Rattle.std.specs.Prelude.{◌≡◌, ℕ, true, List, [], Option, Some, None, Ok, IsSome}
use Rattle.pie_base.specs.Path.{is_out}
use Rattle.pie_files.specs.Directory.{Directory}
use Rattle.pie_incremental.specs.Clean.{IsAsClean, IsAfresh}
use Rattle.pie_incremental.specs.Earlier.{Earlier, AreSeparate, HasSpellings, IsStoreOfEarlier}
use Rattle.pie_incremental.specs.Own.{bytes_at}
use Rattle.pie_incremental.specs.Starts.{IsCause, IsReadable}
use Rattle.pie_model.specs.Paths.{among}
use Rattle.pie_parser.specs.FunctionTrees.{FunctionTree}
use Rattle.pie_project.specs.Fronts.{ProjectSays}
use Rattle.pie_report.specs.declared.report.Report.{Report}
use Rattle.pie_store.specs.declared.cause.Cause.{Cause}
use Rattle.pie_store.specs.declared.cause.Cause.TheVariants as causes
use Rattle.pie_store.specs.declared.image.StoreImage.{StoreImage}
use Rattle.pie_value.specs.declared.task.Task.{Task}

-- no marker stands, and the store can be read
pub record CanBegin (d : Directory) : Type 0 where
  pub image : StoreImage
  pub text : List ℕ
  pub readable : IsReadable d image text

-- the first cause that holds: a marker; no store; a store that can't be read; pending names are none of them
abbrev pub IsStoreCause : Directory → Cause → Type 0
IsStoreCause d causes.Interrupted = IsCause d causes.Interrupted
IsStoreCause d causes.NoStore = IsCause d causes.NoStore
IsStoreCause d (causes.Damaged fault) = IsCause d (causes.Damaged fault)
IsStoreCause d causes.BadPending = ⊥
IsStoreCause d (causes.UnionCycle tasks) = ⊥
IsStoreCause d (causes.UnionMany old entered task) = ⊥

-- a directory has the store of an earlier build, whatever changed since: what is met then and now is separate, with both pipelines, the spellings of their
-- functions and the files under `out` among it
pub record HasStoreOf (e : Earlier) (d : Directory) : Type 0 where
  pub stored : (s : StoreImage) (text : List ℕ) → IsReadable d s text → IsStoreOfEarlier e s
  pub strings : List (List ℕ)
  pub out : (path bytes : List ℕ) → is_out path ≡ true → bytes_at d path ≡ Some bytes → among bytes strings ≡ true
  pub earlier : HasSpellings e.built e.found.functions strings
  pub now : (fs : List FunctionTree) (roots : List Task) → ProjectSays d (Ok (fs, roots)) → AreSeparate e strings d fs roots

-- what a build without a list came to: where its report tells no cause to start afresh, the store can be read, and the report is as that of a clean build, where
-- the directory has the store of an earlier one; a report that tells one is of a clean build, whatever was there, the cause holds, and no task ran before
pub record BuildsAsClean (d : Directory) (r : Report) (after : Option Directory) : Type 0 where
  pub goes_on : r.fresh ≡ None → (e : Earlier) → HasStoreOf e d → IsAsClean d r after
  pub begins : r.fresh ≡ None → CanBegin d
  pub afresh : IsSome r.fresh → IsAfresh d r after
  pub cause : (c : Cause) → r.fresh ≡ Some c → IsStoreCause d c
  pub none : (some : IsSome r.fresh) → (afresh some).before ≡ []
