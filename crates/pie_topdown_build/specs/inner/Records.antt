-- What the parts of a build without a list say of the records that it tells as new offers.
use Rattle.std.specs.Prelude.{◌≡◌, ℕ, List, map, All, Contains, Option, None, Some, IsSome}
use Rattle.pie_build.specs.Left.{IsProjectOf}
use Rattle.pie_build.specs.inner.Projects.{IsReady}
use Rattle.pie_core_laws.specs.Update.{Update}
use Rattle.pie_files.specs.Directory.{Directory}
use Rattle.pie_incremental.specs.Earlier.{Earlier}
use Rattle.pie_incremental.specs.inner.Digested.{digested}
use Rattle.pie_parser.specs.FunctionTrees.{FunctionTree}
use Rattle.pie_project.specs.declared.project.Project.{Project}
use Rattle.pie_report.specs.declared.report.Report.{Report}
use Rattle.pie_store.specs.Texts.{IsRow}
use Rattle.pie_store.specs.declared.image.StoreImage.{StoreImage}
use Rattle.pie_store.specs.inner.Offers.{Offered}
use Rattle.pie_topdown_result_laws.specs.Builds.{AreHonest, IsFromStore, IsNowHere}
use Rattle.pie_value.specs.Canonical.{enc_task}
use Rattle.pie_value.specs.declared.task.Task.{Task}
use Rattle.pie_value.specs.declared.verdict.Verdict.{Verdict}
use Rattle.pie_value.specs.declared.verdict.Verdict.TheVariants.{Accepted}
use Rattle.pie_topdown_build.specs.declared.base.Base.{Base}
use Rattle.pie_topdown_build.specs.Anew.{IsSeparate}
use Rattle.pie_topdown_build.specs.Clean.{HasStoreOf}
use Rattle.pie_topdown_build.specs.Records.{IsOfEvaluation}
use Rattle.pie_topdown_build.specs.inner.Anew.{IsNoBase, OffersHonestAlone}
use Rattle.pie_topdown_build.specs.inner.Bases.{HasBase}
use Rattle.pie_topdown_build.specs.inner.Clean.{OffersHonest}
use Rattle.pie_topdown_build.specs.inner.Complete.{AreAllThatRan}
use Rattle.pie_topdown_build.specs.inner.News.{Told}

-- what is told is of an evaluation by these functions in a directory, with the digest that its task's function has among these, and its record has canonical
-- bytes
pub record IsToldOf (fs : List FunctionTree) (d : Directory) (funcs : List (List ℕ × List ℕ)) (t : Told) : Type 0 where
  pub listed : Contains funcs (t.1.0.task.func, t.0)
  pub row : IsRow t.1.0
  pub evaluated : IsOfEvaluation fs d t.1

-- all that is told is so by the project of a directory
pub record AreOfProject (d : Directory) (told : List Told) : Type 0 where
  pub funcs : List (List ℕ × List ℕ)
  pub roots : List Task
  pub found : IsProjectOf d funcs roots
  pub each : All (IsToldOf found.functions d funcs) told

-- so it is, and is of all live tasks that ran
pub record AreAllOf (d : Directory) (ran : List Task) (told : List Told) : Type 0 where
  pub funcs : List (List ℕ × List ℕ)
  pub roots : List Task
  pub found : IsProjectOf d funcs roots
  pub each : All (IsToldOf found.functions d funcs) told
  pub all : AreAllThatRan found.functions d (map enc_task roots) ran told

-- what an accepted build of a project tells is so, and is of all live tasks that ran, in each update to it in what the files hold, from this store with its
-- digests, where honest records are offered
pub record TellsOf (held : Option Directory) (p : Project) (s : StoreImage) (offers : Directory → Task → List ℕ → List Offered) (v : Verdict) (ran : List Task)
    (told : List Told) : Type 0 where
  pub each : v ≡ Accepted → (u : Update) → IsNowHere u held p.typed p.roots.items
      → IsFromStore u (digested u.directory p.digests.items s).funcs p.digests.items s.rows → AreHonest u p.digests.items offers
      → All (IsToldOf u.functions u.directory p.digests.items) told
  pub all : v ≡ Accepted → (u : Update) → IsNowHere u held p.typed p.roots.items
      → IsFromStore u (digested u.directory p.digests.items s).funcs p.digests.items s.rows → AreHonest u p.digests.items offers
      → AreAllThatRan u.functions u.directory u.roots ran told

-- so it is over files that tell their directory, where the functions are typed and the roots are tasks of them
pub record TellsOfIfReady (held : Option Directory) (p : Project) (s : StoreImage) (offers : Directory → Task → List ℕ → List Offered) (v : Verdict)
    (ran : List Task) (told : List Told) : Type 0 where
  pub of : (d : Directory) → held ≡ Some d → IsReady p.typed p.roots.items → TellsOf held p s offers v ran told

-- what an accepted build from a base tells is of the project of the directory, and of all its live tasks that ran, where it has the store of an earlier build, or
-- no store and no record, and honest records are offered
pub record TellsFrom (b : Base) (offers : Directory → Task → List ℕ → List Offered) (before : Option Directory) (v : Verdict) (ran : List Task)
    (told : List Told) : Type 0 where
  pub each : v ≡ Accepted → (d : Directory) → before ≡ Some d → HasBase d b → (e : Earlier) (from : HasStoreOf e d) → OffersHonest e from.strings d offers
      → AreOfProject d told
  pub all : v ≡ Accepted → (d : Directory) → before ≡ Some d → HasBase d b → (e : Earlier) (from : HasStoreOf e d) → OffersHonest e from.strings d offers
      → AreAllOf d ran told
  pub anew : v ≡ Accepted → (d : Directory) → before ≡ Some d → IsNoBase b → (apart : IsSeparate d) → OffersHonestAlone apart.strings d offers
      → AreOfProject d told
  pub all_anew : v ≡ Accepted → (d : Directory) → before ≡ Some d → IsNoBase b → (apart : IsSeparate d) → OffersHonestAlone apart.strings d offers
      → AreAllOf d ran told

-- so it is with what an accepted build from an empty store tells
pub record TellsAnew (offers : Directory → Task → List ℕ → List Offered) (d : Directory) (v : Verdict) (ran : List Task) (told : List Told) : Type 0 where
  pub each : v ≡ Accepted → (apart : IsSeparate d) → OffersHonestAlone apart.strings d offers → AreOfProject d told
  pub all : v ≡ Accepted → (apart : IsSeparate d) → OffersHonestAlone apart.strings d offers → AreAllOf d ran told

-- and with what one with offers tells, from the store of an earlier build or from none
pub record OffersOf (offers : Directory → Task → List ℕ → List Offered) (d : Directory) (r : Report) (told : List Told) : Type 0 where
  pub goes_on : r.fresh ≡ None → r.verdict ≡ Accepted → (e : Earlier) (from : HasStoreOf e d) → OffersHonest e from.strings d offers → AreOfProject d told
  pub all : r.fresh ≡ None → r.verdict ≡ Accepted → (e : Earlier) (from : HasStoreOf e d) → OffersHonest e from.strings d offers
      → AreAllOf d r.ran.items told
  pub afresh : IsSome r.fresh → r.verdict ≡ Accepted → (apart : IsSeparate d) → OffersHonestAlone apart.strings d offers → AreOfProject d told
  pub all_afresh : IsSome r.fresh → r.verdict ≡ Accepted → (apart : IsSeparate d) → OffersHonestAlone apart.strings d offers → AreAllOf d r.ran.items told
