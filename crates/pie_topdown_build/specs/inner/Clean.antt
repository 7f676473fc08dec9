-- What the parts of a build without a list say of an update.
use Rattle.std.specs.Prelude.{◌≡◌, ℕ, List, [], map, Option, Some, None, IsSome}
use Rattle.pie_build.specs.Left.{IsProjectOf}
use Rattle.pie_build.specs.inner.Projects.{IsReady}
use Rattle.pie_checks.specs.declared.built.Built.{Built}
use Rattle.pie_core_laws.specs.Update.{Update}
use Rattle.pie_files.specs.Directory.{Directory}
use Rattle.pie_incremental.specs.Clean.{IsAsClean}
use Rattle.pie_incremental.specs.Earlier.{Earlier}
use Rattle.pie_incremental.specs.inner.Clean.{BuildsCleanOf}
use Rattle.pie_incremental.specs.inner.Digested.{digested}
use Rattle.pie_parser.specs.FunctionTrees.{FunctionTree}
use Rattle.pie_project.specs.declared.project.Project.{Project}
use Rattle.pie_report.specs.declared.report.Report.{Report}
use Rattle.pie_store.specs.declared.cause.Cause.{Cause}
use Rattle.pie_store.specs.declared.image.StoreImage.{StoreImage}
use Rattle.pie_store.specs.inner.Offers.{Offered}
use Rattle.pie_topdown_result_laws.specs.Builds.{AreHonest, IsFromStore, IsNowHere}
use Rattle.pie_topdown_result_laws.specs.Results.{IsResultOf}
use Rattle.pie_value.specs.Canonical.{enc_task}
use Rattle.pie_value.specs.declared.task.Task.{Task}
use Rattle.pie_topdown_build.specs.declared.base.Base.{Base}
use Rattle.pie_topdown_build.specs.Clean.{CanBegin, HasStoreOf, IsStoreCause}
use Rattle.pie_topdown_build.specs.inner.Anew.{AnewAsClean, BuildsAnewOf, IsNoBase, IsUpdateAnew}
use Rattle.pie_topdown_build.specs.inner.Bases.{HasBase}

-- what an evaluation makes of each update to this project in what the files hold, from this store with its digests, where honest records are offered, is what
-- a clean build makes
pub record MakesFrom (held : Option Directory) (p : Project) (s : StoreImage) (told : Directory → Task → List ℕ → List Offered) (b : Built) : Type 0 where
  pub each : (u : Update) → IsNowHere u held p.typed p.roots.items
      → IsFromStore u (digested u.directory p.digests.items s).funcs p.digests.items s.rows → AreHonest u p.digests.items told → IsResultOf u b

-- an update to this project in what the files hold, from the store of this base
pub record IsUpdateBy (u : Update) (held : Option Directory) (b : Base) (p : Project) : Type 0 where
  pub here : IsNowHere u held p.typed p.roots.items
  pub stored : IsFromStore u (digested u.directory p.digests.items b.image).funcs p.digests.items b.image.rows
  pub base : HasBase u.directory b

-- a build of this project from this base tells no cause to start afresh, and is that of each such update, where honest records are offered; and so it is where
-- there was no store
pub record RunsAsClean (b : Base) (p : Project) (told : Directory → Task → List ℕ → List Offered) (before after : Option Directory) (r : Report) : Type 0 where
  pub none : r.fresh ≡ None
  pub each : (u : Update) → IsUpdateBy u before b p → AreHonest u p.digests.items told → BuildsCleanOf u p.digests.items p.roots.items r after
  pub anew : (u : Update) → IsUpdateAnew u before b p → AreHonest u p.digests.items told → BuildsAnewOf u p.digests.items p.roots.items r after

-- so it is over files that tell their directory, where the functions are typed and the roots are tasks of them
pub record RunsIfTold (b : Base) (p : Project) (told : Directory → Task → List ℕ → List Offered) (before after : Option Directory) (r : Report) : Type 0 where
  pub of : (d : Directory) → before ≡ Some d → IsReady p.typed p.roots.items → RunsAsClean b p told before after r

-- ---- of an earlier build

-- the earlier build, and these functions and roots in a directory, where these strings are met besides
abbrev pub update_of : Earlier → List (List ℕ) → Directory → List FunctionTree → List Task → Update
update_of e strings d fs roots = record {
  old_functions = e.found.functions;
  built = e.built;
  old_roots = map enc_task e.roots;
  left = e.left;
  functions = fs;
  directory = d;
  roots = map enc_task roots;
  names = [];
  besides = strings;
}

-- honest records are offered, whatever the project of the directory is
pub record OffersHonest (e : Earlier) (strings : List (List ℕ)) (d : Directory) (told : Directory → Task → List ℕ → List Offered) : Type 0 where
  pub each : (funcs : List (List ℕ × List ℕ)) (roots : List Task) (found : IsProjectOf d funcs roots)
      → AreHonest (update_of e strings d found.functions roots) funcs told

-- a build from this base tells no cause to start afresh, and is as a clean build where it has the store of an earlier one, or no store and no record, and honest
-- records are offered
pub record FromAsClean (b : Base) (told : Directory → Task → List ℕ → List Offered) (before after : Option Directory) (r : Report) : Type 0 where
  pub none : (d : Directory) → before ≡ Some d → r.fresh ≡ None
  pub each : (d : Directory) → before ≡ Some d → HasBase d b → (e : Earlier) (from : HasStoreOf e d) → OffersHonest e from.strings d told → IsAsClean d r after
  pub anew : (d : Directory) → before ≡ Some d → IsNoBase b → AnewAsClean told d r after

-- what a build with offers came to: a report that tells no cause to start afresh is as that of a clean build, where the directory has the store of an earlier
-- one, and honest records are offered; so is one that tells a cause, whatever was there; the cause holds; and one is told only where no store can be read
pub record OffersClean (told : Directory → Task → List ℕ → List Offered) (d : Directory) (r : Report) (after : Option Directory) : Type 0 where
  pub goes_on : r.fresh ≡ None → (e : Earlier) (from : HasStoreOf e d) → OffersHonest e from.strings d told → IsAsClean d r after
  pub afresh : IsSome r.fresh → AnewAsClean told d r after
  pub cause : (c : Cause) → r.fresh ≡ Some c → IsStoreCause d c
  pub begins : r.fresh ≡ None → CanBegin d
  pub only : IsSome r.fresh → CanBegin d → ⊥
