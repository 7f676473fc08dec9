-- What the parts of a build without a list say of the tasks that ran.
use Rattle.std.specs.Prelude.{◌≡◌, ◌≢◌, ◌⊎◌, ℕ, List, [], map, All, Option, Some, None, IsSome}
use Rattle.std.specs.List.{AllPairs, Contains}
use Rattle.std.specs.List.Sorted.{IsStrictlySortedBy}
use Rattle.pie_build.specs.Left.{IsProjectOf}
use Rattle.pie_build.specs.inner.Projects.{IsReady}
use Rattle.pie_entering_laws.specs.Entering.{Enters}
use Rattle.pie_core_laws.specs.Update.{Update}
use Rattle.pie_files.specs.Directory.{Directory}
use Rattle.pie_incremental.specs.Earlier.{Earlier}
use Rattle.pie_incremental.specs.Ran.{HasReason as HasReasonSince, kept_digests}
use Rattle.pie_incremental.specs.Starts.{IsReadable}
use Rattle.pie_incremental.specs.inner.Digested.{digested}
use Rattle.pie_project.specs.declared.project.Project.{Project}
use Rattle.pie_report.specs.declared.report.Report.{Report}
use Rattle.pie_store.specs.declared.image.StoreImage.{StoreImage}
use Rattle.pie_store.specs.inner.Offers.{Offered}
use Rattle.pie_topdown.specs.inner.Due.{HasReason}
use Rattle.pie_topdown.specs.inner.Ran.{HasStanding as HasStandingNow, IsEntered as EntersNow, RanFor as StartedFor}
use Rattle.pie_topdown.specs.inner.Unoffered.{OffersNothing}
use Rattle.pie_topdown_result_laws.specs.Builds.{AreHonest, IsFromStore, IsNowHere}
use Rattle.pie_value.specs.Canonical.{enc_task, IsCanonicalTask}
use Rattle.pie_value.specs.Order.{byte_order}
use Rattle.pie_value.specs.declared.task.Task.{Task}
use Rattle.pie_value.specs.declared.verdict.Verdict.{Verdict}
use Rattle.pie_value.specs.declared.verdict.Refusal.TheVariants.{Many}
use Rattle.pie_value.specs.declared.verdict.Verdict.TheVariants.{Refused}
use Rattle.pie_topdown_build.specs.Anew.{IsSeparate}
use Rattle.pie_topdown_build.specs.Ran.{HasStanding, IsLost, RanAnew, RanOffered}
use Rattle.pie_topdown_build.specs.declared.base.Base.{Base}
use Rattle.pie_topdown_build.specs.Clean.{HasStoreOf}
use Rattle.pie_topdown_build.specs.inner.Anew.{IsNoBase, IsUpdateAnew, OffersHonestAlone}
use Rattle.pie_topdown_build.specs.inner.Bases.{HasBase}
use Rattle.pie_topdown_build.specs.inner.Clean.{IsUpdateBy, OffersHonest}

-- the tasks that an evaluation started and reused are those that have a reason to run in each update to this project in what the files hold, from this store with
-- its digests, where honest records are offered; and where nothing is offered, none was reused
pub record RunsFrom (held : Option Directory) (p : Project) (s : StoreImage) (told : Directory → Task → List ℕ → List Offered) (before after reused : List Task)
    (v : Verdict) : Type 0 where
  pub each : (u : Update) → IsNowHere u held p.typed p.roots.items
      → IsFromStore u (digested u.directory p.digests.items s).funcs p.digests.items s.rows → AreHonest u p.digests.items told
      → StartedFor u (digested u.directory p.digests.items s).funcs p.digests.items told before after [] reused v
  pub none : OffersNothing held told → reused ≡ []

-- nothing is offered over files that hold a directory
abbrev pub OffersNone : (Directory → Task → List ℕ → List Offered) → Directory → Type 0
OffersNone told d = (t : Task) (digest : List ℕ) → told d t digest ≡ []

-- no task stands twice among these, and each has a reason to run, by the digests that the store kept and those of now, and no offer that stands; those were
-- reused that have one; each that a clean build enters and that has a reason is among them, where nothing is offered among those that ran, unless there are too
-- many, or it is of no function and the build is refused for that
pub record HaveReasons (u : Update) (told : Directory → Task → List ℕ → List Offered) (kept digests : List (List ℕ × List ℕ)) (ran reused : List Task)
    (v : Verdict) : Type 0 where
  pub once : AllPairs (λ t v. t ≢ v) ran
  pub reasons : All (HasReason u kept digests) ran
  pub all : OffersNone told u.directory → (v ≡ Refused Many → ⊥) → (t : Task) → EntersNow u t → HasReason u kept digests t → Contains ran t ⊎ IsLost v t
  pub ascending : IsStrictlySortedBy byte_order (map enc_task reused)
  pub reused_reasons : All (HasReason u kept digests) reused
  pub without : All (λ t. HasStandingNow u digests told t → ⊥) ran
  pub standing : All (HasStandingNow u digests told) reused
  pub every : (v ≡ Refused Many → ⊥) → (t : Task) → EntersNow u t → HasReason u kept digests t
      → Contains ran t ⊎ Contains (map enc_task reused) (enc_task t) ⊎ IsLost v t

-- so it is with the tasks of the report of a build of this project from this base
pub record RunsBy (b : Base) (p : Project) (told : Directory → Task → List ℕ → List Offered) (before : Option Directory) (r : Report) (reused : List Task)
    : Type 0 where
  pub each : (u : Update) → IsUpdateBy u before b p → AreHonest u p.digests.items told
      → HaveReasons u told (digested u.directory p.digests.items b.image).funcs p.digests.items r.ran.items reused r.verdict
  pub anew : (u : Update) → IsUpdateAnew u before b p → AreHonest u p.digests.items told
      → HaveReasons u told (digested u.directory p.digests.items b.image).funcs p.digests.items r.ran.items reused r.verdict

-- so it is over files that tell their directory, where the functions are typed and the roots are tasks of them
pub record RunsByIfTold (b : Base) (p : Project) (told : Directory → Task → List ℕ → List Offered) (before : Option Directory) (r : Report) (reused : List Task)
    : Type 0 where
  pub of : (d : Directory) → before ≡ Some d → IsReady p.typed p.roots.items → RunsBy b p told before r reused

-- a build of a directory from the store of an earlier one ran no task twice, each for a reason, and where nothing is offered, each that a clean build enters and
-- that has one, unless there are too many, or it is of no function and the build is refused for that
pub record RanFrom (e : Earlier) (d : Directory) (told : Directory → Task → List ℕ → List Offered) (ran : List Task) (v : Verdict) : Type 0 where
  pub funcs : List (List ℕ × List ℕ)
  pub roots : List Task
  pub found : IsProjectOf d funcs roots
  pub image : StoreImage
  pub text : List ℕ
  pub is : IsReadable d image text
  pub once : AllPairs (λ t u. t ≢ u) ran
  pub reasons : All (HasReasonSince e d found.functions (kept_digests d funcs image) funcs) ran
  pub all : OffersNone told d → (v ≡ Refused Many → ⊥) → (t : Task) → IsCanonicalTask t (enc_task t) → Enters found.functions d roots (enc_task t)
      → HasReasonSince e d found.functions (kept_digests d funcs image) funcs t → Contains ran t ⊎ IsLost v t

-- a build from this base ran no task twice, and each for a reason, where it has the store of an earlier one, and honest records are offered
pub record FromRuns (b : Base) (told : Directory → Task → List ℕ → List Offered) (before : Option Directory) (r : Report) (reused : List Task) : Type 0 where
  pub each : (d : Directory) → before ≡ Some d → HasBase d b → (e : Earlier) (from : HasStoreOf e d) → OffersHonest e from.strings d told
      → RanFrom e d told r.ran.items r.verdict × RanOffered e d (HasStanding d (told d)) r.ran.items reused r.verdict
  pub anew : (d : Directory) → before ≡ Some d → IsNoBase b → (apart : IsSeparate d) → OffersHonestAlone apart.strings d told
      → RanAnew d (HasStanding d (told d)) r.ran.items reused r.verdict

-- a build from nothing ran and reused so, where nothing that it meets has the hash of something else, and honest records are offered
abbrev pub RunsAnew : (Directory → Task → List ℕ → List Offered) → Directory → Report → List Task → Type 0
RunsAnew told d r reused = (apart : IsSeparate d) → OffersHonestAlone apart.strings d told → RanAnew d (HasStanding d (told d)) r.ran.items reused r.verdict

-- so it is with a build with offers, by whether its report tells a cause to start afresh
pub record OffersRun (told : Directory → Task → List ℕ → List Offered) (d : Directory) (r : Report) (reused : List Task) : Type 0 where
  pub goes_on : r.fresh ≡ None → (e : Earlier) (from : HasStoreOf e d) → OffersHonest e from.strings d told → RanOffered e d (HasStanding d (told d)) r.ran.items reused r.verdict
  pub afresh : IsSome r.fresh → RunsAnew told d r reused
