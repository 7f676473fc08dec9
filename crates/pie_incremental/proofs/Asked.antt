-- Which paths a whole build asks for.
use Rattle.std.proofs.Common.{◌≡◌, ℕ, List, drop, length, Option, None, Some, Result, Ok, Err, Vec, Global, sym, ap, subst, ◌∙◌}
use Rattle.std.specs.Prelude.{All, Box, IfOk, IfSome, true}
use Rattle.std.proofs.lemmas.List.Elements.{All-weaker}
use Rattle.pie_bottomup.specs.inner.Loaded.{IsStoredIn}
use Rattle.pie_build.specs.inner.Projects.{IsReady}
use Rattle.pie_fresh.specs.Cleans.{IsRootOf}
use Rattle.pie_digest.specs.Digests.{HasNames}
use Rattle.pie_files.specs.Directory.{Directory}
use Rattle.pie_files.specs.declared.files.Call.{Call}
use Rattle.pie_files.specs.declared.files.FilesError.{FilesError}
use Rattle.pie_files.proofs.Reading.{if_always}
use Rattle.pie_named.specs.Asking.{AsksFor, MakesOnly}
use Rattle.pie_project.specs.Digested.{HasDigests}
use Rattle.pie_project.specs.Fronts.{ProjectSays}
use Rattle.pie_project.specs.declared.fault.BuildError.{BuildError}
use Rattle.pie_project.specs.declared.project.Project.{Project}
use Rattle.pie_project.specs.inner.Projects.{front_of}
use Rattle.pie_report.specs.declared.report.Report.{Report}
use Rattle.pie_store.specs.Canonical.{AreFuncs}
use Rattle.pie_store.specs.declared.cause.Cause.{Cause}
use Rattle.pie_store.specs.declared.image.StoreImage.{StoreImage}
use Rattle.pie_value.specs.Limits.{is_small_task}
use Rattle.pie_value.specs.declared.task.Task.{Task}
use Rattle.pie_model.specs.Reasons.MayAsk.{project_file}
use Rattle.pie_incremental.specs.declared.base.Base.{Base}
use Rattle.pie_incremental.specs.declared.base.Start.{Start}
use Rattle.pie_incremental.specs.declared.base.Start.TheVariants.{From}
use Rattle.pie_incremental.specs.declared.ending.Ending.{Ending}
use Rattle.pie_incremental.specs.declared.run.Done.{Done}
use Rattle.pie_incremental.specs.declared.run.Done.TheVariants.{Reported, Stopped}
use Rattle.pie_incremental.specs.Starts.{StartsFrom}
use Rattle.pie_incremental.specs.Asked.{AsksRight}
use Rattle.pie_incremental.specs.inner.Asked.{IsProjectFile, IsAtFirst, MayAskIn, AsksEach, BuildsAsking, GoesAsking, RunsAsking, AsksUnlessAfresh}
use Rattle.pie_incremental.specs.inner.Asked.{FromAsking, IsChange}
use Rattle.pie_incremental.specs.inner.Cleaned.{KnowsWhere}
use Rattle.pie_incremental.specs.inner.Digested.{digested}
use Rattle.pie_incremental.specs.inner.Evaluated.{IsUpdateHere}
use Rattle.pie_incremental.specs.inner.Joined.{IsEndingOf}
use Rattle.pie_incremental.proofs.Asking.{begun_asks, evaluated_asks, looks_before}
use Rattle.pie_incremental.proofs.Cleanly.{is_update, update_of}
use Rattle.pie_incremental.proofs.Updating.{begun_stored}

-- ---- from what is begun on

pub goes_asking : (s : StoreImage) (e : Ending) (p : Project) (held : Option Directory) (names : List (List ℕ)) (n : ℕ) (old new : List Task)
    (ran : Vec Task Global) (r : Box Report Global) (asked mid asked_now : Option (List Call)) → names ≡ e.names.items → n ≡ length old
    → ran.items ≡ drop n new → r.value.ran ≡ ran → AsksEach held p.typed p.digests.items p.roots.items s names old new asked mid
    → MakesOnly IsChange mid asked_now → GoesAsking s e p held asked asked_now (Reported r)
goes_asking s e p held names n old new ran r asked mid asked_now is at behind told asks changes = λ u here stored.
    evaluated_asks u n old new ran r.value.ran.items asked mid asked_now at behind (ap (λ (v : Vec Task Global). v.items) told)
    (asks.each u here (subst (IsStoredIn u s.funcs p.digests.items s.rows) (sym is) stored)) changes

runs_then : (b : Base) (e : Ending) (p : Project) (list : List (List ℕ)) (s : StoreImage) (before mid : Option Directory) (asked begun asked_now : Option (List Call))
    (done : Done) → mid ≡ before → IsEndingOf b list e → IfSome before (λ d. KnowsWhere b d e) → IfSome before (λ d. s ≡ digested d p.digests.items b.image)
    → AsksFor (IsAtFirst list b.names.items) asked begun → GoesAsking s e p mid begun asked_now done → RunsAsking b p list before asked asked_now done
runs_then b e p list s before mid asked begun asked_now (Reported r) same ending knows image first goes = λ u from.
    begun_asks u r.value.ran.items list b.names.items asked begun asked_now from.stored.names first
    (goes u (subst (λ m. IsUpdateHere u m p.typed p.roots.items) (sym same) from.here) (begun_stored b e p list s before u ending knows image from))
runs_then b e p list s before mid asked begun asked_now (Stopped stop) same ending knows image first goes = tt

pub runs_asking : (b : Base) (e : Ending) (p : Project) (list : List (List ℕ)) (s : StoreImage) (before mid : Option Directory)
    (asked begun asked_now : Option (List Call)) (result : Result Done FilesError) → mid ≡ before → IsEndingOf b list e → IfSome before (λ d. KnowsWhere b d e)
    → IfSome before (λ d. s ≡ digested d p.digests.items b.image) → AsksFor (IsAtFirst list b.names.items) asked begun
    → IfOk result (GoesAsking s e p mid begun asked_now) → IfOk result (RunsAsking b p list before asked asked_now)
runs_asking b e p list s before mid asked begun asked_now (Ok done) same ending knows image first goes =
    runs_then b e p list s before mid asked begun asked_now done same ending knows image first goes
runs_asking b e p list s before mid asked begun asked_now (Err x) same ending knows image first goes = tt

-- ---- a project

-- roots of a project that is observable are within the limits of values
large_never : (p : Project) (held : Option Directory) → IfSome held (λ d. IsReady p.typed p.roots.items)
    → ¬ (All (λ t. is_small_task t ≡ true) p.roots.items) → (d : Directory) → held ≡ Some d → ⊥
large_never p held ready large d told =
    let is : IsReady p.typed p.roots.items = subst (λ o. IfSome o (λ x. IsReady p.typed p.roots.items)) told ready in
    large (All-weaker (IsRootOf p.typed) (λ t. is_small_task t ≡ true) (λ t root. root.small) p.roots.items is.roots)

pub large_asking : (b : Base) (p : Project) (list : List (List ℕ)) (held : Option Directory) (asked asked_now : Option (List Call))
    (result : Result Report BuildError) → IfSome held (λ d. IsReady p.typed p.roots.items) → ¬ (All (λ t. is_small_task t ≡ true) p.roots.items)
    → IfOk result (AsksUnlessAfresh b p list held asked asked_now)
large_asking b p list held asked asked_now (Ok r) ready large = record { once = λ d told none u from. absurd (large_never p held ready large d told) }
large_asking b p list held asked asked_now (Err e) ready large = tt

pub reported_asking : (b : Base) (p : Project) (list : List (List ℕ)) (held : Option Directory) (asked asked_now : Option (List Call)) (done : Done)
    (report : Box Report Global) (r : Report) → done ≡ Reported report → r ≡ report.value → RunsAsking b p list held asked asked_now done
    → AsksUnlessAfresh b p list held asked asked_now r
reported_asking b p list held asked asked_now done report r is same h =
    let runs = subst (RunsAsking b p list held asked asked_now) is h in
    record { once = λ d told none u from. subst (λ (x : Report). BuildsAsking u x.ran.items asked asked_now) (sym same) (runs u from) }

caused_not : (cause : Cause) (o : Option Cause) → o ≡ Some cause → o ≡ None → ⊥
caused_not cause o some none = cc

-- one that tells why it started afresh
pub afresh_asking : (b : Base) (p : Project) (list : List (List ℕ)) (held : Option Directory) (asked asked_now : Option (List Call))
    (result : Result Report BuildError) (cause : Cause) → IfOk result (λ r. r.fresh ≡ Some cause) → IfOk result (AsksUnlessAfresh b p list held asked asked_now)
afresh_asking b p list held asked asked_now (Ok r) cause why = record { once = λ d told none u from. absurd (caused_not cause r.fresh why none) }
afresh_asking b p list held asked asked_now (Err e) cause why = tt

-- ---- an earlier build

from_asks : (b : Base) (p : Project) (list : List (List ℕ)) (before mid : Option Directory) (asked begun asked_now : Option (List Call)) (r : Report)
    → mid ≡ before → IfSome before (λ d. ProjectSays d (Ok (front_of p))) → IfSome before (λ d. HasDigests d p.digests.items) → HasNames p.typed p.digests.items
    → AreFuncs p.digests.items → AsksFor IsProjectFile asked begun → AsksUnlessAfresh b p list mid begun asked_now r → FromAsking b list before asked asked_now r
from_asks b p list before mid asked begun asked_now r same says has names funcs first asks = record {
  of = λ d told base none e from.
      let project : ProjectSays d (Ok (front_of p)) = subst (λ o. IfSome o (λ x. ProjectSays x (Ok (front_of p)))) told says in
      let digests : HasDigests d p.digests.items = subst (λ o. IfSome o (λ x. HasDigests x p.digests.items)) told has in
      let u = update_of e list d b p from base project digests names funcs in
      record {
        funcs = p.digests.items;
        roots = p.roots.items;
        found = record { functions = p.typed; says = project; names = names; digests = digests };
        base = b;
        is = base;
        asks = looks_before IsProjectFile (MayAskIn u r.ran.items) asked begun asked_now (λ q own. project_file own) first
            (asks.once d (same ∙ told) none u (is_update e list d b p from base project digests names funcs mid (same ∙ told)));
      };
}

pub from_asking : (b : Base) (p : Project) (list : List (List ℕ)) (before mid : Option Directory) (asked begun asked_now : Option (List Call))
    (result : Result Report BuildError) → mid ≡ before → IfSome before (λ d. ProjectSays d (Ok (front_of p)))
    → IfSome before (λ d. HasDigests d p.digests.items) → HasNames p.typed p.digests.items → AreFuncs p.digests.items → AsksFor IsProjectFile asked begun
    → IfOk result (AsksUnlessAfresh b p list mid begun asked_now) → IfOk result (FromAsking b list before asked asked_now)
from_asking b p list before mid asked begun asked_now (Ok r) same says has names funcs first asks =
    from_asks b p list before mid asked begun asked_now r same says has names funcs first asks
from_asking b p list before mid asked begun asked_now (Err e) same says has names funcs first asks = tt

-- ---- the whole build

pub asks_from : (list : List (List ℕ)) (start : Start) (b : Box Base Global) (before mid : Option Directory) (asked begun asked_now : Option (List Call))
    (result : Result Report BuildError) → start ≡ From b → IfSome before (λ d. StartsFrom d start) → mid ≡ before → AsksFor IsProjectFile asked begun
    → IfOk result (FromAsking b.value list mid begun asked_now) → IfSome before (λ d. IfOk result (λ r. AsksRight list d r asked asked_now))
asks_from list start b before mid asked begun asked_now (Err e) is begins same first h = if_always before (tt {0})
asks_from list start b before mid asked begun asked_now (Ok r) is begins same first h = by before same begins
  where
    by : (o : Option Directory) → mid ≡ o → IfSome o (λ d. StartsFrom d start) → IfSome o (λ d. AsksRight list d r asked asked_now)
    by None told starts = tt
    by (Some d) told starts = λ none e from.
        let may = h.of d told (subst (StartsFrom d) is starts) none e from in
        record {
          funcs = may.funcs;
          roots = may.roots;
          found = may.found;
          base = may.base;
          is = may.is;
          asks = looks_before IsProjectFile _ asked begun asked_now (λ q own. project_file own) first may.asks;
        }

pub asks_afresh : (list : List (List ℕ)) (before : Option Directory) (asked asked_now : Option (List Call)) (result : Result Report BuildError) (cause : Cause)
    → IfOk result (λ r. r.fresh ≡ Some cause) → IfSome before (λ d. IfOk result (λ r. AsksRight list d r asked asked_now))
asks_afresh list before asked asked_now (Ok r) cause why = by before
  where
    by : (o : Option Directory) → IfSome o (λ d. AsksRight list d r asked asked_now)
    by None = tt
    by (Some d) = λ none e from. absurd (caused_not cause r.fresh why none)
asks_afresh list before asked asked_now (Err e) cause why = if_always before (tt {0})
