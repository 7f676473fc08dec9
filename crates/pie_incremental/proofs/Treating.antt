-- What the parts of a build do with names.
use Rattle.std.proofs.Common.{◌≡◌, ℕ, true, false, cond, List, [], ◌∷◌, ◌++◌, Vec, Global, refl, sym, ap, subst, ◌∙◌}
use Rattle.std.specs.Prelude.{All, Box, Option, None, Some, IfSome, IfOk, OnOk, Result, Ok, Err}
use Rattle.std.specs.List.{list_all}
use Rattle.std.specs.Option.{option_map}
use Rattle.std.proofs.lemmas.List.Elements.{All-weaker}
use Rattle.pie_base.specs.Path.{is_out}
use Rattle.pie_build.proofs.OwnPaths.{apart}
use Rattle.pie_build.specs.Left.{Leaves, LeavesBy}
use Rattle.pie_build.specs.inner.Projects.{IsReady}
use Rattle.pie_commit.specs.declared.plan.Plan.{Plan}
use Rattle.pie_commit.specs.inner.Plans.{Same, Gone, Bytes, Meets, later, at, removed, written, pended, stored, changes}
use Rattle.pie_files.proofs.Reading.{if_always, if_each, if_two}
use Rattle.pie_files.specs.Directory.{Directory, file_at}
use Rattle.pie_files.specs.declared.files.FilesError.{FilesError}
use Rattle.pie_fresh.specs.Cleans.{IsRootOf}
use Rattle.pie_parser.specs.FunctionTrees.{FunctionTree}
use Rattle.pie_project.specs.declared.fault.BuildError.{BuildError}
use Rattle.pie_record.specs.declared.task_record.TaskRecord.{TaskRecord}
use Rattle.pie_report.specs.declared.report.Report.{Report}
use Rattle.pie_store.specs.declared.cause.Cause.{Cause}
use Rattle.pie_store.specs.Pending.{in_order}
use Rattle.pie_value.specs.Limits.{is_small_task}
use Rattle.pie_value.specs.declared.task.Task.{Task}
use Rattle.pie_value.specs.declared.verdict.Refusal.{Refusal}
use Rattle.pie_value.specs.declared.verdict.Verdict.{Verdict}
use Rattle.pie_value.specs.declared.verdict.Verdict.TheVariants.{Accepted, Refused}
use Rattle.pie_incremental.specs.declared.base.Base.{Base}
use Rattle.pie_incremental.specs.declared.base.OwnFiles.{OwnFiles}
use Rattle.pie_incremental.specs.declared.base.Start.{Start}
use Rattle.pie_incremental.specs.declared.base.Start.TheVariants.{Afresh, From}
use Rattle.pie_incremental.specs.declared.ending.Ending.{Ending}
use Rattle.pie_incremental.specs.declared.run.Done.{Done}
use Rattle.pie_incremental.specs.declared.run.Done.TheVariants.{Reported, Stopped}
use Rattle.pie_incremental.specs.declared.run.Stop.{Stop}
use Rattle.pie_incremental.specs.Kept.{KeepsNames}
use Rattle.pie_incremental.specs.Own.{pending_path, IsClosed}
use Rattle.pie_incremental.specs.Starts.{IsBase, StartsFrom}
use Rattle.pie_incremental.specs.Treated.{AfreshBy, HasNoNames, NamesBy, TreatsNames}
use Rattle.pie_incremental.specs.inner.Changes.{bytes_of}
use Rattle.pie_incremental.specs.inner.Joined.{Clears, HasOwn, IsAsBefore, IsEndingOf, KeepsAfter, Treats, TreatsIn}
use Rattle.pie_incremental.specs.inner.Plans.{HasChanged, IsChangesPlan}
use Rattle.pie_incremental.proofs.Commits.{met}
use Rattle.pie_incremental.proofs.OwnPaths.{and_left, and_right, places}

-- ---- a plan that changes files under `out/` wants none elsewhere

written_off : (q : List ℕ) (writes : List (List ℕ × Vec ℕ Global)) → is_out q ≡ false → list_all (λ w. is_out w.0) writes ≡ true → written writes q ≡ Same
written_off q [] off on = refl
written_off q (w ∷ ws) off on =
    ap (λ x. later x (at w.0 (Bytes w.1.items) q)) (written_off q ws off (and_right (is_out w.0) (list_all (λ w. is_out w.0) ws) on))
    ∙ ap (λ b. later Same (cond b (Bytes w.1.items) Same)) (apart is_out q w.0 off (and_left (is_out w.0) (list_all (λ w. is_out w.0) ws) on))

removed_off : (q : List ℕ) (paths : List (List ℕ)) → is_out q ≡ false → list_all is_out paths ≡ true → removed paths q ≡ Same
removed_off q [] off on = refl
removed_off q (path ∷ paths) off on =
    ap (λ x. later x (at path Gone q)) (removed_off q paths off (and_right (is_out path) (list_all is_out paths) on))
    ∙ ap (λ b. later Same (cond b Gone Same)) (apart is_out q path off (and_left (is_out path) (list_all is_out paths) on))

module _ (own : OwnFiles) (held : List (List ℕ × List ℕ)) (rows : List TaskRecord) (contents : List (List ℕ × Vec ℕ Global)) (text : Vec ℕ Global) (p : Plan)
    (plan : IsChangesPlan own held rows contents text p) where
  files_off : later (written p.writes.items pending_path) (removed p.removals.items pending_path) ≡ Same
  files_off =
      ap (λ x. later x (removed p.removals.items pending_path)) (written_off pending_path p.writes.items refl plan.writes_out)
      ∙ removed_off pending_path p.removals.items refl plan.removals_out

  names_wanted : changes p pending_path ≡ later (pended p.pending) Same
  names_wanted =
      let own_places = places p plan.places in
      let files = later (written p.writes.items pending_path) (removed p.removals.items pending_path) in
      ap (λ m. later (at m (stored p.store) pending_path) (later (at p.names_place (pended p.pending) pending_path) files)) own_places.store
      ∙ ap (λ m. later (at m (pended p.pending) pending_path) files) own_places.names
      ∙ ap (λ x. later (pended p.pending) x) files_off

  -- no names are pending after the plan of an accepted build
  pub clears : Clears own p
  clears d after is h = record {
    left = h.left;
    told = h.told;
    no_names = met (bytes_of own.pending) None p.pending (file_at d pending_path) (file_at h.left pending_path) plan.pending is.pending
        (subst (λ w. Meets w (file_at d pending_path) (file_at h.left pending_path)) names_wanted (h.changed pending_path refl));
    closed = h.closed;
  }

-- ---- a build from earlier records

module _ (own : OwnFiles) (names : List (List ℕ)) (before after : Option Directory) where
  pub accepted_treats : (p : Plan) (v : Verdict) → Clears own p → v ≡ Accepted → IfSome before (λ d. IsClosed d → HasChanged p d after)
      → Treats own names v before after
  accepted_treats p v clear is h =
      let t : Treats own names Accepted before after = record {
        each = if_each (λ d. IsClosed d → HasChanged p d after) (λ d. HasOwn d own → HasNoNames after) before (λ d g has. clear d after has (g has.closed)) h;
      } in
      subst (λ (w : Verdict). Treats own names w before after) (sym is) t

  pub refused_treats : (v : Verdict) (x : Refusal) → v ≡ Refused x → IfSome before (λ d. HasOwn d own → KeepsNames names d after)
      → Treats own names v before after
  refused_treats v x is h =
      let t : Treats own names (Refused x) before after = record { each = h } in
      subst (λ (w : Verdict). Treats own names w before after) (sym is) t

-- one whose report was made before its commit
pub accepted_done : (own : OwnFiles) (names : List (List ℕ)) (p : Plan) (report : Box Report Global) (before after : Option Directory)
    (result : Result (Box Report Global) FilesError) → Clears own p → report.value.verdict ≡ Accepted → IfOk result (λ r. r ≡ report)
    → IfSome before (λ d. IsClosed d → OnOk result (HasChanged p d after)) → IfOk result (λ r. Treats own names r.value.verdict before after)
accepted_done own names p report before after (Err e) clear is same h = tt
accepted_done own names p report before after (Ok r) clear is same h =
    accepted_treats own names before after p r.value.verdict clear (ap (λ (x : Box Report Global). x.value.verdict) same ∙ is) h

-- one after a part that changes nothing
pub treats_then : (own : OwnFiles) (names : List (List ℕ)) (v : Verdict) (before mid after : Option Directory) → mid ≡ before
    → Treats own names v mid after → Treats own names v before after
treats_then own names v before mid after same h = subst (λ m. Treats own names v m after) same h

-- one with what its end needs
pub treats_begun : (b : Base) (list : List (List ℕ)) (e : Ending) (before mid after : Option Directory) (done : Done) → IsEndingOf b list e → mid ≡ before
    → TreatsIn e.own e.names.items mid after done → TreatsIn b.own (in_order (list ++ b.names.items)) before after done
treats_begun b list e before mid after done is same h =
    let names = in_order (list ++ b.names.items) in
    subst (λ m. TreatsIn b.own names m after done) same
    (subst (λ o. TreatsIn o names mid after done) is.own (subst (λ (ns : List (List ℕ)). TreatsIn e.own ns mid after done) is.names h))

-- one that had to start afresh
pub treats_stopped : (own : OwnFiles) (names : List (List ℕ)) (e : Ending) (v : Verdict) (before mid after : Option Directory)
    → (e.own ≡ own) × (e.names.items ≡ names) → mid ≡ before → Treats e.own e.names.items v mid after → Treats own names v before after
treats_stopped own names e v before mid after is same h =
    treats_then own names v before mid after same
    (subst (λ o. Treats o names v mid after) is.0 (subst (λ (ns : List (List ℕ)). Treats e.own ns v mid after) is.1 h))

-- ---- a clean build

cleared : (fs : List FunctionTree) (funcs : List (List ℕ × List ℕ)) (roots : List Task) (d : Directory) (r : Report) (after : Option Directory)
    → LeavesBy fs funcs roots Accepted d r after → HasNoNames after
cleared fs funcs roots d r after built = record {
  left = built.left;
  told = built.told;
  no_names = ap (option_map (λ f. f.0)) built.place.no_pending;
  closed = ap (option_map (λ f. f.0)) built.place.no_marker;
}

afresh_by : (fs : List FunctionTree) (funcs : List (List ℕ × List ℕ)) (roots : List Task) (v : Verdict) (d : Directory) (r : Report) (after : Option Directory)
    → LeavesBy fs funcs roots v d r after → AfreshBy v d after
afresh_by fs funcs roots Accepted d r after built = cleared fs funcs roots d r after built
afresh_by fs funcs roots (Refused x) d r after all = all.same

-- what it does with names, by its report with the cause
pub afresh_leaves : (before after : Option Directory) (r q : Report) (cause : Option Cause) → q ≡ record r { fresh = cause }
    → IfSome before (λ d. Leaves d r after) → IfSome before (λ d. AfreshBy q.verdict d after)
afresh_leaves before after r q cause is h =
    subst (λ (x : Report). IfSome before (λ d. AfreshBy x.verdict d after)) (sym is)
    (if_each (λ d. Leaves d r after) (λ d. AfreshBy r.verdict d after) before
    (λ d left. afresh_by left.2.functions left.0 left.1 r.verdict d r after left.3.1) h)

keeps_by : (own : OwnFiles) (names : List (List ℕ)) (fs : List FunctionTree) (funcs : List (List ℕ × List ℕ)) (roots : List Task) (v : Verdict) (d : Directory)
    (r : Report) (mid after : Option Directory) → LeavesBy fs funcs roots v d r mid → KeepsAfter v own names mid after → HasOwn d own → NamesBy v names d after
keeps_by own names fs funcs roots Accepted d r mid after built same has =
    subst HasNoNames (sym same) (cleared fs funcs roots d r mid built)
keeps_by own names fs funcs roots (Refused x) d r mid after all keeps has =
    (subst (λ m. IfSome m (λ e. HasOwn e own → KeepsNames names e after)) all.same keeps) has

-- one after which names are kept where it refused
pub again_treats : (own : OwnFiles) (names : List (List ℕ)) (r : Report) (v : Verdict) (before mid after : Option Directory) → v ≡ r.verdict
    → IfSome before (λ d. Leaves d r mid) → KeepsAfter r.verdict own names mid after → Treats own names v before after
again_treats own names r v before mid after is h keeps =
    let t : Treats own names r.verdict before after = record {
      each = if_each (λ d. Leaves d r mid) (λ d. HasOwn d own → NamesBy r.verdict names d after) before
          (λ d left has. keeps_by own names left.2.functions left.0 left.1 r.verdict d r mid after left.3.1 keeps has) h;
    } in
    subst (λ (w : Verdict). Treats own names w before after) (sym is) t

pub again_done : (own : OwnFiles) (names : List (List ℕ)) (report : Report) (before mid after : Option Directory) (result : Result Report BuildError)
    → IfSome before (λ d. Leaves d report mid) → IfOk result (λ r. KeepsAfter report.verdict own names mid after) → IfOk result (λ r. r.verdict ≡ report.verdict)
    → IfOk result (λ r. Treats own names r.verdict before after)
again_done own names report before mid after (Err e) h keeps is = tt
again_done own names report before mid after (Ok r) h keeps is = again_treats own names report r.verdict before mid after is h keeps

-- roots of a project that is observable are within the limits of values
pub large_treats : (own : OwnFiles) (names : List (List ℕ)) (fs : List FunctionTree) (roots : List Task) (before after : Option Directory)
    (result : Result Report BuildError) → IfSome before (λ d. IsReady fs roots) → ¬ (All (λ t. is_small_task t ≡ true) roots)
    → IfOk result (λ r. Treats own names r.verdict before after)
large_treats own names fs roots before after (Err e) ready large = tt
large_treats own names fs roots before after (Ok r) ready large = record {
  each = if_each (λ d. IsReady fs roots) (λ d. HasOwn d own → NamesBy r.verdict names d after) before
      (λ d is has. absurd (large (All-weaker (IsRootOf fs) (λ t. is_small_task t ≡ true) (λ t root. root.small) roots is.roots))) ready;
}

-- ---- the whole build

pub afresh_names : (list : List (List ℕ)) (start : Start) (cause : Cause) (before mid after : Option Directory) (result : Result Report BuildError)
    → start ≡ Afresh cause → IfSome before (λ d. StartsFrom d start) → mid ≡ before → IfSome mid (λ d. IfOk result (λ r. AfreshBy r.verdict d after))
    → IfOk result (λ r. r.fresh ≡ Some cause) → IfSome before (λ d. IfOk result (λ r. TreatsNames list d r after))
afresh_names list start cause before mid after (Err e) is begins same h why = if_always before (tt {0})
afresh_names list start cause before mid after (Ok r) is begins same h why =
    if_two (λ d. StartsFrom d start) (λ d. AfreshBy r.verdict d after) (λ d. TreatsNames list d r after) before
    (λ d b by. record { start = Afresh cause; begins = subst (StartsFrom d) is b; names = (why, by) })
    begins (subst (λ m. IfSome m (λ d. AfreshBy r.verdict d after)) same h)

has_own : (d : Directory) (b : Base) → IsBase d b → HasOwn d b.own
has_own d b is = record { closed = is.readable.stored.closed; pending = is.pending }

pub from_names : (list : List (List ℕ)) (start : Start) (b : Box Base Global) (before mid after : Option Directory) (result : Result Report BuildError)
    → start ≡ From b → IfSome before (λ d. StartsFrom d start) → mid ≡ before
    → IfOk result (λ r. Treats b.value.own (in_order (list ++ b.value.names.items)) r.verdict mid after)
    → IfSome before (λ d. IfOk result (λ r. TreatsNames list d r after))
from_names list start b before mid after (Err e) is begins same h = if_always before (tt {0})
from_names list start b before mid after (Ok r) is begins same h =
    let names = in_order (list ++ b.value.names.items) in
    let t : Treats b.value.own names r.verdict before after = treats_then b.value.own names r.verdict before mid after same h in
    if_two (λ d. StartsFrom d start) (λ d. HasOwn d b.value.own → NamesBy r.verdict names d after) (λ d. TreatsNames list d r after) before
    (λ d s by.
    let base : StartsFrom d (From b) = subst (StartsFrom d) is s in
    record { start = From b; begins = base; names = by (has_own d b.value base) }) begins t.each

-- the same of an answer
pub treats_result : (own : OwnFiles) (names : List (List ℕ)) (before mid after : Option Directory) (result : Result Report BuildError) → mid ≡ before
    → IfOk result (λ r. Treats own names r.verdict mid after) → IfOk result (λ r. Treats own names r.verdict before after)
treats_result own names before mid after result same h = subst (λ m. IfOk result (λ r. Treats own names r.verdict m after)) same h

pub treats_reported : (own : OwnFiles) (names : List (List ℕ)) (before after : Option Directory) (done : Done) (report : Box Report Global) (r : Report)
    → done ≡ Reported report → r ≡ report.value → TreatsIn own names before after done → Treats own names r.verdict before after
treats_reported own names before after done report r is same h =
    let t : Treats own names report.value.verdict before after = subst (TreatsIn own names before after) is h in
    subst (λ (x : Report). Treats own names x.verdict before after) (sym same) t

pub treats_again : (own : OwnFiles) (names : List (List ℕ)) (before mid after : Option Directory) (done : Done) (stop : Box Stop Global)
    (result : Result Report BuildError) → done ≡ Stopped stop → TreatsIn own names before mid done → IsAsBefore before mid done
    → IfOk result (λ r. Treats stop.value.ending.value.own stop.value.ending.value.names.items r.verdict mid after)
    → IfOk result (λ r. Treats own names r.verdict before after)
treats_again own names before mid after done stop (Err e) is h still again = tt
treats_again own names before mid after done stop (Ok r) is h still again =
    let kept : TreatsIn own names before mid (Stopped stop) = subst (TreatsIn own names before mid) is h in
    let same : IsAsBefore before mid (Stopped stop) = subst (IsAsBefore before mid) is still in
    treats_stopped own names stop.value.ending.value r.verdict before mid after kept same again
