-- What an accepted build leaves is the directory of a clean build.
use Rattle.std.proofs.Common.{◌≡◌, ◌⊎◌, inl, inr, ⊎_elim, ℕ, List, length, Vec, Global, Option, None, Some, Result, Ok, Err, sym, ap, subst, ◌∙◌}
use Rattle.std.specs.Prelude.{Box, Contains, IfSome, IfOk, OnOk, IsTrue}
use Rattle.std.specs.List.{filter}
use Rattle.std.specs.List.Sorted.{IsStrictlySortedBy}
use Rattle.std.proofs.lemmas.List.Elements.{All-contains}
use Rattle.pie_base.specs.Path.{is_out}
use Rattle.pie_build.specs.Stored.{IsStoreOf}
use Rattle.pie_check_laws.proofs.Members.{into_map}
use Rattle.pie_checks.specs.declared.built.Built.{Built}
use Rattle.pie_commit.specs.declared.plan.Plan.{Plan}
use Rattle.pie_commit.specs.Outcomes.{HasFile, IsDone, LeavesFromRest, LeavesMarked}
use Rattle.pie_diff.specs.Hashes.{files_paths, held_at, is_new}
use Rattle.pie_diff.specs.Known.{known_at}
use Rattle.pie_diff.proofs.Keeping.{order_filter}
use Rattle.pie_files.proofs.Reading.{if_each}
use Rattle.pie_files.specs.Images.{Only}
use Rattle.pie_files.specs.declared.files.FilesError.{FilesError}
use Rattle.pie_files.specs.Directory.{Directory, without_file}
use Rattle.pie_reach.specs.Plan.{path_cmp}
use Rattle.pie_record.specs.declared.task_record.TaskRecord.{TaskRecord}
use Rattle.pie_report.specs.declared.report.Report.{Report}
use Rattle.pie_results.specs.inner.Files.{contents_in, InPathOrder}
use Rattle.pie_store.specs.declared.image.StoreImage.{StoreImage}
use Rattle.pie_value.specs.declared.task.Task.{Task}
use Rattle.pie_value.specs.declared.value.Value.{Value}
use Rattle.pie_value.specs.declared.verdict.Verdict.{Verdict}
use Rattle.pie_value.specs.declared.verdict.Refusal.{Refusal}
use Rattle.pie_value.specs.declared.verdict.Verdict.TheVariants.{Accepted, Refused}
use Rattle.pie_model.specs.Built.{IsBuilt}
use Rattle.pie_core_laws.specs.Update.{Update, present}
use Rattle.pie_left_laws.specs.Accepted.{live_now}
use Rattle.pie_left_laws.specs.Held.{HoldsRightly}
use Rattle.pie_left_laws.specs.Placed.{IsPlaced}
use Rattle.pie_left_laws.proofs.Holding.{holds_rightly}
use Rattle.pie_left_laws.proofs.Provides.{provided_path}
use Rattle.pie_left_laws.proofs.Putting.{is_built}
use Rattle.pie_left_laws.proofs.Changing.{new_other, other_new, removed_stray, stray_removed}
use Rattle.pie_incremental.specs.declared.base.Base.{Base}
use Rattle.pie_incremental.specs.declared.base.OwnFiles.{OwnFiles}
use Rattle.pie_incremental.specs.declared.ending.Ending.{Ending}
use Rattle.pie_incremental.specs.Crashes.{EndsMarked, IsBegun, MarkedBy}
use Rattle.pie_incremental.specs.inner.Built.{AreFilesOf, IsKnown}
use Rattle.pie_incremental.specs.inner.Cleaned.{IsClean, IsExactBuild, KnowsWhere, LeavesCleanOf, LeavesWhere, LeavesBy, MayLeave, MayLeaveBy, HasParts, IsPlanFor, TellsPlan}
use Rattle.pie_incremental.specs.inner.Marked.{EndsAccepted, EndsBy, EndsNames}
use Rattle.pie_incremental.specs.inner.Plans.{IsChangesPlan, MayPlace, Places}
use Rattle.pie_incremental.specs.Kept.{IsOfNames}
use Rattle.pie_incremental.specs.Own.{open_path}
use Rattle.pie_incremental.specs.inner.Changes.{bytes_of}
use Rattle.pie_incremental.proofs.Commits.{leaves_as}
use Rattle.pie_incremental.proofs.OwnPaths.{places}
use Rattle.pie_incremental.proofs.Putting.{all_has}
use Rattle.pie_incremental.proofs.Stopping.{placed}

module _ (own : OwnFiles) (held : List (List ℕ × List ℕ)) (funcs : List (List ℕ × List ℕ)) (roots : List Task) (rows : List TaskRecord)
    (contents : List (List ℕ × Vec ℕ Global)) (outputs : List (Task × Value)) (s : StoreImage) (p : Plan) (r : Report) (order : InPathOrder contents)
    (parts : HasParts funcs roots rows s) (planned : IsPlanFor own held s contents p) (tells : TellsPlan p (length rows) outputs r) where
  -- the files are those of live tasks
  files_of : (u : Update) (d : Directory) → IsExactBuild u own held rows contents d → AreFilesOf rows contents
  files_of u d e = record {
    ordered = order.ascending;
    written = λ f i.
        provided_path (present u) u.roots e.made.accepted rows e.made.rows f.0 f.1.items
        (e.made.only f.0 f.1.items (into_map (λ (x : List ℕ × Vec ℕ Global). (x.0, x.1.items)) contents f i));
    out = λ f i. All-contains (λ (x : List ℕ × Vec ℕ Global). IsTrue (is_out x.0)) contents f order.out i;
  }

  plan : IsChangesPlan own held rows contents planned.text p
  plan = subst (λ (rs : List TaskRecord). IsChangesPlan own held rs contents planned.text p) parts.rows_are planned.plan

  is_store : IsStoreOf funcs roots rows planned.text.items
  is_store = record { image = s; text = planned.says; no_digest = parts.table; funcs = parts.funcs_are; roots = parts.roots_are; rows = parts.rows_are }

  -- over the directory of the update
  cleans : (u : Update) (after : Option Directory) → IsExactBuild u own held rows contents u.directory → Places p u.directory after
      → LeavesCleanOf u funcs roots rows outputs u.directory r after
  cleans u after e placed = record {
    left = put.0;
    told = put.1;
    text = planned.text.items;
    built = is_built u rows (contents_in contents) e.separates e.met e.made planned.text.items put.0 put.2;
    store = is_store;
    live = tells.live_is;
    wrote = λ path. (
      λ i. new_other u rows contents held e.separates e.met e.made e.known.files path (subst (λ ps. Contains ps path) wrote_are i),
      λ o. subst (λ ps. Contains ps path) (sym wrote_are) (other_new u rows contents held e.separates e.met e.made e.known.files path o),
    );
    removed = λ path. (
      λ i. removed_stray u rows (contents_in contents) held p.removals.items path e.made e.known.files plan.removals
          (λ j. all_has is_out path p.removals.items plan.removals_out j) (subst (λ ps. Contains ps path) tells.removed i),
      λ o. subst (λ ps. Contains ps path) (sym tells.removed)
          (stray_removed u rows (contents_in contents) held p.removals.items path e.made e.known.files plan.removals o),
    );
    ordered = (
      subst (IsStrictlySortedBy path_cmp) (sym wrote_are) (order_filter (is_new held) contents order.ascending),
      subst (IsStrictlySortedBy path_cmp) (sym tells.removed) plan.removals.ordered,
    );
    outputs_are = tells.outputs_are;
  }
    where
      put : (left : Directory) × (after ≡ Some left) × IsPlaced rows (contents_in contents) planned.text.items u.directory left
      put = placed own held rows contents planned.text plan e.known (files_of u u.directory e)

      wrote_are : r.wrote.items ≡ files_paths (filter (is_new held) contents)
      wrote_are = tells.wrote ∙ ap files_paths plan.writes

  -- what a crash leaves
  may_leave : (d c : Directory) → MayPlace p d c → MayLeave own held funcs roots rows contents d c
  may_leave d c placed u e = by (placed own held rows contents planned.text plan e.known (files_of u d e))
    where
      done : IsPlaced rows (contents_in contents) planned.text.items d (without_file c open_path) → IsClean u funcs roots rows d (without_file c open_path)
      done placed = record {
        text = planned.text.items;
        built = subst (λ x. IsBuilt planned.text.items x (without_file c open_path) (live_now u)) e.directory
            (is_built u rows (contents_in contents) e.separates e.met e.made planned.text.items (without_file c open_path)
            (subst (λ x. IsPlaced rows (contents_in contents) planned.text.items x (without_file c open_path)) (sym e.directory) placed));
        store = is_store;
      }

      by : IsBegun d c ⊎ ((c ≡ d) ⊎ IsPlaced rows (contents_in contents) planned.text.items d (without_file c open_path))
          → IsBegun d c ⊎ ((c ≡ d) ⊎ IsClean u funcs roots rows d (without_file c open_path))
      by (inl begun) = inl begun
      by (inr (inl same)) = inr (inl same)
      by (inr (inr placed)) = inr (inr (done placed))

  pub leaves_crash : {S : Type 0} (holds : S → Option Directory) (moment : S → ℕ) (left_since : S → ℕ → Directory → Type 0) (images : S → Directory → Type 0)
      (old new : S) → LeavesFromRest holds moment left_since images (MayPlace p) old new
      → LeavesFromRest holds moment left_since images (MayLeave own held funcs roots rows contents) old new
  leaves_crash holds moment left_since images old new h =
      leaves_as holds moment left_since images (MayPlace p) (MayLeave own held funcs roots rows contents) may_leave old new h

  -- where the plan is done, the directory is that of the clean build
  ends_accepted : (d c : Directory) → IsDone p d c → EndsAccepted own held funcs roots rows contents d c
  ends_accepted d c done u e = record {
    text = planned.text.items;
    built = subst (λ x. IsBuilt planned.text.items x (without_file c open_path) (live_now u)) e.directory
        (is_built u rows (contents_in contents) e.separates e.met e.made planned.text.items (without_file c open_path)
        (subst (λ x. IsPlaced rows (contents_in contents) planned.text.items x (without_file c open_path)) (sym e.directory)
        (placed own held rows contents planned.text p plan d e.known (files_of u d e) c done)));
    store = is_store;
  }

  accepted_marked : (d : Directory) (images : Directory → Type 0) → LeavesMarked p d images
      → MarkedBy (EndsAccepted own held funcs roots rows contents) d images
  accepted_marked d images leaves =
      ⊎_elim (λ each. inl (λ c is. ⊎_elim (λ file. inl (subst (HasFile c) (places p plan.places).marker file)) (λ same. inr same) (each c is)))
      (λ all. inr (λ c is. ends_accepted d c (all c is))) leaves

  -- what every image has at the end
  pub leaves_marked : {S : Type 0} (holds : S → Option Directory) (images : S → Directory → Type 0) (old new : S)
      → IfSome (holds old) (λ d. Only d (images old) → LeavesMarked p d (images new))
      → EndsMarked holds images (EndsAccepted own held funcs roots rows contents) old new
  leaves_marked holds images old new h = if_each
      (λ d. Only d (images old) → LeavesMarked p d (images new))
      (λ d. Only d (images old) → MarkedBy (EndsAccepted own held funcs roots rows contents) d (images new)) (holds old)
      (λ d leaves only. accepted_marked d (images new) (leaves only)) h

  leaves : (d : Directory) (after : Option Directory) → Places p d after → LeavesWhere own held funcs roots rows contents outputs d r after
  leaves d after placed u e =
      subst (λ x. LeavesCleanOf u funcs roots rows outputs x r after) e.directory
      (cleans u after (subst (λ x. IsExactBuild u own held rows contents x) (sym e.directory) e) (subst (λ x. Places p x after) (sym e.directory) placed))

  pub leaves_by : (before after : Option Directory) (b : Box Report Global) (result : Result (Box Report Global) FilesError) → b.value ≡ r
      → IfOk result (λ x. x ≡ b) → IfSome before (λ d. OnOk result (Places p d after))
      → IfSome before (λ d. IfOk result (λ x. LeavesWhere own held funcs roots rows contents outputs d x.value after))
  leaves_by None after b result is same placed = tt
  leaves_by (Some d) after b (Ok x) is same placed =
      subst (λ (y : Report). LeavesWhere own held funcs roots rows contents outputs d y after) (sym (ap (λ (z : Box Report Global). z.value) same ∙ is))
      (leaves d after placed)
  leaves_by (Some d) after b (Err e) is same placed = tt

-- by the verdict of what was made
pub left_accepted : (own : OwnFiles) (held funcs : List (List ℕ × List ℕ)) (roots : List Task) (b : Built) (before after : Option Directory)
    (result : Result (Box Report Global) FilesError) → b.verdict ≡ Accepted
    → IfSome before (λ d. IfOk result (λ r. LeavesWhere own held funcs roots b.rows.items b.files.items b.outputs.items d r.value after))
    → IfSome before (λ d. IfOk result (λ r. LeavesBy b.verdict own held funcs roots b d r.value after))
left_accepted own held funcs roots b before after result is h =
    subst (λ (v : Verdict). IfSome before (λ d. IfOk result (λ r. LeavesBy v own held funcs roots b d r.value after))) (sym is) h

module _ {S : Type 0} (holds : S → Option Directory) (moment : S → ℕ) (left_since : S → ℕ → Directory → Type 0) (images : S → Directory → Type 0)
    (old new : S) (own : OwnFiles) (held funcs : List (List ℕ × List ℕ)) (roots : List Task) (b : Built) (names : List (List ℕ)) where
  abbrev Crashes : (Directory → Directory → Type 0) → Type 0
  Crashes P = LeavesFromRest holds moment left_since images P old new

  pub crash_accepted : b.verdict ≡ Accepted → Crashes (MayLeave own held funcs roots b.rows.items b.files.items)
      → Crashes (MayLeaveBy b.verdict own held funcs roots b names)
  crash_accepted is h = subst (λ (v : Verdict). Crashes (MayLeaveBy v own held funcs roots b names)) (sym is) h

  pub crash_refused : (x : Refusal) → b.verdict ≡ Refused x → Crashes (IsOfNames names (bytes_of own.pending))
      → Crashes (MayLeaveBy b.verdict own held funcs roots b names)
  crash_refused x is h = subst (λ (v : Verdict). Crashes (MayLeaveBy v own held funcs roots b names)) (sym is) h

  pub marked_accepted : b.verdict ≡ Accepted → EndsMarked holds images (EndsAccepted own held funcs roots b.rows.items b.files.items) old new
      → EndsMarked holds images (EndsBy b.verdict own held funcs roots b names) old new
  marked_accepted is h = subst (λ (v : Verdict). EndsMarked holds images (EndsBy v own held funcs roots b names) old new) (sym is) h

  pub marked_refused : (x : Refusal) → b.verdict ≡ Refused x → EndsMarked holds images (EndsNames names (bytes_of own.pending)) old new
      → EndsMarked holds images (EndsBy b.verdict own held funcs roots b names) old new
  marked_refused x is h = subst (λ (v : Verdict). EndsMarked holds images (EndsBy v own held funcs roots b names) old new) (sym is) h

-- ---- what is known at the beginning

knows : (d : Directory) (b : Base) (e : Ending) → e.own ≡ b.own
    → ((q : List ℕ) → held_at e.held q ≡ known_at d b.image.rows e.names.items q) → KnowsWhere b d e
knows d b e own known u is at names stored base =
    subst (λ (x : OwnFiles). IsKnown x e.held d) (sym own) (record {
      closed = base.readable.stored.closed;
      store = base.readable.stored.text_is;
      pending = base.pending;
      files = subst (HoldsRightly e.held) at (holds_rightly u b.image.rows e.held is stored
          (λ q. known q ∙ ap (λ x. known_at x b.image.rows e.names.items q) (sym at) ∙ ap (λ ns. known_at u.directory b.image.rows ns q) (sym names)));
    })

pub begun_knows : (before : Option Directory) (b : Base) (rows : List TaskRecord) (ns : List (List ℕ)) (held : List (List ℕ × List ℕ)) (e : Ending)
    → e.own ≡ b.own → rows ≡ b.image.rows → ns ≡ e.names.items → held ≡ e.held
    → IfSome before (λ d. (q : List ℕ) → held_at held q ≡ known_at d rows ns q) → IfSome before (λ d. KnowsWhere b d e)
begun_knows before b rows ns held e own kept named holds = if_each
    (λ d. (q : List ℕ) → held_at held q ≡ known_at d rows ns q) (λ d. KnowsWhere b d e) before
    (λ d known. knows d b e own (λ q.
    ap (λ h. held_at h q) (sym holds) ∙ known q ∙ ap (λ (rs : List TaskRecord). known_at d rs ns q) kept ∙ ap (λ ms. known_at d b.image.rows ms q) named))
