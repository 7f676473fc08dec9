-- What an accepted build without a list leaves is the directory of a clean build.
use Rattle.std.proofs.Common.{◌≡◌, ◌⊎◌, inl, inr, ℕ, List, [], length, Vec, Global, Option, None, Some, Result, Ok, Err, sym, ap, subst, ◌∙◌, refl}
use Rattle.std.specs.Prelude.{Box, Contains, IfNone, IfSome, IfOk, OnOk, IsTrue}
use Rattle.std.specs.List.{filter}
use Rattle.std.specs.Option.{option_map}
use Rattle.std.specs.List.Sorted.{IsStrictlySortedBy}
use Rattle.std.proofs.lemmas.List.Elements.{All-contains}
use Rattle.pie_base.specs.Path.{is_out, same_text}
use Rattle.pie_build.specs.Stored.{IsStoreOf}
use Rattle.pie_check_laws.proofs.Members.{into_map}
use Rattle.pie_checks.specs.declared.built.Built.{Built}
use Rattle.pie_commit.proofs.Bringing.{get_without}
use Rattle.pie_commit.proofs.Standing.{removal_apart}
use Rattle.pie_commit.specs.declared.plan.Plan.{Plan}
use Rattle.pie_commit.specs.inner.Plans.{Meets, changes}
use Rattle.pie_commit.specs.Outcomes.{IsDone}
use Rattle.pie_core_laws.specs.Update.{Update, present}
use Rattle.pie_diff.specs.Hashes.{files_paths, is_new}
use Rattle.pie_diff.proofs.Keeping.{order_filter}
use Rattle.pie_files.specs.declared.files.FilesError.{FilesError}
use Rattle.pie_files.proofs.Reading.{if_always}
use Rattle.pie_files.specs.Directory.{Directory, file_at, without_file}
use Rattle.pie_incremental.specs.declared.base.OwnFiles.{OwnFiles}
use Rattle.pie_incremental.specs.Own.{IsClosed, open_path}
use Rattle.pie_incremental.specs.Starts.{HasStore}
use Rattle.pie_files.specs.Reading.{LeavesAsBefore}
use Rattle.pie_incremental.specs.inner.Built.{AreFilesOf}
use Rattle.pie_incremental.specs.inner.Cleaned.{IsClean, LeavesCleanOf, HasParts, IsPlanFor, TellsPlan}
use Rattle.pie_incremental.specs.inner.Plans.{HasChanged, IsChangesPlan}
use Rattle.pie_incremental.proofs.Commits.{changes_wanted}
use Rattle.pie_incremental.proofs.OwnPaths.{places}
use Rattle.pie_incremental.proofs.Putting.{all_has}
use Rattle.pie_left_laws.specs.Held.{HoldsRightly}
use Rattle.pie_left_laws.specs.Accepted.{live_now}
use Rattle.pie_left_laws.specs.Placed.{IsPlaced}
use Rattle.pie_left_laws.proofs.Provides.{one_some, provided_path}
use Rattle.pie_left_laws.proofs.Putting.{is_built}
use Rattle.pie_model.specs.Built.{IsBuilt}
use Rattle.pie_left_laws.proofs.Changing.{new_other, other_new, removed_stray, stray_removed}
use Rattle.pie_reach.specs.Plan.{path_cmp}
use Rattle.pie_record.specs.declared.task_record.TaskRecord.{TaskRecord}
use Rattle.pie_report.specs.declared.report.Report.{Report}
use Rattle.pie_results.specs.inner.Files.{contents_in, InPathOrder}
use Rattle.pie_store.specs.declared.image.StoreImage.{StoreImage}
use Rattle.pie_value.specs.declared.task.Task.{Task}
use Rattle.pie_value.specs.declared.value.Value.{Value}
use Rattle.pie_value.specs.declared.verdict.Verdict.{Verdict}
use Rattle.pie_value.specs.declared.verdict.Verdict.TheVariants.{Accepted}
use Rattle.pie_topdown_build.specs.inner.Anew.{IsKnownBeside}
use Rattle.pie_topdown_build.specs.inner.Cleaned.{HoldsBy, IsExactBuild, IsKnownOf, IsOwnOf, LeavesBy, LeavesWhere, PutsAnew, PutsWhere, IsStoreIfAny}
use Rattle.pie_topdown_build.specs.inner.Crashes.{Endures, EndsBy, EndsPut, EndsWhere}
use Rattle.pie_topdown_build.proofs.Crashing.{endures_then}
use Rattle.pie_topdown_build.proofs.Placing.{puts}

module _ (own : OwnFiles) (held : List (List ℕ × List ℕ)) (funcs : List (List ℕ × List ℕ)) (roots : List Task) (rows : List TaskRecord)
    (contents : List (List ℕ × Vec ℕ Global)) (outputs : List (Task × Value)) (s : StoreImage) (p : Plan) (r : Report) (order : InPathOrder contents)
    (parts : HasParts funcs roots rows s) (planned : IsPlanFor own held s contents p) (tells : TellsPlan p (length rows) outputs r) where
  -- the files are those of live tasks
  pub files_of : (u : Update) (d : Directory) → IsExactBuild u rows contents d → AreFilesOf rows contents
  files_of u d e = record {
    ordered = order.ascending;
    written = λ f i.
        provided_path (present u) u.roots e.made.accepted rows e.made.rows f.0 f.1.items
        (e.made.only f.0 f.1.items (into_map (λ (x : List ℕ × Vec ℕ Global). (x.0, x.1.items)) contents f i));
    out = λ f i. All-contains (λ (x : List ℕ × Vec ℕ Global). IsTrue (is_out x.0)) contents f order.out i;
  }

  plan : IsChangesPlan own held rows contents planned.text p
  plan = subst (λ (rs : List TaskRecord). IsChangesPlan own held rs contents planned.text p) parts.rows_are planned.plan

  is_store : IsStoreOf funcs roots rows planned.text.items
  is_store = record { image = s; text = planned.says; no_digest = parts.table; funcs = parts.funcs_are; roots = parts.roots_are; rows = parts.rows_are }

  -- over the directory of the update
  cleans : (u : Update) (after : Option Directory) → IsExactBuild u rows contents u.directory → IsKnownOf own held u.directory
      → (IsClosed u.directory → HasChanged p u.directory after) → LeavesCleanOf u funcs roots rows outputs u.directory r after
  cleans u after e known changed = record {
    left = put.0;
    told = put.1;
    text = planned.text.items;
    built = is_built u rows (contents_in contents) e.separates e.met e.made planned.text.items put.0 put.2;
    store = is_store;
    live = tells.live_is;
    wrote = λ path. (
      λ i. new_other u rows contents held e.separates e.met e.made known.files path (subst (λ ps. Contains ps path) wrote_are i),
      λ o. subst (λ ps. Contains ps path) (sym wrote_are) (other_new u rows contents held e.separates e.met e.made known.files path o),
    );
    removed = λ path. (
      λ i. removed_stray u rows (contents_in contents) held p.removals.items path e.made known.files plan.removals
          (λ j. all_has is_out path p.removals.items plan.removals_out j) (subst (λ ps. Contains ps path) tells.removed i),
      λ o. subst (λ ps. Contains ps path) (sym tells.removed)
          (stray_removed u rows (contents_in contents) held p.removals.items path e.made known.files plan.removals o),
    );
    ordered = (
      subst (IsStrictlySortedBy path_cmp) (sym wrote_are) (order_filter (is_new held) contents order.ascending),
      subst (IsStrictlySortedBy path_cmp) (sym tells.removed) plan.removals.ordered,
    );
    outputs_are = tells.outputs_are;
  }
    where
      put : (left : Directory) × (after ≡ Some left) × IsPlaced rows (contents_in contents) planned.text.items u.directory left
      put = puts own held rows contents planned.text p plan u.directory known (files_of u u.directory e) after changed

      wrote_are : r.wrote.items ≡ files_paths (filter (is_new held) contents)
      wrote_are = tells.wrote ∙ ap files_paths plan.writes

  -- what a crash leaves where the plan is done, without the marker
  pub changed_of : (d c : Directory) → IsDone p d c → HasChanged p d (Some (without_file c open_path))
  changed_of d c done = record {
    left = without_file c open_path;
    told = refl;
    closed = ap (option_map (λ f. f.0)) (get_without c open_path open_path);
    changed = λ q off. subst (λ o. Meets (changes p q) (file_at d q) o) (sym (removal_apart c open_path q off))
        (subst (λ w. Meets w (file_at d q) (file_at c q)) (changes_wanted p plan.places q off)
        (done q (ap (same_text q) (places p plan.places).marker ∙ off)));
  }

  -- what was placed is that of the clean build
  pub placed_clean : (u : Update) (d x : Directory) → IsExactBuild u rows contents d
      → (left : Directory) × (Some x ≡ Some left) × IsPlaced rows (contents_in contents) planned.text.items d left → IsClean u funcs roots rows d x
  placed_clean u d x e put = record {
    text = planned.text.items;
    built = subst (λ y. IsBuilt planned.text.items y x (live_now u)) e.directory
        (is_built u rows (contents_in contents) e.separates e.met e.made planned.text.items x
        (subst (λ y. IsPlaced rows (contents_in contents) planned.text.items y x) (sym e.directory)
        (subst (λ y. IsPlaced rows (contents_in contents) planned.text.items d y) (sym (one_some x put.0 put.1)) put.2)));
    store = is_store;
  }

  pub done_clean : (u : Update) (d c : Directory) → IsDone p d c → IsKnownOf own held d → IsExactBuild u rows contents d
      → IsClean u funcs roots rows d (without_file c open_path)
  done_clean u d c done known e =
      placed_clean u d (without_file c open_path) e
      (puts own held rows contents planned.text p plan d known (files_of u d e) (Some (without_file c open_path)) (λ closed. changed_of d c done))

  leaves : (d : Directory) (after : Option Directory) → (IsClosed d → HasChanged p d after)
      → PutsWhere own held funcs roots rows contents outputs d r after
  leaves d after changed known u e =
      subst (λ x. LeavesCleanOf u funcs roots rows outputs x r after) e.directory
      (cleans u after (subst (λ x. IsExactBuild u rows contents x) (sym e.directory) e) (subst (λ x. IsKnownOf own held x) (sym e.directory) known)
      (subst (λ x. IsClosed x → HasChanged p x after) (sym e.directory) changed))

  pub leaves_by : (before after : Option Directory) (b : Box Report Global) (result : Result (Box Report Global) FilesError) → b.value ≡ r
      → IfOk result (λ x. x ≡ b) → IfSome before (λ d. IsClosed d → OnOk result (HasChanged p d after))
      → IfSome before (λ d. IfOk result (λ x. PutsWhere own held funcs roots rows contents outputs d x.value after))
  leaves_by None after b result is same changed = tt
  leaves_by (Some d) after b (Ok x) is same changed =
      subst (λ (y : Report). PutsWhere own held funcs roots rows contents outputs d y after) (sym (ap (λ (z : Box Report Global). z.value) same ∙ is))
      (leaves d after changed)
  leaves_by (Some d) after b (Err e) is same changed = tt

-- ---- with what was looked at before

module _ (store : Option (Vec ℕ Global)) (own : OwnFiles) (held : List (List ℕ × List ℕ)) (funcs : List (List ℕ × List ℕ)) (roots : List Task)
    (rows : List TaskRecord) (contents : List (List ℕ × Vec ℕ Global)) (outputs : List (Task × Value)) where
  known_of : (text : Vec ℕ Global) (d : Directory) → HoldsRightly held d → IsOwnOf (Some text) d own → HasStore d text.items → IsKnownOf own held d
  known_of text d holds is stored = record {
    stored = record { closed = stored.closed; text_is = stored.text_is ∙ ap (λ (v : Vec ℕ Global). Some v.items) (sym is.store_is) };
    pending = is.pending;
    files = holds;
  }

  known_in : (o : Option (Vec ℕ Global)) (d : Directory) → HoldsBy o contents held d → IsOwnOf o d own → IfNone o (own.store.items ≡ []) → IsStoreIfAny o d
      → IsKnownOf own held d ⊎ IsKnownBeside own contents held d
  known_in None d holds is empty stored = inr (record { store = empty; pending = is.pending; files = holds })
  known_in (Some text) d holds is empty stored = inl (known_of text d holds is stored)

  leaves_where : (o : Option (Vec ℕ Global)) (d : Directory) (r : Report) (after : Option Directory) → HoldsBy o contents held d → IsOwnOf o d own
      → IfNone o (own.store.items ≡ []) → PutsWhere own held funcs roots rows contents outputs d r after
      → PutsAnew own held funcs roots rows contents outputs d r after → LeavesWhere o funcs roots rows contents outputs d r after
  leaves_where None d r after holds is empty put anew = anew (record { store = empty; pending = is.pending; files = holds })
  leaves_where (Some text) d r after holds is empty put anew = λ u e stored. put (known_of text d holds is stored) u e

  pub looked_leaves : (before mid last after : Option Directory) (result : Result (Box Report Global) FilesError) → mid ≡ before → last ≡ mid
      → IfSome before (HoldsBy store contents held) → IfSome mid (λ d. IsOwnOf store d own) → IfNone store (own.store.items ≡ [])
      → IfSome last (λ d. IfOk result (λ r. PutsWhere own held funcs roots rows contents outputs d r.value after))
      → IfSome last (λ d. IfOk result (λ r. PutsAnew own held funcs roots rows contents outputs d r.value after))
      → IfSome before (λ d. IfOk result (λ r. LeavesWhere store funcs roots rows contents outputs d r.value after))
  looked_leaves before mid last after (Err x) same again holds is empty put anew = if_always before (tt {0})
  looked_leaves before mid last after (Ok r) same again holds is empty put anew =
      by before holds (subst (λ o. IfSome o (λ d. IsOwnOf store d own)) same is)
      (subst (λ o. IfSome o (λ d. PutsWhere own held funcs roots rows contents outputs d r.value after)) (again ∙ same) put)
      (subst (λ o. IfSome o (λ d. PutsAnew own held funcs roots rows contents outputs d r.value after)) (again ∙ same) anew)
    where
      by : (o : Option Directory) → IfSome o (HoldsBy store contents held) → IfSome o (λ d. IsOwnOf store d own)
          → IfSome o (λ d. PutsWhere own held funcs roots rows contents outputs d r.value after)
          → IfSome o (λ d. PutsAnew own held funcs roots rows contents outputs d r.value after)
          → IfSome o (λ d. LeavesWhere store funcs roots rows contents outputs d r.value after)
      by None a b c e = tt
      by (Some d) a b c e = leaves_where store d r.value after a b empty c e

  -- what a crash leaves, after what was looked at
  pub looked_endures : {S : Type 0} (holds : S → Option Directory) (moment : S → ℕ) (left_since : S → ℕ → Directory → Type 0)
      (images : S → Directory → Type 0) (settled : Type 0) (old mid last new : S) → holds mid ≡ holds old → LeavesAsBefore holds moment left_since images old mid
      → holds last ≡ holds mid → LeavesAsBefore holds moment left_since images mid last → IfSome (holds old) (HoldsBy store contents held)
      → IfSome (holds mid) (λ d. IsOwnOf store d own) → IfNone store (own.store.items ≡ [])
      → Endures holds moment left_since images (EndsPut own held funcs roots rows contents) settled last new
      → Endures holds moment left_since images (EndsWhere store funcs roots rows contents) settled old new
  looked_endures holds moment left_since images settled old mid last new same before again between known is empty h =
      endures_then holds moment left_since images (EndsPut own held funcs roots rows contents) (EndsWhere store funcs roots rows contents) settled old mid new
      same before
      (λ d c told put. record {
        rest = put.rest;
        clean = λ u e stored. put.clean (known_in store d (subst (λ o. IfSome o (HoldsBy store contents held)) told known)
            (subst (λ o. IfSome o (λ x. IsOwnOf store x own)) (same ∙ told) is) empty stored) u e;
      })
      (endures_then holds moment left_since images (EndsPut own held funcs roots rows contents) (EndsPut own held funcs roots rows contents) settled mid last new
      again between (λ d c told put. put) h)

-- by the verdict of what was made
pub left_accepted : (store : Option (Vec ℕ Global)) (funcs : List (List ℕ × List ℕ)) (roots : List Task) (b : Built) (before after : Option Directory)
    (result : Result (Box Report Global) FilesError) → b.verdict ≡ Accepted
    → IfSome before (λ d. IfOk result (λ r. LeavesWhere store funcs roots b.rows.items b.files.items b.outputs.items d r.value after))
    → IfSome before (λ d. IfOk result (λ r. LeavesBy b.verdict store funcs roots b d r.value after))
left_accepted store funcs roots b before after result is h =
    subst (λ (v : Verdict). IfSome before (λ d. IfOk result (λ r. LeavesBy v store funcs roots b d r.value after))) (sym is) h

pub accepted_endures : {S : Type 0} (holds : S → Option Directory) (moment : S → ℕ) (left_since : S → ℕ → Directory → Type 0) (images : S → Directory → Type 0)
    (settled : Type 0) (old new : S) (store : Option (Vec ℕ Global)) (funcs : List (List ℕ × List ℕ)) (roots : List Task) (b : Built) → b.verdict ≡ Accepted
    → Endures holds moment left_since images (EndsWhere store funcs roots b.rows.items b.files.items) settled old new
    → Endures holds moment left_since images (EndsBy b.verdict store funcs roots b) settled old new
accepted_endures holds moment left_since images settled old new store funcs roots b is h =
    subst (λ (v : Verdict). Endures holds moment left_since images (EndsBy v store funcs roots b) settled old new) (sym is) h
