-- A build by what changed, as a clean build: its beginning, its evaluation and its end.
use Rattle.std.proofs.Common.{◌≡◌, ℕ, Bool, true, false, cond, List, ◌++◌, drop, length, map, Option, None, Some, Box, Global, Result, Ok, Err, refl, sym, ap, subst, ◌∙◌, codes}
use Rattle.std.proofs.Math.Seq.{drop-append_seam}
use Rattle.std.proofs.lemmas.List.Elements.{All-weaker}
use Rattle.std.specs.Prelude.{All, IfOk, IfSome, IsSome}
use Rattle.pie_bottomup.specs.inner.Loaded.{IsStoredIn}
use Rattle.pie_build.specs.inner.Projects.{IsReady}
use Rattle.pie_checks.specs.declared.built.Built.{Built}
use Rattle.pie_core_laws.specs.Update.{Update, earlier}
use Rattle.pie_diff.specs.Hashes.{hash_in, is_hash}
use Rattle.pie_earlier_laws.specs.Functions.{digest_under}
use Rattle.pie_files.specs.Directory.{Directory}
use Rattle.pie_files.specs.declared.files.FilesError.{FilesError}
use Rattle.pie_fresh.specs.Cleans.{IsRootOf}
use Rattle.pie_model.specs.Built.{store_rows}
use Rattle.pie_model.specs.Reasons.{SameCode}
use Rattle.pie_model_pipeline.specs.Rows.{record_of, verdict_of}
use Rattle.pie_model_pipeline.specs.World.{world, next}
use Rattle.pie_project.specs.declared.fault.BuildError.{BuildError}
use Rattle.pie_project.specs.declared.project.Project.{Project}
use Rattle.pie_record.specs.declared.task_record.TaskRecord.{TaskRecord}
use Rattle.pie_report.specs.declared.report.Report.{Report}
use Rattle.pie_store.specs.declared.cause.Cause.{Cause}
use Rattle.pie_store.specs.declared.image.StoreImage.{StoreImage}
use Rattle.pie_value.specs.Canonical.{enc_task, IsCanonicalTask}
use Rattle.pie_value.specs.Limits.{is_small_task}
use Rattle.pie_value.specs.declared.task.Task.{Task}
use Rattle.pie_value.specs.declared.verdict.Verdict.{Verdict}
use Rattle.pie_value.specs.declared.verdict.Verdict.TheVariants.{Accepted}
use Rattle.pie_incremental.specs.declared.base.Base.{Base}
use Rattle.pie_incremental.specs.declared.ending.Ending.{Ending}
use Rattle.pie_incremental.specs.declared.run.Done.{Done}
use Rattle.pie_incremental.specs.declared.run.Done.TheVariants.{Reported, Stopped}
use Rattle.pie_incremental.specs.declared.run.Stop.{Stop}
use Rattle.pie_incremental.specs.inner.Built.{IsKnown}
use Rattle.pie_incremental.specs.inner.Clean.{BuildsCleanOf, LeavesAsClean}
use Rattle.pie_incremental.specs.inner.Cleaned.{KnowsWhere, LeavesBy}
use Rattle.pie_incremental.specs.inner.Digested.{digested, with_digests}
use Rattle.pie_incremental.specs.inner.Evaluated.{IsResultOf, IsUpdateHere, MakesExact, StopsWhere}
use Rattle.pie_incremental.specs.inner.Joined.{IsAsBefore, IsEndingOf}
use Rattle.pie_incremental.specs.inner.Ran.{AreDue, BeginsEach, HaveBegun, HaveReasons, RanOf}
use Rattle.pie_incremental.specs.inner.Updated.{BeginsFrom, BeginsOn, BeginsOrRuns, GoesClean, GoesOn, IsAfreshAfter, IsUpdateFrom, RanFrom, RunsClean, RunsCleanOnce, RunsOrStops, StopsFrom}

-- ---- the end

module _ (s : StoreImage) (e : Ending) (p : Project) (before mid after : Option Directory) (b : Built) (r : Report) (same : mid ≡ before)
    (makes : MakesExact before p.typed p.digests.items p.roots.items s e.names.items b)
    (leaves : IfSome mid (λ d. LeavesBy b.verdict e.own e.held p.digests.items p.roots.items b d r after)) (is : r.verdict ≡ b.verdict) (u : Update)
    (here : IsUpdateHere u before p.typed p.roots.items) (stored : IsStoredIn u s.funcs p.digests.items s.rows e.names.items)
    (known : IsKnown e.own e.held u.directory) where
  made : IsResultOf u b
  made = makes.each u here stored

  left : LeavesBy b.verdict e.own e.held p.digests.items p.roots.items b u.directory r after
  left = subst (λ m. IfSome m (λ d. LeavesBy b.verdict e.own e.held p.digests.items p.roots.items b d r after)) (same ∙ here.holds) leaves

  leaves_clean : b.verdict ≡ Accepted → LeavesAsClean u p.digests.items p.roots.items r after
  leaves_clean accepted = record {
    rows = b.rows.items;
    outputs = b.outputs.items;
    rows_are = (made.made accepted).rows;
    outputs_are = made.outputs accepted;
    left = (subst (λ (v : Verdict). LeavesBy v e.own e.held p.digests.items p.roots.items b u.directory r after) accepted left) u
        (record { directory = refl; separates = here.separates; met = here.met; made = made.made accepted; known = known });
  }

  builds_clean : BuildsCleanOf u p.digests.items p.roots.items r after
  builds_clean = record { verdict = ap verdict_of is ∙ made.verdict; left = λ accepted. leaves_clean (sym is ∙ accepted) }

pub goes_clean : (s : StoreImage) (e : Ending) (p : Project) (before mid after : Option Directory) (b : Built) (r : Report) → mid ≡ before
    → MakesExact before p.typed p.digests.items p.roots.items s e.names.items b
    → IfSome mid (λ d. LeavesBy b.verdict e.own e.held p.digests.items p.roots.items b d r after) → r.verdict ≡ b.verdict → r.fresh ≡ None
    → ((u : Update) → IsUpdateHere u before p.typed p.roots.items → IsStoredIn u s.funcs p.digests.items s.rows e.names.items
    → AreDue u s.funcs p.digests.items r.ran.items) → GoesClean s e p before after r
goes_clean s e p before mid after b r same makes leaves is none ran = record {
  none = none;
  each = λ u here stored known. builds_clean s e p before mid after b r same makes leaves is u here stored known;
  ran = ran;
}

-- ---- the beginning

digested_rows : (d : Directory) (ds : List (List ℕ × List ℕ)) (s : StoreImage) (o : Option (List ℕ)) → (with_digests d ds s o).rows ≡ s.rows
digested_rows d ds s None = refl
digested_rows d ds s (Some hash) = by (is_hash (hash_in d (codes "pie.pipeline")) hash)
  where
    by : (t : Bool) → (cond t (record s { funcs = ds }) s).rows ≡ s.rows
    by true = refl
    by false = refl

pub begun_digested : (before mid : Option Directory) (digests ds : List (List ℕ × List ℕ)) (s t image : StoreImage) → mid ≡ before → ds ≡ digests → s ≡ t
    → IfSome mid (λ d. image ≡ digested d ds s) → IfSome before (λ d. image ≡ digested d digests t)
begun_digested before mid digests ds s t image same are is h =
    subst (λ m. IfSome m (λ d. image ≡ digested d digests t)) same
    (subst (λ (x : StoreImage). IfSome mid (λ d. image ≡ digested d digests x)) is (subst (λ x. IfSome mid (λ d. image ≡ digested d x s)) are h))

module _ (b : Base) (e : Ending) (p : Project) (list : List (List ℕ)) (s : StoreImage) (held : Option Directory) (u : Update) (ending : IsEndingOf b list e)
    (knows : IfSome held (λ d. KnowsWhere b d e)) (image : IfSome held (λ d. s ≡ digested d p.digests.items b.image)) (from : IsUpdateFrom u held b p list)
  where
    pub is_digested : s ≡ digested u.directory p.digests.items b.image
    is_digested = subst (λ o. IfSome o (λ x. s ≡ digested x p.digests.items b.image)) from.here.holds image

    pub begun_stored : IsStoredIn u s.funcs p.digests.items s.rows e.names.items
    begun_stored =
        let d = u.directory in
        let digests = p.digests.items in
        let rows : s.rows ≡ b.image.rows = ap (λ (x : StoreImage). x.rows) is_digested ∙ digested_rows d digests b.image b.image.pipeline in
        record {
          rows = subst (λ (x : List TaskRecord). map record_of x ≡ store_rows world (earlier u) u.old_roots) (sym rows) from.stored.rows;
          names = from.stored.names ∙ sym ending.names;
          meaning = subst (λ (x : StoreImage). (t : Task) → IsCanonicalTask t (enc_task t) → SameCode (digest_under x.funcs t.func) (digest_under digests t.func)
              → next u.old_functions (enc_task t) ≡ next u.functions (enc_task t)) (sym is_digested) from.stored.meaning;
        }

    pub begun_known : IsKnown e.own e.held u.directory
    begun_known =
        (subst (λ o. IfSome o (λ x. KnowsWhere b x e)) from.here.holds knows) u from.here.update refl begun_stored.names from.stored.rows from.base

runs_clean : (b : Base) (e : Ending) (p : Project) (list : List (List ℕ)) (s : StoreImage) (before mid after : Option Directory) (r : Report) → mid ≡ before
    → IsEndingOf b list e → IfSome before (λ d. KnowsWhere b d e) → IfSome before (λ d. s ≡ digested d p.digests.items b.image)
    → GoesClean s e p mid after r → RunsClean b p list before after r
runs_clean b e p list s before mid after r same ending knows image goes = record {
  none = goes.none;
  each = λ u from.
      goes.each u (subst (λ m. IsUpdateHere u m p.typed p.roots.items) (sym same) from.here)
      (begun_stored b e p list s before u ending knows image from) (begun_known b e p list s before u ending knows image from);
  ran = λ u from.
      subst (λ (x : StoreImage). AreDue u x.funcs p.digests.items r.ran.items) (is_digested b e p list s before u ending knows image from)
      (goes.ran u (subst (λ m. IsUpdateHere u m p.typed p.roots.items) (sym same) from.here) (begun_stored b e p list s before u ending knows image from));
}

stops_from : (b : Base) (e : Ending) (p : Project) (list : List (List ℕ)) (s : StoreImage) (before mid : Option Directory) (cause : Cause) → mid ≡ before
    → IsEndingOf b list e → IfSome before (λ d. KnowsWhere b d e) → IfSome before (λ d. s ≡ digested d p.digests.items b.image)
    → StopsWhere mid p.typed p.digests.items p.roots.items s e.names.items cause → StopsFrom b p list before cause
stops_from b e p list s before mid cause same ending knows image stops = record {
  each = λ u from.
      stops.each u (subst (λ m. IsUpdateHere u m p.typed p.roots.items) (sym same) from.here) (begun_stored b e p list s before u ending knows image from);
}

runs_then : (b : Base) (e : Ending) (p : Project) (list : List (List ℕ)) (s : StoreImage) (before mid after : Option Directory) (done : Done)
    → mid ≡ before → IsEndingOf b list e → IfSome before (λ d. KnowsWhere b d e) → IfSome before (λ d. s ≡ digested d p.digests.items b.image)
    → GoesOn s e p mid after done → RunsOrStops b p list before after done
runs_then b e p list s before mid after (Reported r) same ending knows image goes =
    runs_clean b e p list s before mid after r.value same ending knows image goes
runs_then b e p list s before mid after (Stopped stop) same ending knows image goes =
    stops_from b e p list s before mid stop.value.cause same ending knows image goes

pub runs_ok : (b : Base) (e : Ending) (p : Project) (list : List (List ℕ)) (s : StoreImage) (before mid after : Option Directory)
    (result : Result Done FilesError) → mid ≡ before → IsEndingOf b list e → IfSome before (λ d. KnowsWhere b d e)
    → IfSome before (λ d. s ≡ digested d p.digests.items b.image) → IfOk result (GoesOn s e p mid after) → IfOk result (RunsOrStops b p list before after)
runs_ok b e p list s before mid after (Ok done) same ending knows image goes =
    runs_then b e p list s before mid after done same ending knows image goes
runs_ok b e p list s before mid after (Err x) same ending knows image goes = tt

-- ---- the tasks that ran before it started afresh

begins_from : (b : Base) (e : Ending) (p : Project) (list : List (List ℕ)) (s : StoreImage) (before mid : Option Directory) (cause : Cause) (old new : List Task)
    → mid ≡ before → IsEndingOf b list e → IfSome before (λ d. KnowsWhere b d e) → IfSome before (λ d. s ≡ digested d p.digests.items b.image)
    → BeginsEach mid p.typed p.digests.items p.roots.items s e.names.items cause old new → BeginsFrom b p list before cause old new
begins_from b e p list s before mid cause old new same ending knows image begins = record {
  each = λ u from.
      subst (λ (x : StoreImage). HaveBegun u x.funcs p.digests.items cause old new) (is_digested b e p list s before u ending knows image from)
      (begins.each u (subst (λ m. IsUpdateHere u m p.typed p.roots.items) (sym same) from.here) (begun_stored b e p list s before u ending knows image from));
}

begins_then : (b : Base) (e : Ending) (p : Project) (list : List (List ℕ)) (s : StoreImage) (before mid : Option Directory) (old new : List Task) (done : Done)
    → mid ≡ before → IsEndingOf b list e → IfSome before (λ d. KnowsWhere b d e) → IfSome before (λ d. s ≡ digested d p.digests.items b.image)
    → BeginsOn s e p mid old new done → BeginsOrRuns b p list before old new done
begins_then b e p list s before mid old new (Reported r) same ending knows image begins = tt
begins_then b e p list s before mid old new (Stopped stop) same ending knows image begins =
    begins_from b e p list s before mid stop.value.cause old new same ending knows image begins

pub begins_ok : (b : Base) (e : Ending) (p : Project) (list : List (List ℕ)) (s : StoreImage) (before mid : Option Directory) (old new : List Task)
    (result : Result Done FilesError) → mid ≡ before → IsEndingOf b list e → IfSome before (λ d. KnowsWhere b d e)
    → IfSome before (λ d. s ≡ digested d p.digests.items b.image) → IfOk result (BeginsOn s e p mid old new) → IfOk result (BeginsOrRuns b p list before old new)
begins_ok b e p list s before mid old new (Ok done) same ending knows image begins =
    begins_then b e p list s before mid old new done same ending knows image begins
begins_ok b e p list s before mid old new (Err x) same ending knows image begins = tt

-- those behind a place ran so
ran_behind : (b : Base) (p : Project) (list : List (List ℕ)) (held : Option Directory) (cause : Cause) (n : ℕ) (old new : List Task) → n ≡ length old
    → BeginsFrom b p list held cause old new → RanFrom b p list held cause (drop n new)
ran_behind b p list held cause n old new is begins = record {
  each = λ u from.
      let h = begins.each u from in
      subst (HaveReasons u (digested u.directory p.digests.items b.image).funcs p.digests.items) (sym (behind h.gained h.is)) h.ran;
  told = λ u from. let h = begins.each u from in subst (RanOf u cause) (sym (behind h.gained h.is)) h.told;
}
  where
    behind : (gained : List Task) → new ≡ old ++ gained → drop n new ≡ gained
    behind gained e = ap (λ k. drop k new) is ∙ ap (drop (length old)) e ∙ drop-append_seam old gained

-- ---- the whole build of a project

-- roots of a project that is observable are within the limits of values
pub large_runs : (b : Base) (p : Project) (list : List (List ℕ)) (before after : Option Directory) (result : Result Report BuildError)
    → IfSome before (λ d. IsReady p.typed p.roots.items) → ¬ (All (λ t. is_small_task t ≡ true) p.roots.items)
    → IfOk result (RunsCleanOnce b p list before after)
large_runs b p list before after (Err e) ready large = tt
large_runs b p list before after (Ok r) ready large =
    record {
      once = λ d told none. absurd (never d told);
      afresh = λ d told some. absurd (never d told);
      cause = λ d told c is. absurd (never d told);
      ran = λ d told some c is. absurd (never d told);
    }
  where
    never : (d : Directory) → before ≡ Some d → ⊥
    never d told =
        let is : IsReady p.typed p.roots.items = subst (λ o. IfSome o (λ x. IsReady p.typed p.roots.items)) told ready in
        large (All-weaker (IsRootOf p.typed) (λ t. is_small_task t ≡ true) (λ t root. root.small) p.roots.items is.roots)

pub no_cause : (o : Option Cause) → IsSome o → o ≡ None → ⊥
no_cause None some is = cc
no_cause (Some c) some is = cc

pub reported_runs : (b : Base) (p : Project) (list : List (List ℕ)) (before after : Option Directory) (done : Done) (report : Box Report Global) (r : Report)
    → done ≡ Reported report → r ≡ report.value → RunsOrStops b p list before after done → RunsCleanOnce b p list before after r
reported_runs b p list before after done report r is same h =
    let runs : RunsClean b p list before after r = subst (RunsClean b p list before after) (sym same) (subst (RunsOrStops b p list before after) is h) in
    record {
      once = λ d told none. runs;
      afresh = λ d told some. absurd (no_cause r.fresh some runs.none);
      cause = λ d told c caused. absurd (apart c (sym runs.none ∙ caused));
      ran = λ d told some c caused. absurd (no_cause r.fresh some runs.none);
    }
  where
    apart : (c : Cause) → None ≡ Some c → ⊥
    apart c differ = cc

-- one that has to start afresh has changed nothing
pub as_before : (before mid : Option Directory) (done : Done) (stop : Box Stop Global) → done ≡ Stopped stop → IsAsBefore before mid done → mid ≡ before
as_before before mid done stop is h = subst (IsAsBefore before mid) is h

-- and one that tells why it did
pub again_runs : (b : Base) (p : Project) (list : List (List ℕ)) (before mid after : Option Directory) (done : Done) (stop : Box Stop Global)
    (result : Result Report BuildError) (n : ℕ) (old new : List Task) → mid ≡ before → done ≡ Stopped stop → RunsOrStops b p list before mid done
    → IfOk result (λ r. r.fresh ≡ Some stop.value.cause) → n ≡ length old → BeginsOrRuns b p list before old new done
    → IfSome mid (λ d. IfOk result (λ r. IsAfreshAfter d r after (drop n new))) → IfOk result (RunsCleanOnce b p list before after)
again_runs b p list before mid after done stop (Err e) n old new same stopped stops why at begins is = tt
again_runs b p list before mid after done stop (Ok r) n old new same stopped stops why at begins is = record {
  once = λ d told none. absurd (apart (sym why ∙ none));
  afresh = λ d told some. (afresh d told).afresh;
  cause = λ d told c caused. subst (StopsFrom b p list before) (one c (sym why ∙ caused)) (subst (RunsOrStops b p list before mid) stopped stops);
  ran = λ d told some c caused.
      subst (RanFrom b p list before c) (sym (afresh d told).is)
      (subst (λ x. RanFrom b p list before x (drop n new)) (one c (sym why ∙ caused))
      (ran_behind b p list before stop.value.cause n old new at (subst (BeginsOrRuns b p list before old new) stopped begins)));
}
  where
    afresh : (d : Directory) → before ≡ Some d → IsAfreshAfter d r after (drop n new)
    afresh d told = subst (λ m. IfSome m (λ x. IsAfreshAfter x r after (drop n new))) (same ∙ told) is

    apart : Some stop.value.cause ≡ None → ⊥
    apart differ = cc

    one : (c : Cause) → Some stop.value.cause ≡ Some c → stop.value.cause ≡ c
    one c both = cc
