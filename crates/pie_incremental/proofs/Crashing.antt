-- What a crash leaves of a build by what changed, from part to part.
use Rattle.std.proofs.Common.{◌≡◌, ◌⊎◌, inl, inr, ⊎_elim, ℕ, false, List, ◌++◌, map, Option, None, Some, Result, Ok, Err, Global, refl, sym, ap, subst, ◌∙◌}
use Rattle.std.specs.Prelude.{◌||◌, codes, Box, IfOk, IfSome}
use Rattle.pie_base.specs.Path.{is_out, same_text}
use Rattle.pie_build.specs.Crashes.{IsDone, IsOfThree, IsUnderWay, StaysAtRest, Withstands}
use Rattle.pie_build.specs.Left.{may_change, Leaves, LeavesAll, LeavesBy as LeavesAfresh}
use Rattle.pie_checks.specs.declared.built.Built.{Built}
use Rattle.pie_commit.proofs.Reading.{before_rest, then_rest}
use Rattle.pie_commit.specs.Outcomes.{IsAtRest, LeavesFromRest}
use Rattle.pie_core_laws.specs.Update.{Update, present}
use Rattle.pie_digest.specs.Digests.{HasNames as HasFunctionNames}
use Rattle.pie_files.proofs.Reading.{both_before, in_turn, none_before, weaker}
use Rattle.pie_files.specs.Directory.{Directory, without_file}
use Rattle.pie_files.specs.Images.{Only}
use Rattle.pie_files.specs.Reading.{LeavesAsBefore}
use Rattle.pie_files.specs.Reading.{Leaves as LeavesOnly}
use Rattle.pie_files.specs.declared.files.FilesError.{FilesError}
use Rattle.pie_bottomup.specs.inner.Loaded.{IsStoredIn}
use Rattle.pie_model.specs.Built.{store_rows}
use Rattle.pie_model_pipeline.specs.Rows.{record_of}
use Rattle.pie_model_pipeline.specs.World.{world}
use Rattle.pie_project.specs.Digested.{HasDigests}
use Rattle.pie_project.specs.Fronts.{ProjectSays}
use Rattle.pie_project.specs.declared.project.Project.{Project}
use Rattle.pie_project.specs.inner.Projects.{front_of}
use Rattle.pie_record.specs.declared.task_record.TaskRecord.{TaskRecord}
use Rattle.pie_report.specs.declared.report.Report.{Report}
use Rattle.pie_store.specs.Canonical.{AreFuncs}
use Rattle.pie_store.specs.declared.image.StoreImage.{StoreImage}
use Rattle.pie_store.specs.Pending.{in_order}
use Rattle.pie_value.specs.declared.verdict.Refusal.{Refusal}
use Rattle.pie_value.specs.declared.verdict.Verdict.{Verdict}
use Rattle.pie_value.specs.declared.verdict.Verdict.TheVariants.{Accepted, Refused}
use Rattle.pie_incremental.specs.declared.base.Base.{Base}
use Rattle.pie_incremental.specs.declared.base.OwnFiles.{OwnFiles}
use Rattle.pie_incremental.specs.declared.base.Start.{Start}
use Rattle.pie_incremental.specs.declared.base.Start.TheVariants.{From}
use Rattle.pie_incremental.specs.declared.ending.Ending.{Ending}
use Rattle.pie_incremental.specs.declared.run.Done.{Done}
use Rattle.pie_incremental.specs.declared.run.Done.TheVariants.{Reported, Stopped}
use Rattle.pie_incremental.specs.declared.run.Stop.{Stop}
use Rattle.pie_incremental.specs.Earlier.{Earlier, GoesOnFrom}
use Rattle.pie_incremental.specs.Kept.{is_builders, HasNames, IsOfNames, IsUnderway}
use Rattle.pie_incremental.specs.Own.{bytes_at, open_path, pending_path}
use Rattle.pie_incremental.specs.Starts.{IsBase, StartsFrom}
use Rattle.pie_incremental.specs.inner.Built.{IsKnown}
use Rattle.pie_incremental.specs.inner.Changes.{bytes_of}
use Rattle.pie_incremental.specs.inner.Cleaned.{IsClean, KnowsWhere, MayLeaveBy}
use Rattle.pie_incremental.specs.Crashes.{IsBegun, IsCleanBuilt, MayStop}
use Rattle.pie_incremental.specs.inner.Crashed.{IsCleanOf, MayBuild, MayFrom, MayGo, MayLeaveOf, MayRestart, MayRun, StaysBefore}
use Rattle.pie_incremental.specs.inner.Digested.{digested}
use Rattle.pie_incremental.specs.inner.Evaluated.{IsResultOf, IsUpdateHere, MakesExact}
use Rattle.pie_incremental.specs.inner.Joined.{IsAsBefore, IsEndingOf, TreatsIn}
use Rattle.pie_incremental.specs.inner.Updated.{IsUpdateFrom}
use Rattle.pie_incremental.proofs.Cleanly.{is_update, update_of}
use Rattle.pie_incremental.proofs.OwnPaths.{or_left, or_right}
use Rattle.pie_incremental.proofs.Updating.{begun_known, begun_stored}

-- ---- whatever is said of it

pub same_directory : (d e : Directory) → Some d ≡ Some e → e ≡ d
same_directory d e is = cc

module _ {S : Type 0} (holds : S → Option Directory) (moment : S → ℕ) (left_since : S → ℕ → Directory → Type 0) (images : S → Directory → Type 0) where
  -- where less is said of a directory that is told
  pub leaves_where : (P Q : Directory → Directory → Type 0) (old new : S) → ((d c : Directory) → holds old ≡ Some d → P d c → Q d c)
      → LeavesFromRest holds moment left_since images P old new → LeavesFromRest holds moment left_since images Q old new
  leaves_where P Q old new f h = by (holds old) refl h
    where
      by : (o : Option Directory) → holds old ≡ o → IfSome o (λ d. Only d (images old) → LeavesOnly moment left_since images (P d) old new)
          → IfSome o (λ d. Only d (images old) → LeavesOnly moment left_since images (Q d) old new)
      by None is a = tt
      by (Some d) is a = λ only. weaker moment left_since images (P d) (Q d) old new (λ c. f d c is) (a only)

  -- no call
  pub leaves_none : (P : Directory → Directory → Type 0) → ((d : Directory) → P d d) → (s : S) → LeavesFromRest holds moment left_since images P s s
  leaves_none P at_first s = before_rest holds moment left_since images P at_first s s (none_before holds moment left_since images s)

  -- names that aren't kept yet
  pub names_still : (names : List (List ℕ)) (before : Option (List ℕ)) (s : S)
      → LeavesFromRest holds moment left_since images (IsOfNames names before) s s
  names_still names before s = leaves_none (IsOfNames names before) (λ d is. inr (inl refl)) s

-- ---- from the end of a build to its evaluation

begins_of : (d c : Directory) → IsUnderway d c → IsBegun d c
begins_of d c way = record { marked = way.0; rest = λ q off. way.1 q (or_right (is_out q) (is_builders q) off) }

module _ (s : StoreImage) (e : Ending) (p : Project) (held : Option Directory) (b : Built)
    (makes : MakesExact held p.typed p.digests.items p.roots.items s e.names.items b) (d c : Directory) (told : held ≡ Some d) where
  of_names : (u : Update) → IsUnderway d c ⊎ ((c ≡ d) ⊎ HasNames e.names.items d c) → MayLeaveOf u p.digests.items p.roots.items e.names.items d c
  of_names u may = ⊎_elim (λ way. inl (begins_of d c way)) (λ rest. ⊎_elim (λ same. inr (inl same)) (λ kept. inr (inr (inl kept))) rest) may

  of_clean : (u : Update) (rows : List TaskRecord) → map record_of rows ≡ store_rows world (present u) u.roots
      → IsBegun d c ⊎ ((c ≡ d) ⊎ IsClean u p.digests.items p.roots.items rows d (without_file c open_path))
      → MayLeaveOf u p.digests.items p.roots.items e.names.items d c
  of_clean u rows are may = ⊎_elim (λ begun. inl begun)
      (λ rest. ⊎_elim (λ same. inr (inl same)) (λ clean. inr (inr (inr (record { rows = rows; rows_are = are; clean = clean })))) rest) may

  by_verdict : (u : Update) → IsUpdateHere u (Some d) p.typed p.roots.items → IsStoredIn u s.funcs p.digests.items s.rows e.names.items
      → IsKnown e.own e.held d → (v : Verdict) → b.verdict ≡ v
      → MayLeaveBy v e.own e.held p.digests.items p.roots.items b e.names.items d c
      → MayLeaveOf u p.digests.items p.roots.items e.names.items d c
  by_verdict u here stored known Accepted is may =
      let made : IsResultOf u b = makes.each u (subst (λ m. IsUpdateHere u m p.typed p.roots.items) (sym told) here) stored in
      of_clean u b.rows.items (made.made is).rows (may u (record {
        directory = same_directory d u.directory here.holds;
        separates = here.separates;
        met = here.met;
        made = made.made is;
        known = known;
      }))
  by_verdict u here stored known (Refused x) is may = of_names u (may known.pending)

  pub may_go : MayLeaveBy b.verdict e.own e.held p.digests.items p.roots.items b e.names.items d c → MayGo s e p d c
  may_go may u here stored known = by_verdict u here stored known b.verdict refl may

pub go_first : (s : StoreImage) (e : Ending) (p : Project) (d : Directory) → MayGo s e p d d
go_first s e p d u here stored known = inr (inl refl)

-- ---- from the base

pub may_run : (b : Base) (e : Ending) (p : Project) (list : List (List ℕ)) (s : StoreImage) (held : Option Directory) (d c : Directory) → IsEndingOf b list e
    → IfSome held (λ d. KnowsWhere b d e) → IfSome held (λ d. s ≡ digested d p.digests.items b.image) → held ≡ Some d → MayGo s e p d c
    → MayRun b p list d c
may_run b e p list s held d c ending knows image told go u from =
    let known : IfSome (Some d) (λ d. KnowsWhere b d e) = subst (λ o. IfSome o (λ d. KnowsWhere b d e)) told knows in
    let is : IfSome (Some d) (λ d. s ≡ digested d p.digests.items b.image) = subst (λ o. IfSome o (λ d. s ≡ digested d p.digests.items b.image)) told image in
    subst (λ (ns : List (List ℕ)). MayLeaveOf u p.digests.items p.roots.items ns d c) ending.names
    (go u from.here (begun_stored b e p list s (Some d) u ending known is from)
    (subst (IsKnown e.own e.held) (same_directory d u.directory from.here.holds) (begun_known b e p list s (Some d) u ending known is from)))

pub run_first : (b : Base) (p : Project) (list : List (List ℕ)) (d : Directory) → MayRun b p list d d
run_first b p list d u from = inr (inl refl)

module _ {S : Type 0} (holds : S → Option Directory) (moment : S → ℕ) (left_since : S → ℕ → Directory → Type 0) (images : S → Directory → Type 0) where
  pub crash_end : (s : StoreImage) (e : Ending) (p : Project) (old mid new : S) (b : Built) → holds mid ≡ holds old
      → LeavesAsBefore holds moment left_since images old mid → MakesExact (holds old) p.typed p.digests.items p.roots.items s e.names.items b
      → LeavesFromRest holds moment left_since images (MayLeaveBy b.verdict e.own e.held p.digests.items p.roots.items b e.names.items) mid new
      → LeavesFromRest holds moment left_since images (MayGo s e p) old new
  crash_end s e p old mid new b same before makes h =
      then_rest holds moment left_since images (MayGo s e p) (go_first s e p) old mid new same before
      (leaves_where holds moment left_since images (MayLeaveBy b.verdict e.own e.held p.digests.items p.roots.items b e.names.items) (MayGo s e p) mid new
      (λ d c told may. may_go s e p (holds old) b makes d c (sym same ∙ told) may) h)

  pub crash_begun : (b : Base) (e : Ending) (p : Project) (list : List (List ℕ)) (s : StoreImage) (old mid new : S) → holds mid ≡ holds old
      → LeavesAsBefore holds moment left_since images old mid → IsEndingOf b list e → IfSome (holds old) (λ d. KnowsWhere b d e)
      → IfSome (holds old) (λ d. s ≡ digested d p.digests.items b.image) → LeavesFromRest holds moment left_since images (MayGo s e p) mid new
      → LeavesFromRest holds moment left_since images (MayRun b p list) old new
  crash_begun b e p list s old mid new same before ending knows image h =
      then_rest holds moment left_since images (MayRun b p list) (run_first b p list) old mid new same before
      (leaves_where holds moment left_since images (MayGo s e p) (MayRun b p list) mid new
      (λ d c told go. may_run b e p list s (holds old) d c ending knows image (sym same ∙ told) go) h)

  pub still_ok : (old mid new : S) (result : Result Done FilesError) → holds mid ≡ holds old → LeavesAsBefore holds moment left_since images old mid
      → IfOk result (StaysBefore holds moment left_since images mid new) → IfOk result (StaysBefore holds moment left_since images old new)
  still_ok old mid new (Err e) same before h = tt
  still_ok old mid new (Ok (Reported r)) same before h = tt
  still_ok old mid new (Ok (Stopped stop)) same before h = both_before holds moment left_since images old mid new same before h

-- ---- a build that starts afresh

may_begin : (q : List ℕ) → (is_out q || is_builders q) ≡ false → may_change q ≡ false
may_begin q off =
    let out = or_left (is_out q) (is_builders q) off in
    let own = or_right (is_out q) (is_builders q) off in
    let o = same_text q open_path in
    let s = same_text q (codes ".pie/store") in
    let n = same_text q (codes ".pie/pending") in
    let two = or_left (o || s) n own in
    ap (λ x. x || o || s || n) out ∙ ap (λ x. false || x || s || n) (or_left o s two) ∙ ap (λ x. false || false || x || n) (or_right o s two)
    ∙ ap (λ x. false || false || false || x) (or_right (o || s) n own)

begun_by : (d c : Directory) → IsUnderWay d c → IsBegun d c
begun_by d c way = record { marked = way.marked; rest = λ q off. way.rest q (may_begin q off) }

restarts : (own : OwnFiles) (names : List (List ℕ)) (d c : Directory) → IsOfThree Leaves d c → MayRestart own names d c
restarts own names d c three =
    ⊎_elim (λ way. inl (begun_by d c way)) (λ rest. ⊎_elim (λ same. inr (inl same)) (λ done. inr (inr (inl done))) rest) three

pub refused_same : (d : Directory) (r : Report) (after : Option Directory) (x : Refusal) → r.verdict ≡ Refused x → Leaves d r after → after ≡ Some d
refused_same d r after x is left =
    let all : LeavesAll left.2.functions left.1 x d r after = subst (λ (v : Verdict). LeavesAfresh left.2.functions left.0 left.1 v d r after) is left.3.1 in
    all.same

module _ {S : Type 0} (holds : S → Option Directory) (moment : S → ℕ) (left_since : S → ℕ → Directory → Type 0) (images : S → Directory → Type 0)
    (own : OwnFiles) (names : List (List ℕ)) where
  pub crash_failed : (old new : S) → Withstands holds moment left_since images Leaves old new
      → LeavesFromRest holds moment left_since images (MayRestart own names) old new
  crash_failed old new h =
      leaves_where holds moment left_since images (IsOfThree Leaves) (MayRestart own names) old new (λ d c told three. restarts own names d c three) h.crash

  module _ (old mid new : S) (r : Report) (h : Withstands holds moment left_since images Leaves old mid) (rests : StaysAtRest holds images old mid)
      (left : IfSome (holds old) (λ d. Leaves d r (holds mid))) (quiet : r.verdict ≡ Accepted → new ≡ mid)
      (keeps : LeavesFromRest holds moment left_since images (IsOfNames names (bytes_of own.pending)) mid new) where
    kept_at : (d : Directory) → holds mid ≡ Some d → IsAtRest (holds mid) (images mid)
        → LeavesOnly moment left_since images (IsOfNames names (bytes_of own.pending) d) mid new
    kept_at d same rest =
        let here : Only d (images mid) = subst (λ e. Only e (images mid)) (same_directory d rest.0 (sym same ∙ rest.1)) rest.2 in
        (subst (λ o. IfSome o (λ e. Only e (images mid) → LeavesOnly moment left_since images (IsOfNames names (bytes_of own.pending) e) mid new)) same keeps)
        here

    refused_by : (x : Refusal) → r.verdict ≡ Refused x → (o : Option Directory)
        → IfSome o (λ d. Only d (images old) → LeavesOnly moment left_since images (MayRestart own names d) old mid)
        → IfSome o (λ d. Only d (images old) → IsAtRest (holds mid) (images mid)) → IfSome o (λ d. Leaves d r (holds mid))
        → IfSome o (λ d. Only d (images old) → LeavesOnly moment left_since images (MayRestart own names d) old new)
    refused_by x is None first rest leaves = tt
    refused_by x is (Some d) first rest leaves = λ only.
        in_turn moment left_since images (MayRestart own names d) old mid new (first only)
        (weaker moment left_since images (IsOfNames names (bytes_of own.pending) d) (MayRestart own names d) mid new (λ c of. inr (inr (inr of)))
        (kept_at d (refused_same d r (holds mid) x is leaves) (rest only)))

    by_report : (v : Verdict) → r.verdict ≡ v → LeavesFromRest holds moment left_since images (MayRestart own names) old new
    by_report Accepted is =
        subst (λ x. LeavesFromRest holds moment left_since images (MayRestart own names) old x) (sym (quiet is)) (crash_failed old mid h)
    by_report (Refused x) is = refused_by x is (holds old) (crash_failed old mid h) rests left

    pub crash_again : LeavesFromRest holds moment left_since images (MayRestart own names) old new
    crash_again = by_report r.verdict refl

-- ---- a build of a project

pub build_first : (b : Base) (p : Project) (list : List (List ℕ)) (d : Directory) → MayBuild b p list d d
build_first b p list d u from = inr (inl refl)

build_of_run : (b : Base) (p : Project) (list : List (List ℕ)) (d c : Directory) → MayRun b p list d c → MayBuild b p list d c
build_of_run b p list d c run u from = ⊎_elim (λ begun. inl begun)
    (λ rest. ⊎_elim (λ same. inr (inl same))
    (λ more. ⊎_elim (λ kept. inr (inr (inl kept))) (λ clean. inr (inr (inr (inr clean)))) more) rest) (run u from)

build_of_three : (b : Base) (p : Project) (list : List (List ℕ)) (d c : Directory) → IsOfThree Leaves d c → MayBuild b p list d c
build_of_three b p list d c three u from = ⊎_elim (λ way. inl (begun_by d c way))
    (λ rest. ⊎_elim (λ same. inr (inl same)) (λ done. inr (inr (inr (inl done)))) rest) three

module _ (b : Base) (p : Project) (list : List (List ℕ)) (own : OwnFiles) (names : List (List ℕ)) (d c : Directory) (owned : own ≡ b.own)
    (named : names ≡ in_order (list ++ b.names.items)) (u : Update) (from : IsUpdateFrom u (Some d) b p list) where
  abbrev Builds : Type 0
  Builds = IsBegun d c ⊎ ((c ≡ d) ⊎ (HasNames (in_order (list ++ b.names.items)) d c
      ⊎ (IsDone Leaves d c ⊎ IsCleanOf u p.digests.items p.roots.items d (without_file c open_path))))

  pending_is : bytes_at d pending_path ≡ bytes_of own.pending
  pending_is = subst (λ x. bytes_at x pending_path ≡ bytes_of b.own.pending) (same_directory d u.directory from.here.holds) from.base.pending
      ∙ ap (λ (o : OwnFiles). bytes_of o.pending) (sym owned)

  of_kept : IsUnderway d c ⊎ ((c ≡ d) ⊎ HasNames names d c) → Builds
  of_kept may = ⊎_elim (λ way. inl (begins_of d c way))
      (λ rest. ⊎_elim (λ same. inr (inl same)) (λ kept. inr (inr (inl (subst (λ (ns : List (List ℕ)). HasNames ns d c) named kept)))) rest) may

  of_restart : MayRestart own names d c → Builds
  of_restart may = ⊎_elim (λ begun. inl begun)
      (λ rest. ⊎_elim (λ same. inr (inl same)) (λ more. ⊎_elim (λ done. inr (inr (inr (inl done)))) (λ of. of_kept (of pending_is)) more) rest) may

module _ {S : Type 0} (holds : S → Option Directory) (moment : S → ℕ) (left_since : S → ℕ → Directory → Type 0) (images : S → Directory → Type 0)
    (b : Base) (p : Project) (list : List (List ℕ)) where
  pub crash_run : (old new : S) → LeavesFromRest holds moment left_since images (MayRun b p list) old new
      → LeavesFromRest holds moment left_since images (MayBuild b p list) old new
  crash_run old new h =
      leaves_where holds moment left_since images (MayRun b p list) (MayBuild b p list) old new (λ d c told run. build_of_run b p list d c run) h

  pub crash_large : (old new : S) → Withstands holds moment left_since images Leaves old new
      → LeavesFromRest holds moment left_since images (MayBuild b p list) old new
  crash_large old new h =
      leaves_where holds moment left_since images (IsOfThree Leaves) (MayBuild b p list) old new (λ d c told three. build_of_three b p list d c three) h.crash

  pub crash_stopped : (old mid new : S) (done : Done) (stop : Box Stop Global) → done ≡ Stopped stop
      → TreatsIn b.own (in_order (list ++ b.names.items)) (holds old) (holds mid) done → IsAsBefore (holds old) (holds mid) done
      → StaysBefore holds moment left_since images old mid done
      → LeavesFromRest holds moment left_since images (MayRestart stop.value.ending.value.own stop.value.ending.value.names.items) mid new
      → LeavesFromRest holds moment left_since images (MayBuild b p list) old new
  crash_stopped old mid new done stop is treats still before again =
      let own = stop.value.ending.value.own in
      let names = stop.value.ending.value.names.items in
      let kept : (own ≡ b.own) × (names ≡ in_order (list ++ b.names.items)) =
      subst (TreatsIn b.own (in_order (list ++ b.names.items)) (holds old) (holds mid)) is treats in
      let same : holds mid ≡ holds old = subst (IsAsBefore (holds old) (holds mid)) is still in
      let nothing : LeavesAsBefore holds moment left_since images old mid = subst (StaysBefore holds moment left_since images old mid) is before in
      then_rest holds moment left_since images (MayBuild b p list) (build_first b p list) old mid new same nothing
      (leaves_where holds moment left_since images (MayRestart own names) (MayBuild b p list) mid new
      (λ d c told may u from. of_restart b p list own names d c kept.0 kept.1 u from may) again)

-- ---- a build of a directory

pub from_first : (b : Base) (list : List (List ℕ)) (d : Directory) → MayFrom b list d d
from_first b list d base e from = inr (inl refl)

module _ (b : Base) (p : Project) (list : List (List ℕ)) (d c : Directory) (says : ProjectSays d (Ok (front_of p))) (has : HasDigests d p.digests.items)
    (names : HasFunctionNames p.typed p.digests.items) (funcs : AreFuncs p.digests.items) where
  of_build : MayBuild b p list d c → MayFrom b list d c
  of_build may base e from =
      let u = update_of e list d b p from base says has names funcs in
      ⊎_elim (λ begun. inl begun)
      (λ rest. ⊎_elim (λ same. inr (inl same))
      (λ more. ⊎_elim (λ kept. inr (inr (inl (record { base = b; is = base; names = kept }))))
      (λ all. ⊎_elim (λ done. inr (inr (inr (inl done)))) (λ clean. inr (inr (inr (inr (clean_built e from base clean))))) all) more) rest)
      (may u (is_update e list d b p from base says has names funcs (Some d) refl))
    where
      clean_built : (e : Earlier) (from : GoesOnFrom e list d) (base : IsBase d b)
          → IsCleanOf (update_of e list d b p from base says has names funcs) p.digests.items p.roots.items d (without_file c open_path)
          → IsCleanBuilt d (without_file c open_path)
      clean_built e from base clean = record {
        funcs = p.digests.items;
        roots = p.roots.items;
        found = record { functions = p.typed; says = says; names = names; digests = has };
        text = clean.clean.text;
        rows = clean.rows;
        built = clean.clean.built;
        records = clean.rows_are;
        store = clean.clean.store;
      }

stop_of_three : (list : List (List ℕ)) (d c : Directory) → IsOfThree Leaves d c → MayStop list d c
stop_of_three list d c three = record {
  goes_on = λ e from. ⊎_elim (λ way. inl (begun_by d c way)) (λ rest. ⊎_elim (λ same. inr (inl same)) (λ done. inr (inr (inr (inl done)))) rest) three;
  afresh = λ none. three;
}

-- where there is a base
stop_based : (list : List (List ℕ)) (d c : Directory) (b : Base) → IsBase d b → MayFrom b list d c → MayStop list d c
stop_based list d c b is may = record { goes_on = may is; afresh = λ none. absurd (none b is) }

pub stop_first : (list : List (List ℕ)) (d : Directory) → MayStop list d d
stop_first list d = record { goes_on = λ e from. inr (inl refl); afresh = λ none. inr (inl refl) }

module _ {S : Type 0} (holds : S → Option Directory) (moment : S → ℕ) (left_since : S → ℕ → Directory → Type 0) (images : S → Directory → Type 0) where
  pub crash_from : (b : Base) (p : Project) (list : List (List ℕ)) (old mid new : S) → holds mid ≡ holds old
      → LeavesAsBefore holds moment left_since images old mid → IfSome (holds old) (λ d. ProjectSays d (Ok (front_of p)))
      → IfSome (holds old) (λ d. HasDigests d p.digests.items) → HasFunctionNames p.typed p.digests.items → AreFuncs p.digests.items
      → LeavesFromRest holds moment left_since images (MayBuild b p list) mid new
      → LeavesFromRest holds moment left_since images (MayFrom b list) old new
  crash_from b p list old mid new same before says has names funcs h =
      then_rest holds moment left_since images (MayFrom b list) (from_first b list) old mid new same before
      (leaves_where holds moment left_since images (MayBuild b p list) (MayFrom b list) mid new
      (λ d c told may. of_build b p list d c (subst (λ o. IfSome o (λ x. ProjectSays x (Ok (front_of p)))) (sym same ∙ told) says)
      (subst (λ o. IfSome o (λ x. HasDigests x p.digests.items)) (sym same ∙ told) has) names funcs may) h)

  pub crash_based : (list : List (List ℕ)) (start : Start) (b : Box Base Global) (old mid new : S) → start ≡ From b
      → IfSome (holds old) (λ d. StartsFrom d start) → holds mid ≡ holds old → LeavesAsBefore holds moment left_since images old mid
      → LeavesFromRest holds moment left_since images (MayFrom b.value list) mid new → LeavesFromRest holds moment left_since images (MayStop list) old new
  crash_based list start b old mid new is begins same before h =
      then_rest holds moment left_since images (MayStop list) (stop_first list) old mid new same before
      (leaves_where holds moment left_since images (MayFrom b.value list) (MayStop list) mid new
      (λ d c told may. stop_based list d c b.value (subst (λ o. IfSome o (λ x. StartsFrom x (From b))) (sym same ∙ told)
      (subst (λ (s : Start). IfSome (holds old) (λ x. StartsFrom x s)) is begins)) may) h)

  pub crash_afresh : (list : List (List ℕ)) (old mid new : S) → holds mid ≡ holds old → LeavesAsBefore holds moment left_since images old mid
      → LeavesFromRest holds moment left_since images (IsOfThree Leaves) mid new → LeavesFromRest holds moment left_since images (MayStop list) old new
  crash_afresh list old mid new same before h =
      then_rest holds moment left_since images (MayStop list) (stop_first list) old mid new same before
      (leaves_where holds moment left_since images (IsOfThree Leaves) (MayStop list) mid new (λ d c told three. stop_of_three list d c three) h)
