-- What a part of a build says, from what the parts that it calls say.
use Rattle.std.proofs.Common.{◌≡◌, ℕ, ◌+◌, ◌≤◌, List, ◌++◌, length, drop, Vec, Global, Option, None, Result, Ok, Err, refl, sym, ap, subst, ◌∙◌, arith}
use Rattle.std.specs.Prelude.{All, Box, IfOk, IfSome, IsErr, IsOk, false, true}
use Rattle.std.proofs.lemmas.List.{append_assoc}
use Rattle.std.proofs.Math.Seq.{drop-append_seam}
use Rattle.pie_build.proofs.Crashing.{rests_still, rests_then}
use Rattle.pie_build.proofs.OwnPaths.{same_keeps}
use Rattle.pie_build.specs.Crashes.{IsDone, IsOfThree, StaysAtRest, Withstands}
use Rattle.pie_build.specs.Left.{KeepsRest, Leaves}
use Rattle.pie_build.specs.inner.Projects.{ReportsStarted}
use Rattle.pie_checks.specs.declared.built.Built.{Built}
use Rattle.pie_commit.proofs.Reading.{before_rest}
use Rattle.pie_digest.specs.Digests.{HasNames as HasFunctionNames}
use Rattle.pie_files.proofs.Reading.{none_before}
use Rattle.pie_files.specs.Directory.{Directory}
use Rattle.pie_files.specs.Reading.{LeavesAsBefore}
use Rattle.pie_files.specs.declared.files.FilesError.{FilesError}
use Rattle.pie_project.specs.Digested.{HasDigests}
use Rattle.pie_project.specs.Fronts.{ProjectSays}
use Rattle.pie_project.specs.declared.fault.BuildError.{BuildError}
use Rattle.pie_project.specs.declared.project.Project.{Project}
use Rattle.pie_project.specs.inner.Projects.{front_of}
use Rattle.pie_report.specs.declared.report.Report.{Report}
use Rattle.pie_store.specs.Canonical.{AreFuncs}
use Rattle.pie_store.specs.Pending.{in_order}
use Rattle.pie_store.specs.declared.cause.Cause.{Cause}
use Rattle.pie_store.specs.declared.image.StoreImage.{StoreImage}
use Rattle.pie_value.specs.Canonical.{IsEncodableTask}
use Rattle.pie_value.specs.declared.task.Task.{Task}
use Rattle.pie_value.specs.declared.verdict.Refusal.{Refusal}
use Rattle.pie_value.specs.declared.verdict.Verdict.{Verdict}
use Rattle.pie_value.specs.declared.verdict.Verdict.TheVariants.{Accepted, Refused}
use Rattle.pie_incremental.specs.declared.base.Base.{Base}
use Rattle.pie_incremental.specs.declared.base.OwnFiles.{OwnFiles}
use Rattle.pie_incremental.specs.declared.ending.Ending.{Ending}
use Rattle.pie_incremental.specs.declared.run.Done.{Done}
use Rattle.pie_incremental.specs.declared.run.Done.TheVariants.{Reported, Stopped}
use Rattle.pie_incremental.specs.declared.run.Stop.{Stop}
use Rattle.pie_incremental.specs.Crashes.{MarkedBy}
use Rattle.pie_incremental.specs.Kept.{IsOfNames}
use Rattle.pie_incremental.specs.inner.Changes.{bytes_of}
use Rattle.pie_incremental.specs.inner.Cleaned.{KnowsWhere, MayLeave, MayLeaveBy}
use Rattle.pie_incremental.specs.inner.Crashed.{MayBuild, MayFrom, MayGo, MayRestart, MayRun, StaysBefore}
use Rattle.pie_incremental.specs.inner.Digested.{digested}
use Rattle.pie_incremental.specs.inner.Evaluated.{MakesExact}
use Rattle.pie_incremental.specs.inner.Joined.{IsAsBefore, IsEndingOf, Reports, Started, TreatsIn}
use Rattle.pie_incremental.specs.inner.Marked.{EndsAccepted, EndsBuild, EndsBy, EndsFrom, EndsGo, EndsNames, EndsRestart, EndsRun}
use Rattle.pie_incremental.specs.inner.Parts.{Endures, StartsFew, StopsAsBefore, TellsAgain, TellsRuns, TellsRunsOnce, TellsVerdict}
use Rattle.pie_incremental.proofs.Crashing.{crash_again, crash_begun, crash_end, crash_failed, crash_from, crash_large, crash_run, crash_stopped, still_ok}
use Rattle.pie_incremental.proofs.Joining.{few_again, few_both, few_twice, rest_both, rest_then, started_none}
use Rattle.pie_incremental.proofs.Leaving.{crash_accepted, crash_refused, marked_accepted, marked_refused}
use Rattle.pie_incremental.proofs.Marking.{marked_again, marked_begun, marked_end, marked_failed, marked_from, marked_large, marked_run, marked_still}
use Rattle.pie_incremental.proofs.Marking.{marked_stopped, rests_both}

-- ---- the files

-- an error is no answer
pub no_answer : {A E : Type 0} (result : Result A E) → IsErr result → IsOk result → false ≡ true
no_answer (Ok value) failed ok = failed
no_answer (Err e) failed ok = ok

module _ {S : Type 0} (holds : S → Option Directory) (moment : S → ℕ) (left_since : S → ℕ → Directory → Type 0) (images : S → Directory → Type 0) where
  -- calls that change no file
  pub endures_still : (May D : Directory → Directory → Type 0) (settled : Type 0) → ((d : Directory) → May d d) → (old new : S) → holds new ≡ holds old
      → LeavesAsBefore holds moment left_since images old new → Endures holds moment left_since images May (MarkedBy D) settled old new
  endures_still May D settled first old new same leaves = record {
    rest = same_keeps (holds old) (holds new) same;
    crash = before_rest holds moment left_since images May first old new leaves;
    marked = marked_still holds moment left_since images D old new leaves;
    durable = λ done. rests_still holds moment left_since images old new same leaves;
  }

  -- no call
  pub endures_none : (May D : Directory → Directory → Type 0) (settled : Type 0) → ((d : Directory) → May d d) → (s : S)
      → Endures holds moment left_since images May (MarkedBy D) settled s s
  endures_none May D settled first s = endures_still May D settled first s s refl (none_before holds moment left_since images s)

  -- where it is settled in other words
  pub endures_settled : (May : Directory → Directory → Type 0) (Ends : Directory → (Directory → Type 0) → Type 0) (T U : Type 0) (old new : S) → (U → T)
      → Endures holds moment left_since images May Ends T old new → Endures holds moment left_since images May Ends U old new
  endures_settled May Ends T U old new f h = record { rest = h.rest; crash = h.crash; marked = h.marked; durable = λ done. h.durable (f done) }

  -- by the verdict of what was made
  pub endures_accepted : (old new : S) (own : OwnFiles) (held funcs : List (List ℕ × List ℕ)) (roots : List Task) (b : Built) (names : List (List ℕ))
      (settled : Type 0) → b.verdict ≡ Accepted
      → Endures holds moment left_since images (MayLeave own held funcs roots b.rows.items b.files.items)
      (MarkedBy (EndsAccepted own held funcs roots b.rows.items b.files.items)) settled old new
      → Endures holds moment left_since images (MayLeaveBy b.verdict own held funcs roots b names)
      (MarkedBy (EndsBy b.verdict own held funcs roots b names)) settled old new
  endures_accepted old new own held funcs roots b names settled is h = record {
    rest = h.rest;
    crash = crash_accepted holds moment left_since images old new own held funcs roots b names is h.crash;
    marked = marked_accepted holds moment left_since images old new own held funcs roots b names is h.marked;
    durable = h.durable;
  }

  pub endures_refused : (old new : S) (own : OwnFiles) (held funcs : List (List ℕ × List ℕ)) (roots : List Task) (b : Built) (names : List (List ℕ))
      (settled : Type 0) (x : Refusal) → b.verdict ≡ Refused x
      → Endures holds moment left_since images (IsOfNames names (bytes_of own.pending)) (MarkedBy (EndsNames names (bytes_of own.pending))) settled old new
      → Endures holds moment left_since images (MayLeaveBy b.verdict own held funcs roots b names)
      (MarkedBy (EndsBy b.verdict own held funcs roots b names)) settled old new
  endures_refused old new own held funcs roots b names settled x is h = record {
    rest = h.rest;
    crash = crash_refused holds moment left_since images old new own held funcs roots b names x is h.crash;
    marked = marked_refused holds moment left_since images old new own held funcs roots b names x is h.marked;
    durable = h.durable;
  }

  -- from the end of a build to its evaluation
  pub endures_end : (s : StoreImage) (e : Ending) (p : Project) (old mid new : S) (b : Built) (settled : Type 0) → holds mid ≡ holds old
      → LeavesAsBefore holds moment left_since images old mid → MakesExact (holds old) p.typed p.digests.items p.roots.items s e.names.items b
      → Endures holds moment left_since images (MayLeaveBy b.verdict e.own e.held p.digests.items p.roots.items b e.names.items)
      (MarkedBy (EndsBy b.verdict e.own e.held p.digests.items p.roots.items b e.names.items)) settled mid new
      → Endures holds moment left_since images (MayGo s e p) (MarkedBy (EndsGo s e p)) settled old new
  endures_end s e p old mid new b settled same before makes h = record {
    rest = rest_then (holds old) (holds mid) (holds new) same h.rest;
    crash = crash_end holds moment left_since images s e p old mid new b same before makes h.crash;
    marked = marked_end holds moment left_since images s e p old mid new b same before makes h.marked;
    durable = λ done. rests_then holds moment left_since images old mid new same before (h.durable done);
  }

  -- from the base
  pub endures_begun : (b : Base) (e : Ending) (p : Project) (list : List (List ℕ)) (s : StoreImage) (old mid new : S) (settled : Type 0)
      → holds mid ≡ holds old → LeavesAsBefore holds moment left_since images old mid → IsEndingOf b list e → IfSome (holds old) (λ d. KnowsWhere b d e)
      → IfSome (holds old) (λ d. s ≡ digested d p.digests.items b.image)
      → Endures holds moment left_since images (MayGo s e p) (MarkedBy (EndsGo s e p)) settled mid new
      → Endures holds moment left_since images (MayRun b p list) (MarkedBy (EndsRun b p list)) settled old new
  endures_begun b e p list s old mid new settled same before ending knows image h = record {
    rest = rest_then (holds old) (holds mid) (holds new) same h.rest;
    crash = crash_begun holds moment left_since images b e p list s old mid new same before ending knows image h.crash;
    marked = marked_begun holds moment left_since images b e p list s old mid new same before ending knows image h.marked;
    durable = λ done. rests_then holds moment left_since images old mid new same before (h.durable done);
  }

  -- a build of a project that doesn't start afresh, settled in other words
  pub endures_run : (b : Base) (p : Project) (list : List (List ℕ)) (T U : Type 0) (old new : S) → (U → T)
      → Endures holds moment left_since images (MayRun b p list) (MarkedBy (EndsRun b p list)) T old new
      → Endures holds moment left_since images (MayBuild b p list) (MarkedBy (EndsBuild b p list)) U old new
  endures_run b p list T U old new f h = record {
    rest = h.rest;
    crash = crash_run holds moment left_since images b p list old new h.crash;
    marked = marked_run holds moment left_since images b p list old new h.marked;
    durable = λ done. h.durable (f done);
  }

  -- a clean build of it
  pub endures_large : (b : Base) (p : Project) (list : List (List ℕ)) (settled : Type 0) (old new : S) → KeepsRest (holds old) (holds new)
      → Withstands holds moment left_since images Leaves old new → (settled → StaysAtRest holds images old new)
      → Endures holds moment left_since images (MayBuild b p list) (MarkedBy (EndsBuild b p list)) settled old new
  endures_large b p list settled old new rest h rests = record {
    rest = rest;
    crash = crash_large holds moment left_since images b p list old new h;
    marked = marked_large holds moment left_since images b p list old new h;
    durable = rests;
  }

  -- one that has to start afresh, and does
  pub endures_stopped : (b : Base) (p : Project) (list : List (List ℕ)) (T U : Type 0) (old mid new : S) (done : Done) (stop : Box Stop Global) → T
      → done ≡ Stopped stop → TreatsIn b.own (in_order (list ++ b.names.items)) (holds old) (holds mid) done → IsAsBefore (holds old) (holds mid) done
      → StaysBefore holds moment left_since images old mid done
      → Endures holds moment left_since images (MayRun b p list) (MarkedBy (EndsRun b p list)) T old mid
      → Endures holds moment left_since images (MayRestart stop.value.ending.value.own stop.value.ending.value.names.items)
      (MarkedBy (EndsRestart stop.value.ending.value.own stop.value.ending.value.names.items)) U mid new
      → Endures holds moment left_since images (MayBuild b p list) (MarkedBy (EndsBuild b p list)) U old new
  endures_stopped b p list T U old mid new done stop settled is treats same before first again = record {
    rest = rest_both (holds old) (holds mid) (holds new) first.rest again.rest;
    crash = crash_stopped holds moment left_since images b p list old mid new done stop is treats same before again.crash;
    marked = marked_stopped holds moment left_since images b p list old mid new done stop is treats same before again.marked;
    durable = λ says. rests_both holds moment left_since images old mid new (first.durable settled) (again.durable says);
  }

  -- a clean build
  pub endures_afresh : (settled : Type 0) (old new : S) → KeepsRest (holds old) (holds new) → Withstands holds moment left_since images Leaves old new
      → (settled → StaysAtRest holds images old new)
      → Endures holds moment left_since images (IsOfThree Leaves) (MarkedBy (IsDone Leaves)) settled old new
  endures_afresh settled old new rest h rests = record { rest = rest; crash = h.crash; marked = h.marked; durable = rests }

  -- one that starts afresh, after which names are kept where it refused
  pub endures_again : (own : OwnFiles) (names : List (List ℕ)) (old mid new : S) (r : Report) (settled : Type 0) → KeepsRest (holds old) (holds mid)
      → Withstands holds moment left_since images Leaves old mid → StaysAtRest holds images old mid → IfSome (holds old) (λ d. Leaves d r (holds mid))
      → (r.verdict ≡ Accepted → new ≡ mid)
      → Endures holds moment left_since images (IsOfNames names (bytes_of own.pending)) (MarkedBy (EndsNames names (bytes_of own.pending))) settled mid new
      → Endures holds moment left_since images (MayRestart own names) (MarkedBy (EndsRestart own names)) settled old new
  endures_again own names old mid new r settled rest h rests left quiet keeps = record {
    rest = rest_both (holds old) (holds mid) (holds new) rest keeps.rest;
    crash = crash_again holds moment left_since images own names old mid new r h rests left quiet keeps.crash;
    marked = marked_again holds moment left_since images own names old mid new r h rests left quiet keeps.marked;
    durable = λ says. rests_both holds moment left_since images old mid new rests (keeps.durable says);
  }

  -- and one that gives up
  pub endures_failed : (own : OwnFiles) (names : List (List ℕ)) (settled : Type 0) (old new : S) → KeepsRest (holds old) (holds new)
      → Withstands holds moment left_since images Leaves old new → (settled → StaysAtRest holds images old new)
      → Endures holds moment left_since images (MayRestart own names) (MarkedBy (EndsRestart own names)) settled old new
  endures_failed own names settled old new rest h rests = record {
    rest = rest;
    crash = crash_failed holds moment left_since images own names old new h;
    marked = marked_failed holds moment left_since images own names old new h;
    durable = rests;
  }

  -- the build of a directory
  pub endures_from : (b : Base) (p : Project) (list : List (List ℕ)) (settled : Type 0) (old mid new : S) → holds mid ≡ holds old
      → LeavesAsBefore holds moment left_since images old mid → IfSome (holds old) (λ d. ProjectSays d (Ok (front_of p)))
      → IfSome (holds old) (λ d. HasDigests d p.digests.items) → HasFunctionNames p.typed p.digests.items → AreFuncs p.digests.items
      → Endures holds moment left_since images (MayBuild b p list) (MarkedBy (EndsBuild b p list)) settled mid new
      → Endures holds moment left_since images (MayFrom b list) (MarkedBy (EndsFrom b list)) settled old new
  endures_from b p list settled old mid new same before says has names funcs h = record {
    rest = rest_then (holds old) (holds mid) (holds new) same h.rest;
    crash = crash_from holds moment left_since images b p list old mid new same before says has names funcs h.crash;
    marked = marked_from holds moment left_since images b p list old mid new same before says has names funcs h.marked;
    durable = λ done. rests_then holds moment left_since images old mid new same before (h.durable done);
  }

  -- one that has to start afresh after calls that change no file
  pub stops_then : (old mid new : S) (result : Result Done FilesError) → holds mid ≡ holds old → LeavesAsBefore holds moment left_since images old mid
      → StopsAsBefore holds moment left_since images mid new result → StopsAsBefore holds moment left_since images old new result
  stops_then old mid new result same before h = record {
    stopped = subst (λ m. IfOk result (IsAsBefore m (holds new))) same h.stopped;
    still = still_ok holds moment left_since images old mid new result same before h.still;
  }

-- ---- the tasks that were started

pub starts_none : (most : ℕ) (old : List Task) → StartsFew most old old
starts_none most old = record { started = started_none old; few = omega arith }

pub starts_room : (n most : ℕ) (old new : List Task) → StartsFew n old new → n ≤ most → StartsFew most old new
starts_room n most old new h l = record { started = h.started; few = omega (arith, l, h.few) }

-- what the search takes for an evaluation
pub ruleset starts = (starts_none, starts_room)

-- of a clean build, whatever its report tells as the cause
pub tells_afresh : (old new : List Task) (r q : Report) (cause : Option Cause) → q ≡ record r { fresh = cause }
    → ReportsStarted {E = BuildError} old new (Ok r) → TellsRuns 50000 old new (Ok q)
tells_afresh old new r q cause is h = record {
  ran = subst (λ (x : Report). new ≡ old ++ x.ran.items) (sym is) h.ran;
  few = h.few;
  encodable = subst (λ (x : Report). All IsEncodableTask x.ran.items) (sym is) h.encodable;
}

-- what a report tells of them
pub reported_once : (old new : List Task) (done : Done) (report : Box Report Global) (r : Report) → done ≡ Reported report → r ≡ report.value
    → Reports old new done → length new ≤ length old + 50000 → TellsRunsOnce old new (Ok r)
reported_once old new done report r is same h few =
    let told : (new ≡ old ++ report.value.ran.items) × All IsEncodableTask report.value.ran.items = subst (Reports old new) is h in
    record {
      ran = subst (λ (x : Report). new ≡ old ++ x.ran.items) (sym same) told.0;
      few = few_twice old new few;
      once = λ none. few;
      encodable = subst (λ (x : Report). All IsEncodableTask x.ran.items) (sym same) told.1;
    }

-- of a build that started afresh after some
again_ran : (n : ℕ) (old mid new : List Task) (result : Result Report BuildError) → n ≡ length old → Started old mid
    → IfOk result (λ r. (more : List Task) × (new ≡ mid ++ more)) → IfOk result (λ r. r.ran.items ≡ drop n new) → IfOk result (λ r. new ≡ old ++ r.ran.items)
again_ran n old mid new (Err e) at first grows behind = tt
again_ran n old mid new (Ok r) at first grows behind =
    let all : new ≡ old ++ (first.gained ++ grows.0) =
    grows.1 ∙ ap (λ (ts : List Task). ts ++ grows.0) first.is ∙ append_assoc old first.gained grows.0 in
    let rest : drop n new ≡ first.gained ++ grows.0 =
    ap (λ k. drop k new) at ∙ ap (drop (length old)) all ∙ drop-append_seam old (first.gained ++ grows.0) in
    all ∙ ap (λ (ts : List Task). old ++ ts) (sym (behind ∙ rest))

pub again_once : (n : ℕ) (old mid new : List Task) (done : Done) (stop : Box Stop Global) (result : Result Report BuildError) → n ≡ length old
    → done ≡ Stopped stop → Reports old mid done → length mid ≤ length old + 50000 → TellsAgain stop.value.cause n mid new result
    → TellsRunsOnce old new result
again_once n old mid new done stop result at is first few again = record {
  ran = again_ran n old mid new result at (subst (Reports old mid) is first) again.grows again.ran;
  few = few_both old mid new few again.few;
  once = few_again old mid new stop.value.cause result few again.few again.fresh;
  encodable = again.encodable;
}

-- more were started
pub grows_by : (old new ran : List Task) (result : Result Report BuildError) → new ≡ old ++ ran
    → IfOk result (λ r. (more : List Task) × (new ≡ old ++ more))
grows_by old new ran (Ok r) is = (ran, is)
grows_by old new ran (Err e) is = tt

-- ---- the report

-- one that was made before a call that hands it on
pub tells_then : (v : Verdict) (tasks : Vec Task Global) (report : Box Report Global) (result : Result (Box Report Global) FilesError)
    → report.value.verdict ≡ v → report.value.fresh ≡ None → report.value.ran ≡ tasks → IfOk result (λ r. r ≡ report) → TellsVerdict v tasks result
tells_then v tasks report (Ok r) verdict fresh ran is = record {
  verdict = ap (λ (x : Box Report Global). x.value.verdict) is ∙ verdict;
  fresh = ap (λ (x : Box Report Global). x.value.fresh) is ∙ fresh;
  ran = ap (λ (x : Box Report Global). x.value.ran) is ∙ ran;
}
tells_then v tasks report (Err e) verdict fresh ran is = record { verdict = tt; fresh = tt; ran = tt }

-- by the verdict of what was made
pub tells_made : (b : Built) (v : Verdict) (tasks : Vec Task Global) (result : Result (Box Report Global) FilesError) → b.verdict ≡ v
    → TellsVerdict v tasks result → TellsVerdict b.verdict tasks result
tells_made b v tasks result is h = subst (λ (x : Verdict). TellsVerdict x tasks result) (sym is) h
