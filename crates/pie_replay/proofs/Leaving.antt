-- What a crash leaves of a script, step by step.
use Rattle.std.proofs.Common.{◌≡◌, ◌⊎◌, ℕ, List, [], ◌∷◌, ◌++◌, sym, refl, subst, inl, inr, ⊎_elim}
use Rattle.std.specs.Prelude.{Option, None, Some, IfSome}
use Rattle.pie_commit.specs.Outcomes.{IsAtRest, LeavesFromRest}
use Rattle.pie_files.specs.Directory.{Directory}
use Rattle.pie_files.specs.declared.files.Call.{Call}
use Rattle.pie_files.specs.Images.{Elapses, MayLeave, MayRemove, MayWrite, Only, Stays}
use Rattle.pie_files.specs.Reading.{Leaves, LeavesAsBefore}
use Rattle.pie_files.proofs.Reading.{if_always, if_each, if_two, in_turn, none_before, read_before, starts, weaker}
use Rattle.pie_incremental.specs.Crashes.{MayStop}
use Rattle.pie_incremental.specs.Asked.{AsksRight}
use Rattle.pie_report.specs.declared.report.Report.{Report}
use Rattle.pie_script.specs.Steps.{Plain, PutFile, DelFile, Name, BuildNow}
use Rattle.pie_replay.specs.Crashes.{LeavesNow, LeavesSince, StepLeaves}
use Rattle.pie_replay.specs.Looks.{LooksRight}
use Rattle.pie_replay.specs.Trace.{HasBuilt, HasDeleted, HasPut, Trace}
use Rattle.pie_replay.specs.Trace.Trace.{nothing, put, deleted, named, built}
use Rattle.pie_replay.specs.inner.Goes.{LeavesGoing, RestsAfter}
use Rattle.pie_replay.proofs.Keeping.{told_since}

-- what is said of a directory that is told is said of some directory that is told
with_told : (o : Option Directory) (P : Directory → Type 0) → IfSome o P → IfSome o (λ d. (e : Directory) × (o ≡ Some e) × P e)
with_told None P h = tt
with_told (Some d) P h = (d, refl, h)

-- what holds where a later directory is told holds where the first one is
told_on : (start mid : Option Directory) (A : Type 0) → ((d : Directory) → start ≡ Some d → (e : Directory) × (mid ≡ Some e)) → IfSome mid (λ e. A)
    → IfSome start (λ d. A)
told_on None mid A told h = tt
told_on (Some d) mid A told h = let t = told d refl in subst (λ o. IfSome o (λ e. A)) t.1 h

if_three : (A B C D : Type 0) (o : Option Directory) → (A → B → C → D) → IfSome o (λ d. A) → IfSome o (λ d. B) → IfSome o (λ d. C) → IfSome o (λ d. D)
if_three A B C D None f a b c = tt
if_three A B C D (Some d) f a b c = f a b c

module _ {S : Type 0} (moment : S → ℕ) (left_since : S → ℕ → Directory → Type 0) (images : S → Directory → Type 0) where
  -- ---- of one call

  edited_now : (step : Directory → Directory → Type 0) (N : Directory → Type 0) (mid now : S) → ((c : Directory) → images mid c → N c)
      → Elapses step (moment mid) (moment now) (left_since mid) (left_since now) (images mid) (images now) → (c : Directory) → images now c
      → (d : Directory) × N d × step d c
  edited_now step N mid now here time c is = let from = time.follows c is in (from.0, here from.0 from.1, from.2)

  edited : (step : Directory → Directory → Type 0) (L N : Directory → Type 0) (start mid now : S) → Leaves moment left_since images L start mid
      → ((c : Directory) → images mid c → N c) → Elapses step (moment mid) (moment now) (left_since mid) (left_since now) (images mid) (images now)
      → Leaves moment left_since images (λ c. L c ⊎ ((d : Directory) × N d × step d c)) start now
  edited step L N start mid now so_far here time =
      let P : Directory → Type 0 = λ c. L c ⊎ ((d : Directory) × N d × step d c) in
      let fresh : (c : Directory) → images now c → P c = λ c is. inr (edited_now step N mid now here time c is) in
      in_turn moment left_since images P start mid now (weaker moment left_since images L P start mid (λ c is. inl is) so_far) (record {
        now = fresh;
        later = time.later;
        since = λ t c le left. ⊎_elim (λ past. inl past) (λ is. inr (fresh c is)) (time.nothing_else t c le left);
      })

module _ {S : Type 0} (holds : S → Option Directory) (moment : S → ℕ) (left_since : S → ℕ → Directory → Type 0) (images : S → Directory → Type 0) where
  -- ---- of one build

  -- what could be left before it makes it last
  abbrev Building : List (List ℕ) → S → S → Type 0
  Building names old new = IfSome (holds old) (λ d. Leaves moment left_since images (λ c. images old c ⊎ MayStop names d c) old new)

  -- it didn't begin
  pub not_begun : (names : List (List ℕ)) (old new : S) → LeavesAsBefore holds moment left_since images old new → Building names old new
  not_begun names old new h = if_each
      (λ d. Leaves moment left_since images (images old) old new)
      (λ d. Leaves moment left_since images (λ c. images old c ⊎ MayStop names d c) old new) (holds old)
      (λ d a. weaker moment left_since images (images old) (λ c. images old c ⊎ MayStop names d c) old new (λ c is. inl is) a) h

  pub none_begun : (names : List (List ℕ)) (old : S) → Building names old old
  none_begun names old = not_begun names old old (none_before holds moment left_since images old)

  pub not_synced : (names : List (List ℕ)) (old new : S) → MayLeave holds moment left_since images Stays old new → Building names old new
  not_synced names old new h = not_begun names old new (read_before holds moment left_since images old new h)

  -- it began once all was made to last
  pub from_rest : (names : List (List ℕ)) (old mid new : S) → holds mid ≡ holds old → MayLeave holds moment left_since images Stays old mid
      → IfSome (holds old) (λ d. Only d (images mid)) → LeavesFromRest holds moment left_since images (MayStop names) mid new → Building names old new
  from_rest names old mid new same first rest h = if_two
      (λ d. Leaves moment left_since images (images old) old mid)
      (λ d. Leaves moment left_since images (MayStop names d) mid new)
      (λ d. Leaves moment left_since images (λ c. images old c ⊎ MayStop names d c) old new) (holds old)
      (λ d a b.
      let P : Directory → Type 0 = λ c. images old c ⊎ MayStop names d c in
      in_turn moment left_since images P old mid new (weaker moment left_since images (images old) P old mid (λ c is. inl is) a)
      (weaker moment left_since images (MayStop names d) P mid new (λ c is. inr is) b))
      (read_before holds moment left_since images old mid first)
      (if_two (λ d. Only d (images mid)) (λ d. Only d (images mid) → Leaves moment left_since images (MayStop names d) mid new)
      (λ d. Leaves moment left_since images (MayStop names d) mid new) (holds old) (λ d only f. f only) rest
      (subst (λ o. IfSome o (λ d. Only d (images mid) → Leaves moment left_since images (MayStop names d) mid new)) same h))

  pub ends_at_rest : (old mid new : S) → holds mid ≡ holds old → IfSome (holds old) (λ d. Only d (images mid))
      → IfSome (holds mid) (λ d. Only d (images mid) → IsAtRest (holds new) (images new)) → IfSome (holds old) (λ d. IsAtRest (holds new) (images new))
  ends_at_rest old mid new same rest h = if_two (λ d. Only d (images mid)) (λ d. Only d (images mid) → IsAtRest (holds new) (images new))
      (λ d. IsAtRest (holds new) (images new)) (holds old) (λ d only f. f only) rest
      (subst (λ o. IfSome o (λ d. Only d (images mid) → IsAtRest (holds new) (images new))) same h)

module _ {S : Type 0} (holds : S → Option Directory) (moment : S → ℕ) (left_since : S → ℕ → Directory → Type 0) (images : S → Directory → Type 0)
    (asked : S → Option (List Call)) where
  -- ---- of a trace

  -- a trace, what a crash leaves of it, and where its builds looked
  pub record TracedTo (start : S) (steps : List Plain) (names : List (List ℕ)) (reports : List Report) (now : S) : Type 0 where
    pub trace : Trace holds start steps names reports now
    pub since : IfSome (holds start) (λ d. Leaves moment left_since images (LeavesSince holds images start trace) start now)
    pub ended : IfSome (holds start) (λ d. (c : Directory) → images now c → LeavesNow holds images start trace c)
    pub looks : LooksRight holds asked start trace

  pub nothing_done : (start : S) → TracedTo start [] [] [] start
  nothing_done start = record {
    trace = nothing;
    since = if_always (holds start) (starts moment left_since images (images start) start (λ c is. is));
    ended = if_always (holds start) (λ c is. is);
    looks = tt {0};
  }

  -- what a crash leaves since the script began, with one step more, done or not
  abbrev Further : (start : S) {steps : List Plain} {names : List (List ℕ)} {reports : List Report} {mid : S} → Trace holds start steps names reports mid
      → Plain → S → Type 0
  Further start t step now = IfSome (holds start) (λ d. Leaves moment left_since images
      (λ c. LeavesSince holds images start t c ⊎ StepLeaves holds images start t step c) start now)

  edits_further : {steps : List Plain} {names : List (List ℕ)} {reports : List Report} {start mid : S} (edit : Directory → Directory → Type 0)
      → (w : TracedTo start steps names reports mid) → (now : S) → MayLeave holds moment left_since images edit mid now
      → IfSome (holds start) (λ d. Leaves moment left_since images
      (λ c. LeavesSince holds images start w.trace c ⊎ ((d : Directory) × LeavesNow holds images start w.trace d × edit d c)) start now)
  edits_further {start = start} {mid = mid} edit w now h =
      let L : Directory → Type 0 = LeavesSince holds images start w.trace in
      let N : Directory → Type 0 = LeavesNow holds images start w.trace in
      let E : Type 0 = Elapses edit (moment mid) (moment now) (left_since mid) (left_since now) (images mid) (images now) in
      if_three (Leaves moment left_since images L start mid) ((c : Directory) → images mid c → N c) E
      (Leaves moment left_since images (λ c. L c ⊎ ((d : Directory) × N d × edit d c)) start now) (holds start)
      (λ a here time. edited moment left_since images edit L N start mid now a here time) w.since w.ended
      (told_on (holds start) (holds mid) E (told_since holds w.trace) h)

  edits_now : {steps : List Plain} {names : List (List ℕ)} {reports : List Report} {start mid : S} (edit : Directory → Directory → Type 0)
      → (w : TracedTo start steps names reports mid) → (now : S) → MayLeave holds moment left_since images edit mid now
      → IfSome (holds start) (λ d. (c : Directory) → images now c → (d : Directory) × LeavesNow holds images start w.trace d × edit d c)
  edits_now {start = start} {mid = mid} edit w now h =
      let N : Directory → Type 0 = LeavesNow holds images start w.trace in
      let E : Type 0 = Elapses edit (moment mid) (moment now) (left_since mid) (left_since now) (images mid) (images now) in
      if_two (λ d. (c : Directory) → images mid c → N c) (λ d. E) (λ d. (c : Directory) → images now c → (d : Directory) × N d × edit d c) (holds start)
      (λ d here time. edited_now moment left_since images edit N mid now here time) w.ended (told_on (holds start) (holds mid) E (told_since holds w.trace) h)

  builds_further : {steps : List Plain} {names : List (List ℕ)} {reports : List Report} {start mid : S} (w : TracedTo start steps names reports mid) (now : S)
      → Building holds moment left_since images names mid now → Further start w.trace BuildNow now
  builds_further {names = names} {start = start} {mid = mid} w now h =
      let L : Directory → Type 0 = LeavesSince holds images start w.trace in
      let P : Directory → Type 0 = λ c. L c ⊎ StepLeaves holds images start w.trace BuildNow c in
      let Q : Directory → Directory → Type 0 = λ d c. images mid c ⊎ MayStop names d c in
      let B : Type 0 = (e : Directory) × (holds mid ≡ Some e) × Leaves moment left_since images (Q e) mid now in
      if_two (λ d. Leaves moment left_since images L start mid) (λ d. B) (λ d. Leaves moment left_since images P start now) (holds start)
      (λ d a b. in_turn moment left_since images P start mid now (weaker moment left_since images L P start mid (λ c is. inl is) a)
      (weaker moment left_since images (Q b.0) P mid now
      (λ c is. ⊎_elim (λ before. inl (a.now c before)) (λ stop. inr (b.0, b.1, stop)) is) b.2))
      w.since (told_on (holds start) (holds mid) B (told_since holds w.trace) (with_told (holds mid) (λ d. Leaves moment left_since images (Q d) mid now) h))

  stays_further : {steps : List Plain} {names : List (List ℕ)} {reports : List Report} {start mid : S} (w : TracedTo start steps names reports mid) (now : S)
      (path : List ℕ) → now ≡ mid → Further start w.trace (Name path) now
  stays_further {start = start} {mid = mid} w now path same =
      subst (λ s. Further start w.trace (Name path) s) (sym same) (if_each
      (λ d. Leaves moment left_since images (LeavesSince holds images start w.trace) start mid)
      (λ d. Leaves moment left_since images (λ c. LeavesSince holds images start w.trace c ⊎ ⊥) start mid) (holds start)
      (λ d a. weaker moment left_since images (LeavesSince holds images start w.trace) (λ c. LeavesSince holds images start w.trace c ⊎ ⊥) start mid
      (λ c is. inl is) a) w.since)

  pub step_further : {steps : List Plain} {names : List (List ℕ)} {reports : List Report} {start mid : S} (w : TracedTo start steps names reports mid) (now : S)
      (step : Plain) → LeavesGoing holds moment left_since images step names mid now → Further start w.trace step now
  step_further w now (PutFile path bytes) h = edits_further (MayWrite path) w now h
  step_further w now (DelFile path) h = edits_further (MayRemove path) w now h
  step_further w now (Name path) h = stays_further w now path h
  step_further w now BuildNow h = builds_further w now h

  -- ---- steps that were done

  pub put_on : {steps : List Plain} {names : List (List ℕ)} {reports : List Report} {start mid : S} (path bytes : List ℕ)
      → (w : TracedTo start steps names reports mid) → (now : S) → HasPut holds path bytes mid now
      → LeavesGoing holds moment left_since images (PutFile path bytes) names mid now → TracedTo start (steps ++ PutFile path bytes ∷ []) names reports now
  put_on path bytes w now h leaves = record {
    trace = put path bytes w.trace h;
    since = edits_further (MayWrite path) w now leaves;
    ended = edits_now (MayWrite path) w now leaves;
    looks = w.looks;
  }

  pub deleted_on : {steps : List Plain} {names : List (List ℕ)} {reports : List Report} {start mid : S} (path : List ℕ)
      → (w : TracedTo start steps names reports mid) → (now : S) → HasDeleted holds path mid now
      → LeavesGoing holds moment left_since images (DelFile path) names mid now → TracedTo start (steps ++ DelFile path ∷ []) names reports now
  deleted_on path w now h leaves = record {
    trace = deleted path w.trace h;
    since = edits_further (MayRemove path) w now leaves;
    ended = edits_now (MayRemove path) w now leaves;
    looks = w.looks;
  }

  pub named_on : {steps : List Plain} {names : List (List ℕ)} {reports : List Report} {start mid : S} (path : List ℕ)
      → (w : TracedTo start steps names reports mid) → TracedTo start (steps ++ Name path ∷ []) (names ++ path ∷ []) reports mid
  named_on path w = record { trace = named path w.trace; since = w.since; ended = w.ended; looks = w.looks }

  pub built_on : {steps : List Plain} {names : List (List ℕ)} {reports : List Report} {start mid : S} (report : Report)
      → (w : TracedTo start steps names reports mid) → (now : S) → HasBuilt holds names report mid now
      → IfSome (holds mid) (λ d. AsksRight names d report (asked mid) (asked now))
      → LeavesGoing holds moment left_since images BuildNow names mid now → RestsAfter holds images BuildNow mid now
      → TracedTo start (steps ++ BuildNow ∷ []) [] (reports ++ report ∷ []) now
  built_on {start = start} {mid = mid} report w now h asks leaves rests = record {
    trace = built report w.trace h;
    since = builds_further w now leaves;
    ended = if_each (λ d. IsAtRest (holds now) (images now)) (λ d. (c : Directory) → images now c → holds now ≡ Some c) (holds start)
        (λ d rest c is. subst (λ x. holds now ≡ Some x) (sym (rest.2 c is)) rest.1)
        (told_on (holds start) (holds mid) (IsAtRest (holds now) (images now)) (told_since holds w.trace) rests);
    looks = (w.looks, asks);
  }
