-- What the steps of a script come to, and what is told of them.
use Rattle.std.proofs.Common.{◌≡◌, ◌≢◌, ◌+◌, ◌-◌, ◌<◌, ◌≤◌, ℕ, Bool, true, List, [], ◌∷◌, ◌++◌, length, take, get_or, suc, arith, inl, inr, refl, sym, ap, subst, ◌∙◌}
use Rattle.std.specs.Prelude.{All, Option, Some, None, Result, Ok, Err}
use Rattle.std.specs.List.{slice_get}
use Rattle.std.proofs.lemmas.Bool.{false≢true}
use Rattle.std.proofs.lemmas.List.{append_assoc, append-nil, length-take-le, take_more}
use Rattle.std.proofs.Math.Seq.{take-length}
use Rattle.std.proofs.lemmas.List.Elements.{All-push}
use Rattle.pie_base.specs.declared.status.Status.{Status}
use Rattle.pie_base.specs.declared.status.Status.TheVariants as status
use Rattle.pie_build.specs.inner.Rebuilt.{Tells}
use Rattle.pie_files.specs.Directory.{Directory}
use Rattle.pie_files.specs.declared.files.Call.{Call}
use Rattle.pie_files.specs.Faults.{Rose}
use Rattle.pie_project.specs.declared.fault.BuildError.{BuildError}
use Rattle.pie_project.specs.declared.fault.BuildError.TheVariants as errors
use Rattle.pie_project.specs.Refusals.{OfPipeline, OfRoots, plain}
use Rattle.pie_replay.specs.Looks.{LooksRight}
use Rattle.pie_replay.specs.Replays.{Replays, Stopped, SurvivesStop, Went, WentLooking, WentSurviving}
use Rattle.pie_replay.specs.Trace.{Trace}
use Rattle.pie_replay.specs.Trace.Trace.{nothing, put, deleted, named, built}
use Rattle.pie_report.specs.declared.report.Report.{Report}
use Rattle.pie_report.specs.Refused.{refusal_line}
use Rattle.pie_script.specs.Steps.{Plain}
use Rattle.pie_script_laws.proofs.Playing.{traces_are_clean}
use Rattle.pie_value.specs.declared.task.Task.{Task}
use Rattle.pie_value.specs.declared.verdict.Verdict.{Verdict}
use Rattle.pie_value.specs.declared.verdict.Verdict.TheVariants as verdicts
use Rattle.pie_cli.specs.Fresh.{verdict_status}
use Rattle.pie_cli.specs.Replay.{ArePrinted, HasFailed, HasStopped, ReplaySays, StepsLeave, heading, last_status}
use Rattle.pie_cli.specs.Run.{files_fault_text, is_answer, is_told, GainsPrefix, GainsSome, Shows}
use Rattle.pie_cli.specs.inner.Played.{Adds, IsBefore, IsTellable, PlaySays, Plays, TellsScript}
use Rattle.pie_cli.proofs.Statuses.{answer_is_told, fault_is_no_answer, memory_is_no_answer}

-- ---- the texts of reports

-- one report more
pub printed_more : (json : Bool) (k : ℕ) (reports : List Report) (r : Report) (old new : List ℕ) → ArePrinted json k reports old
    → Adds json (k + length reports) r old new → ArePrinted json k (reports ++ r ∷ []) new
printed_more json k [] r old new none adds =
    let here : k + 0 ≡ k = omega arith in (
      adds.0,
      [],
      adds.1,
      refl,
      adds.2 ∙ ap (λ (t : List ℕ). t ++ (heading json (k + 0) ++ adds.0)) none
          ∙ ap (λ (t : List ℕ). heading json (k + 0) ++ t) (sym (append-nil adds.0)) ∙ ap (λ n. heading json n ++ (adds.0 ++ [])) here,
    )
printed_more json k (first ∷ reports) r old new printed adds =
    let one = heading json (k + suc (length reports)) ++ adds.0 in
    let on : k + suc (length reports) ≡ k + 1 + length reports = omega arith in
    let more : ArePrinted json (k + 1) (reports ++ r ∷ []) (printed.1 ++ one) =
    printed_more json (k + 1) reports r printed.1 (printed.1 ++ one) printed.3
    (adds.0, adds.1, ap (λ n. printed.1 ++ (heading json n ++ adds.0)) on) in (
      printed.0,
      printed.1 ++ one,
      printed.2,
      more,
      adds.2 ∙ ap (λ (t : List ℕ). t ++ one) printed.4 ∙ append_assoc (heading json k) (printed.0 ++ printed.1) one
          ∙ ap (λ (t : List ℕ). heading json k ++ t) (append_assoc printed.0 printed.1 one),
    )

-- the same over a list of reports
pub one_printed : (json : Bool) (reports : List Report) (i : ℕ) (r : Report) (old new : List ℕ) → i < length reports → r ≡ get_or reports i r
    → ArePrinted json 1 (take i reports) old → Adds json (i + 1) r old new → ArePrinted json 1 (take (i + 1) reports) new
one_printed json reports i r old new inside is before adds =
    let front = take i reports in
    let len : length front ≡ i = length-take-le i reports (omega (arith, inside)) in
    let more : take (i + 1) reports ≡ front ++ r ∷ [] = take_more reports i r inside ∙ ap (λ x. front ++ x ∷ []) (sym is) in
    let on : i + 1 ≡ 1 + length front = omega (arith, len) in
    subst (λ (rs : List Report). ArePrinted json 1 rs new) (sym more)
    (printed_more json 1 front r old new before (subst (λ n. Adds json n r old new) on adds))

pub all_printed : (json : Bool) (reports : List Report) (i : ℕ) (text : List ℕ) → length reports ≤ i → i ≤ length reports
    → ArePrinted json 1 (take i reports) text → ArePrinted json 1 reports text
all_printed json reports i text end inside printed =
    let at : i ≡ length reports = omega (arith, end, inside) in
    subst (λ (rs : List Report). ArePrinted json 1 rs text) (ap (λ n. take n reports) at ∙ take-length reports) printed

-- ---- the last status

verdict_answers : (v : Verdict) → is_answer (verdict_status v) ≡ true
verdict_answers verdicts.Accepted = refl
verdict_answers (verdicts.Refused refusal) = refl

pub last_answers : (reports : List Report) → is_answer (last_status reports) ≡ true
last_answers [] = refl
last_answers (r ∷ []) = verdict_answers r.verdict
last_answers (r ∷ next ∷ reports) = last_answers (next ∷ reports)

last_at : (first : Report) (reports : List Report) (r : Report) → Some r ≡ slice_get (first ∷ reports) (length reports)
    → verdict_status r.verdict ≡ last_status (first ∷ reports)
last_at first [] r is = let same : r ≡ first = cc in ap (λ (x : Report). verdict_status x.verdict) same
last_at first (next ∷ reports) r is = last_at next reports r is

one_less : (n : ℕ) → suc n - 1 ≡ n
one_less n = omega arith

pub last_of : (reports : List Report) (r : Report) → Some r ≡ slice_get reports (length reports - 1) → verdict_status r.verdict ≡ last_status reports
last_of [] r is = absurd (cc)
last_of (first ∷ reports) r is = last_at first reports r (is ∙ ap (slice_get (first ∷ reports)) (one_less (length reports)))

never_none : (r : Report) (reports : List Report) → None ≡ slice_get (r ∷ reports) (length reports) → ⊥
never_none r [] is = absurd (cc)
never_none r (next ∷ reports) is = never_none next reports is

pub last_of_none : (reports : List Report) → None ≡ slice_get reports (length reports - 1) → status.Ok ≡ last_status reports
last_of_none [] is = refl
last_of_none (r ∷ reports) is = absurd (never_none r reports (is ∙ ap (slice_get (r ∷ reports)) (one_less (length reports))))

-- ---- the tasks of reports

tellable_none : All IsTellable []
tellable_none = λ i d l. absurd (omega (arith, l))

traced_tell : {S : Type 0} (holds : S → Option Directory) (start : S) (steps : List Plain) (names : List (List ℕ)) (reports : List Report) (now : S)
    → Trace holds start steps names reports now → All IsTellable reports
traced_tell holds start _ _ _ _ nothing = tellable_none
traced_tell holds start _ _ _ _ (put path bytes t h) = traced_tell holds start _ _ _ _ t
traced_tell holds start _ _ _ _ (deleted path t h) = traced_tell holds start _ _ _ _ t
traced_tell holds start _ _ _ _ (named path t) = traced_tell holds start _ _ _ _ t
traced_tell holds start _ _ _ _ (built {reports = rs} r t h) = All-push IsTellable rs r (traced_tell holds start _ _ _ _ t) h.encodable

module _ {S : Type 0} (holds : S → Option Directory) (moment : S → ℕ) (left_since : S → ℕ → Directory → Type 0) (images : S → Directory → Type 0)
    (asked : S → Option (List Call)) where
  went_tell : {T : Type 0} (steps : List Plain) (gained : List Report) (old new : S) (result : Result T BuildError) → Went holds steps gained old new result
      → All IsTellable gained
  went_tell steps gained old new (Ok done) went = traced_tell holds old steps went.0 gained new went.1
  went_tell steps gained old new (Err e) s = traced_tell holds old s.front s.names gained s.mid s.done

  -- of a script that began with no reports
  pub replays_tell : {T : Type 0} (steps : List Plain) (old new : S) (after : List Report) (before : List Report) (runs ran : List Task)
      (result : Result T BuildError) → before ≡ [] → Replays holds moment left_since images asked steps old new before after runs ran result
      → All IsTellable after
  replays_tell steps old new after before runs ran result none r =
      subst (All IsTellable) (sym (r.appended ∙ ap (λ (rs : List Report). rs ++ r.gained) none)) (went_tell steps r.gained old new result r.went)

  stopped_so : (json : Bool) (steps : List Plain) (reports : List Report) (old new : S) (e : BuildError) (line text : List ℕ)
      → (stopped : Stopped holds steps reports e old new) → SurvivesStop holds moment left_since images steps reports e old new stopped
      → LooksRight holds asked old stopped.done → IsBefore json reports line text
      → HasStopped holds moment left_since images asked json steps old new e line text
  stopped_so json steps reports old new e line text s survives looks b = record {
    reports = reports;
    stopped = s;
    clean = traces_are_clean holds old s.front s.names reports s.mid s.done;
    looks = looks;
    crash = survives;
    earlier = b.0;
    printed = b.1;
    is = b.2;
  }

  -- what it came to is what is told
  says : {T : Type 0} (faults : S → ℕ) (json : Bool) (steps : List Plain) (old new : S) (reports : List Report) (result : Result T BuildError)
      (text : List ℕ) (ended : Status) → (went : Went holds steps reports old new result)
      → WentSurviving holds moment left_since images steps reports old new result went → WentLooking holds asked steps reports old new result went
      → Tells faults old new result
      → TellsScript json reports result text ended → PlaySays holds moment left_since images asked faults json steps old new text ended
  says faults json steps old new reports (Ok done) text ended went survives looks told tells =
      inl (
        ap is_answer tells.1 ∙ last_answers reports,
        told.steady (tt {0}),
        inl (record {
          reports = reports;
          names = went.0;
          trace = went.1;
          clean = traces_are_clean holds old steps went.0 reports new went.1;
          looks = looks;
          crash = survives;
          printed = tells.0;
          status = tells.1;
        }),
      )
  says faults json steps old new reports (Err (errors.Pipeline fault)) text ended went survives looks told tells =
      inl (
        ap is_answer tells.1,
        told.steady (tt {0}),
        inr (
          errors.Pipeline fault,
          OfPipeline (plain fault),
          refl,
          stopped_so json steps reports old new (errors.Pipeline fault) (refusal_line (OfPipeline (plain fault))) text went survives looks tells.0,
          tells.1,
        ),
      )
  says faults json steps old new reports (Err (errors.Roots reason)) text ended went survives looks told tells =
      inl (
        ap is_answer tells.1,
        told.steady (tt {0}),
        inr (
          errors.Roots reason,
          OfRoots reason,
          refl,
          stopped_so json steps reports old new (errors.Roots reason) (refusal_line (OfRoots reason)) text went survives looks tells.0,
          tells.1,
        ),
      )
  says faults json steps old new reports (Err errors.Files) text ended went survives looks told tells =
      inr (tells.1, told.cause refl, stopped_so json steps reports old new errors.Files files_fault_text text went survives looks tells.0)
  says faults json steps old new reports (Err errors.OutOfMemory) text ended went survives looks told tells = absurd tells

  pub play_says : {T : Type 0} (faults : S → ℕ) (json : Bool) (steps : List Plain) (old new : S) (before after : List Report) (runs ran : List Task)
      (result : Result T BuildError) (text : List ℕ) (ended : Status) → before ≡ []
      → Replays holds moment left_since images asked steps old new before after runs ran result
      → Tells faults old new result → TellsScript json after result text ended
      → PlaySays holds moment left_since images asked faults json steps old new text ended
  play_says {T} faults json steps old new before after runs ran result text ended none r told tells =
      let all : after ≡ r.gained = r.appended ∙ ap (λ (rs : List Report). rs ++ r.gained) none in
      says faults json steps old new r.gained result text ended r.went r.crash r.looks told
      (subst (λ (rs : List Report). TellsScript {T = T} json rs result text ended) all tells)

  -- what a crash leaves of it
  pub steps_leave : {T : Type 0} (steps : List Plain) (old new : S) (before after : List Report) (runs ran : List Task) (result : Result T BuildError)
      → Replays holds moment left_since images asked steps old new before after runs ran result → StepsLeave holds moment left_since images steps old new
  steps_leave steps old new before after runs ran (Ok done) r = (Ok (tt {0}), r.gained, r.went, r.crash)
  steps_leave steps old new before after runs ran (Err e) r = (Err e, r.gained, r.went, r.crash)

  -- a status of which the text is printed whole
  pub play_told : (faults : S → ℕ) (json : Bool) (steps : List Plain) (old new : S) (text : List ℕ) (ended : Status)
      → PlaySays holds moment left_since images asked faults json steps old new text ended → is_told ended ≡ true
  play_told faults json steps old new text ended (inl p) = answer_is_told ended p.0
  play_told faults json steps old new text ended (inr p) = ap is_told p.0

  -- ---- what was printed

  answered : (faults : S → ℕ) (json : Bool) (steps : List Plain) (old new : S) (text : List ℕ) (ended : Status) → is_answer ended ≡ true
      → PlaySays holds moment left_since images asked faults json steps old new text ended
      → (faults new ≡ faults old) × ReplaySays holds moment left_since images asked json steps old new text ended
  answered faults json steps old new text ended a (inl p) = (p.1, p.2)
  answered faults json steps old new text ended a (inr p) = absurd (fault_is_no_answer ended a p.0)

  failed : (faults : S → ℕ) (json : Bool) (steps : List Plain) (old new : S) (text : List ℕ) (ended : Status) → ended ≡ status.Files
      → PlaySays holds moment left_since images asked faults json steps old new text ended
      → Rose (faults old) (faults new) × HasFailed holds moment left_since images asked json steps old new text
  failed faults json steps old new text ended is (inl p) = absurd (fault_is_no_answer ended p.0 is)
  failed faults json steps old new text ended is (inr p) = (p.1, p.2)

  never_input : (faults : S → ℕ) (json : Bool) (steps : List Plain) (old new : S) (text : List ℕ) (ended : Status)
      → PlaySays holds moment left_since images asked faults json steps old new text ended → ended ≢ status.Input
  never_input faults json steps old new text ended (inl p) is = false≢true (subst (λ s. is_answer s ≡ true) is p.0)
  never_input faults json steps old new text ended (inr p) is = let both : status.Files ≡ status.Input = sym p.0 ∙ is in absurd (cc)

  pub play_shown : (faults : S → ℕ) (json : Bool) (steps : List Plain) (old new : S) (text : List ℕ) (told ended : Status) (held gained : Option (List ℕ))
      → PlaySays holds moment left_since images asked faults json steps old new text told → Shows held gained text told ended → GainsPrefix held gained text
      → Plays holds moment left_since images asked faults json steps old new held gained ended
  play_shown faults json steps old new text told ended held gained p shows prefix =
      let some : GainsSome (λ text. (said : Status) × PlaySays holds moment left_since images asked faults json steps old new text said) ⊥ held gained =
      inl (text, (told, p), prefix) in
      let is_files : ended ≡ status.Files → is_told ended ≡ true = λ is. ap is_told is in
      let is_input : ended ≡ status.Input → is_told ended ≡ true = λ is. ap is_told is in
      record {
        played = λ a.
            let s = shows (answer_is_told ended a) in
            let h = answered faults json steps old new text told (ap is_answer (sym s.0) ∙ a) p in
            (h.0, text, subst (λ x. ReplaySays holds moment left_since images asked json steps old new text x) (sym s.0) h.1, s.1);
        failed = λ is.
            let s = shows (is_files is) in
            let h = failed faults json steps old new text told (sym s.0 ∙ is) p in
            (h.0, text, h.1, s.1);
        printed = record { prefix = inl some; cut = λ is. some };
        no_input = λ is. never_input faults json steps old new text told p (sym (shows (is_input is)).0 ∙ is);
      }

  -- out of memory
  pub play_none : (faults : S → ℕ) (json : Bool) (steps : List Plain) (old new : S) (held : Option (List ℕ))
      → Plays holds moment left_since images asked faults json steps old new held held status.Memory
  play_none faults json steps old new held = record {
    played = λ a. absurd (memory_is_no_answer a);
    failed = λ is. absurd (cc);
    printed = record { prefix = inr refl; cut = λ is. absurd (cc) };
    no_input = λ is. absurd (cc);
  }
