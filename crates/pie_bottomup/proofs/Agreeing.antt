-- The tables, the walk, the tasks that wait and the roots agree after each step.
use Rattle.std.proofs.Common.{◌≡◌, ◌≢◌, ℕ, ◌<◌, ◌+◌, true, false, List, [], ◌∷◌, ◌++◌, Some, length, take, get_or, sym, subst}
use Rattle.std.specs.Prelude.{slice_get}
use Rattle.std.specs.List.{All}
use Rattle.std.proofs.lemmas.List.Elements.{All-weaker, All-push, All-pop, All-more}
use Rattle.pie_value.specs.declared.task.Task.{Task}
use Rattle.pie_record.specs.declared.records.Records.{Records}
use Rattle.pie_record.specs.declared.task_record.TaskRecord.{TaskRecord}
use Rattle.pie_record.specs.inner.Records.{record_of}
use Rattle.pie_walk.specs.declared.marks.Mark.{Mark}
use Rattle.pie_walk.specs.declared.marks.Mark.TheVariants.{New}
use Rattle.pie_walk.specs.Marks.{mark_of, IsSettled, MarksRise}
use Rattle.pie_walk.specs.States.{WalkState, with_one_more}
use Rattle.pie_running.specs.inner.Noted.{Noted, tasks_on}
use Rattle.pie_frames.specs.declared.parked.Parked.{Parked}
use Rattle.pie_results.specs.inner.Failures.{is_done}
use Rattle.pie_bottomup.specs.declared.plan.Plan.{Plan}
use Rattle.pie_bottomup.specs.inner.Recorded.{HasOutput, HasEnded, HasValue, IsMet, GoesOn, Ends, SameBut}
use Rattle.pie_bottomup.specs.inner.Running.{IsKnown, IsNoted, IsCaller, Agree}
use Rattle.pie_bottomup.proofs.Going.{recorded_on, known_on, ended_on, met_on}
use Rattle.pie_bottomup.proofs.Growing.{named_more, all_named_more, recorded_more, known_more, met_more, ended_more}
use Rattle.pie_bottomup.proofs.Closing.{IsEnd, IsStillCaller, recorded_ended, known_ended, ended_stays}

-- ---- the walk goes on

pub noted_on : (p : Plan) (names : List Task) (records : Records) (old new : List Mark) → MarksRise old new → (n : Noted) → IsNoted p names records old n
    → IsNoted p names records new n
noted_on p names records old new rise n is = record {
  task = is.task;
  known = is.known;
  needs = is.needs;
  ended = All-weaker (HasEnded records old) (HasEnded records new) (ended_on records old new rise) n.needs is.ended;
}

pub caller_on : (p : Plan) (names : List Task) (records : Records) (old new : List Mark) → MarksRise old new → (c : Parked) → IsCaller p names records old c
    → IsCaller p names records new c
caller_on p names records old new rise c is = record { noted = noted_on p names records old new rise c.caller.waiting.notes is.noted; required = is.required }

pub agree_on : (p : Plan) (names : List Task) (records : Records) (old new : WalkState) (parked : List Parked) (at : ℕ) → GoesOn old new
    → Agree p names records old parked at → Agree p names records new parked at
agree_on p names records old new parked at on agree = record {
  recorded = recorded_on names records old new on agree.recorded;
  callers = All-weaker (IsCaller p names records old.marks) (IsCaller p names records new.marks) (caller_on p names records old.marks new.marks on.rise)
      parked agree.callers;
  met = All-weaker (IsMet names old.marks) (IsMet names new.marks) (met_on names old.marks new.marks on.rise) (take at p.roots.items) agree.met;
  known = known_on (IsKnown p) names records old new on agree.known;
}

-- one more waits
pub agree_parked : (p : Plan) (names : List Task) (records : Records) (w : WalkState) (old new : List Parked) (c : Parked) (at : ℕ) → new ≡ old ++ c ∷ []
    → IsCaller p names records w.marks c → Agree p names records w old at → Agree p names records w new at
agree_parked p names records w old new c at e is agree = record {
  recorded = agree.recorded;
  callers = subst (All (IsCaller p names records w.marks)) (sym e) (All-push (IsCaller p names records w.marks) old c agree.callers is);
  met = agree.met;
  known = agree.known;
}

-- the newest waits no longer
pub agree_unparked : (p : Plan) (names : List Task) (records : Records) (w : WalkState) (old new : List Parked) (c : Parked) (at : ℕ) → old ≡ new ++ c ∷ []
    → Agree p names records w old at → Agree p names records w new at × IsCaller p names records w.marks c
agree_unparked p names records w old new c at e agree =
    let each = All-pop (IsCaller p names records w.marks) old new (Some c) e agree.callers in (
      record { recorded = agree.recorded; callers = each.0; met = agree.met; known = agree.known },
      each.1,
    )

-- one more root was begun
pub agree_begun : (p : Plan) (names : List Task) (records : Records) (w : WalkState) (parked : List Parked) (at number : ℕ) (root : Task)
    → at < length p.roots.items → ((d : Task) → get_or p.roots.items at d ≡ root) → slice_get names number ≡ Some root → mark_of w.marks number ≢ New
    → Agree p names records w parked at → Agree p names records w parked (at + 1)
agree_begun p names records w parked at number root l next named met agree = record {
  recorded = agree.recorded;
  callers = agree.callers;
  met = All-more (IsMet names w.marks) p.roots.items at root l agree.met
      (subst (IsMet names w.marks) (sym (next root)) (record { number = number; named = named; met = met }));
  known = agree.known;
}

-- ---- one task more

pub noted_more : (p : Plan) (names : List Task) (t : Task) (records : Records) (marks : List Mark) (n : Noted) → IsNoted p names records marks n
    → IsNoted p (names ++ t ∷ []) records (marks ++ New ∷ []) n
noted_more p names t records marks n is = record {
  task = named_more names t n.task n.number is.task;
  known = is.known;
  needs = all_named_more names t n.needs (tasks_on n.deps) is.needs;
  ended = All-weaker (HasEnded records marks) (HasEnded records (marks ++ New ∷ [])) (ended_more records marks) n.needs is.ended;
}

caller_more : (p : Plan) (names : List Task) (t : Task) (records : Records) (marks : List Mark) (c : Parked) → IsCaller p names records marks c
    → IsCaller p (names ++ t ∷ []) records (marks ++ New ∷ []) c
caller_more p names t records marks c is = record {
  noted = noted_more p names t records marks c.caller.waiting.notes is.noted;
  required = named_more names t c.caller.required c.callee.0 is.required;
}

pub agree_more : (p : Plan) (names : List Task) (t : Task) (records : Records) (w : WalkState) (parked : List Parked) (at : ℕ)
    → length w.scheduled ≡ length w.rows → ((n : ℕ) → HasOutput records n → n < length names) → Agree p names records w parked at
    → Agree p (names ++ t ∷ []) records (with_one_more w) parked at
agree_more p names t records w parked at sized inside agree = record {
  recorded = recorded_more names t records w sized agree.recorded;
  callers = All-weaker (IsCaller p names records w.marks) (IsCaller p (names ++ t ∷ []) records (w.marks ++ New ∷ [])) (caller_more p names t records w.marks)
      parked agree.callers;
  met = All-weaker (IsMet names w.marks) (IsMet (names ++ t ∷ []) (w.marks ++ New ∷ [])) (met_more names t w.marks) (take at p.roots.items) agree.met;
  known = known_more (IsKnown p) names t records w inside agree.known;
}

-- ---- a task that was taken is settled

noted_ended : (p : Plan) (names : List Task) (records now : Records) (old new : WalkState) (task : ℕ) → Ends old new task → SameBut records now task
    → (IsSettled old.marks task → ⊥) → (n : Noted) → IsNoted p names records old.marks n → IsNoted p names now new.marks n
noted_ended p names records now old new task ends same unsettled n is = record {
  task = is.task;
  known = is.known;
  needs = is.needs;
  ended = All-weaker (HasEnded records old.marks) (HasEnded now new.marks) (ended_stays records now old new task ends same unsettled) n.needs is.ended;
}

caller_ended : (p : Plan) (names : List Task) (records now : Records) (old new : WalkState) (task : ℕ) → Ends old new task → SameBut records now task
    → (IsSettled old.marks task → ⊥) → (c : Parked) → IsCaller p names records old.marks c → IsCaller p names now new.marks c
caller_ended p names records now old new task ends same unsettled c is = record {
  noted = noted_ended p names records now old new task ends same unsettled c.caller.waiting.notes is.noted;
  required = is.required;
}

-- with a record of its own, or with the one that it had
pub agree_ended : (p : Plan) (names : List Task) (records now : Records) (old new : WalkState) (parked : List Parked) (at task : ℕ) (r : TaskRecord)
    → Ends old new task → SameBut records now task → (IsSettled old.marks task → ⊥) → record_of now task ≡ Some r → slice_get names task ≡ Some r.task
    → HasValue r → (is_done r.outcome ≡ true → IsEnd names now new task r) → (is_done r.outcome ≡ true → IsKnown p r.task)
    → (is_done r.outcome ≡ false → HasOutput records task → (n : ℕ) → IsStillCaller old n task → ⊥)
    → Agree p names records old parked at → Agree p names now new parked at
agree_ended p names records now old new parked at task r ends same unsettled kept named value end known callers agree = record {
  recorded = recorded_ended names records now old new task r ends same kept value end callers agree.recorded;
  callers = All-weaker (IsCaller p names records old.marks) (IsCaller p names now new.marks)
      (caller_ended p names records now old new task ends same unsettled) parked agree.callers;
  met = All-weaker (IsMet names old.marks) (IsMet names new.marks) (met_on names old.marks new.marks ends.rise) (take at p.roots.items) agree.met;
  known = known_ended (IsKnown p) names records now old new task r ends same kept named known agree.known;
}
