-- What `replay` says of an input and of its steps.
use Rattle.std.proofs.Common.{◌≡◌, ◌⊎◌, ℕ, Bool, true, List, Option, None, Some, inl, inr, refl, sym, ◌∙◌, subst, ap, arith, rules}
use Rattle.std.specs.Prelude.{IfSome, Vec, Err}
use Rattle.std.proofs.lemmas.Bool.{false≢true}
use Rattle.std.specs.declared.alloc.Global.{Global}
use Rattle.pie_base.specs.declared.status.Status.{Status}
use Rattle.pie_base.specs.declared.status.Status.TheVariants as status
use Rattle.pie_files.specs.Directory.{Directory}
use Rattle.pie_files.specs.declared.files.Call.{Call}
use Rattle.pie_files.specs.Faults.{Rose}
use Rattle.pie_input.specs.Scripts.{AreSteps, IsBadScript}
use Rattle.pie_input.specs.inner.Answers.{IsTold, StepsRead}
use Rattle.pie_input.specs.declared.lines.LinesError.{LinesError}
use Rattle.pie_input.specs.declared.lines.LinesError.TheVariants.{Bad}
use Rattle.pie_replay.specs.Replays.{KeepsOthers}
use Rattle.pie_report.specs.Refused.{bad_input_text}
use Rattle.pie_script.specs.Reading.{script_lines}
use Rattle.pie_script.specs.Steps.{Plain, steps}
use Rattle.pie_script.specs.declared.fault.InputFault.{InputFault}
use Rattle.pie_script.specs.declared.step.Step.{Step}
use Rattle.pie_cli.specs.Replay.{HasScript, IsReplayText, RunsReplay, ScriptSays, StepsLeave}
use Rattle.pie_cli.specs.Run.{is_answer, is_told, input_fault_text, GainsAtMost, GainsPrefix, GainsSome, Shows}
use Rattle.pie_cli.specs.inner.Played.{Plays, PlaySays}
use Rattle.pie_cli.proofs.Statuses.{answer_is_told, memory_is_no_answer}

-- the input is refused with this
pub bad_script : (left after : Option (List ℕ)) (e : LinesError) (fault : InputFault) → e ≡ Bad fault
    → IfSome left (λ bytes. StepsRead bytes after (Err e)) → IfSome left (λ bytes. IsBadScript bytes fault)
bad_script left after e fault is h = subst (λ x. IfSome left (λ bytes. StepsRead bytes after (Err x))) is h

pub bad_script_told : (e : LinesError) (fault : InputFault) → e ≡ Bad fault → IsTold {A = Vec Step Global} (Err e)
bad_script_told e fault is = subst (λ x. IsTold {A = Vec Step Global} (Err x)) (sym is) (tt {0})

-- no script has steps and is refused
no_steps : (bytes : List ℕ) (found : List Plain) (fault : InputFault) → AreSteps bytes found → IsBadScript bytes fault → ⊥
no_steps bytes found fault has (inl long) = absurd (omega (arith, long.0, has.0))
no_steps bytes found fault has (inr wrong) = let both = sym has.1 ∙ wrong.1 in absurd (search rules)

never_bad : (left after : Option (List ℕ)) (found : List Plain) (P : Type 0) → HasScript left after found
    → IfSome left (λ bytes. (fault : InputFault) → IsBadScript bytes fault → P)
never_bad None after found P h = tt {0}
never_bad (Some bytes) after found P h = λ fault bad. absurd (no_steps bytes found fault h.0 bad)

-- it holds whatever the input is
in_any_case : (left : Option (List ℕ)) (P : Type 0) → P → IfSome left (λ bytes. (fault : InputFault) → IsBadScript bytes fault → P)
in_any_case None P p = tt {0}
in_any_case (Some bytes) P p = λ fault bad. p

stays : (found : List Plain) (o : Option Directory) → KeepsOthers found o o
stays found None = record { kept = tt }
stays found (Some d) = record { kept = (d, refl, λ q own off. refl) }

none_touched : (left : Option (List ℕ)) (o : Option Directory) → IfSome left (λ bytes. KeepsOthers (steps (script_lines bytes)) o o)
none_touched None o = tt {0}
none_touched (Some bytes) o = stays (steps (script_lines bytes)) o

others_kept : (left after : Option (List ℕ)) (found : List Plain) (before now : Option Directory) → HasScript left after found → KeepsOthers found before now
    → IfSome left (λ bytes. KeepsOthers (steps (script_lines bytes)) before now)
others_kept None after found before now h k = tt {0}
others_kept (Some bytes) after found before now h k = subst (λ (ss : List Plain). KeepsOthers ss before now) h.0.2 k

module _ {S I : Type 0} (holds : S → Option Directory) (moment : S → ℕ) (left_since : S → ℕ → Directory → Type 0) (images : S → Directory → Type 0)
    (asked : S → Option (List Call)) (faults : S → ℕ) (left : I → Option (List ℕ)) (input_faults : I → ℕ) (json : Bool) where
  abbrev Text : S → S → I → I → List ℕ → Type 0
  Text old new input after =
      IsReplayText holds moment left_since images asked json old new (left input) (left after)
      (Rose (input_faults input) (input_faults after)) (Rose (faults old) (faults new))

  -- a text of the steps is one of `replay`
  allowed : (old new : S) (input after : I) (found : List Plain) (text : List ℕ) (said : Status) → HasScript (left input) (left after) found
      → PlaySays holds moment left_since images asked faults json found old new text said → Text old new input after text
  allowed old new input after found text said has (inl p) = inl (said, inr (found, has, p.2))
  allowed old new input after found text said has (inr p) = inr (inr (p.1, found, has, p.2))

  allows : (old new : S) (input after : I) (found : List Plain) (held gained : Option (List ℕ)) → HasScript (left input) (left after) found
      → GainsSome (λ text. (said : Status) × PlaySays holds moment left_since images asked faults json found old new text said) ⊥ held gained
      → GainsSome (Text old new input after) ⊥ held gained
  allows old new input after found held gained has (inl some) = inl (some.0, allowed old new input after found some.0 some.1.0 has some.1.1, some.2)
  allows old new input after found held gained has (inr none) = inr none

  allows_most : (old new : S) (input after : I) (found : List Plain) (held gained : Option (List ℕ)) (ended : Status)
      → HasScript (left input) (left after) found
      → GainsAtMost (λ text. (said : Status) × PlaySays holds moment left_since images asked faults json found old new text said) ⊥ held gained ended
      → GainsAtMost (Text old new input after) ⊥ held gained ended
  allows_most old new input after found held gained ended has h =
      record { prefix = either h.prefix; cut = λ is. allows old new input after found held gained has (h.cut is) }
    where
      either : GainsSome (λ text. (said : Status) × PlaySays holds moment left_since images asked faults json found old new text said) ⊥ held gained
          ⊎ (gained ≡ held) → GainsSome (Text old new input after) ⊥ held gained ⊎ (gained ≡ held)
      either (inl some) = inl (allows old new input after found held gained has some)
      either (inr none) = inr none

  -- the steps of the script of the input were done
  pub runs_played : (old new : S) (input after : I) (found : List Plain) (held gained : Option (List ℕ)) (ended : Status)
      → HasScript (left input) (left after) found → Plays holds moment left_since images asked faults json found old new held gained ended
      → KeepsOthers found (holds old) (holds new) → StepsLeave holds moment left_since images found old new
      → RunsReplay holds moment left_since images asked faults left input_faults json old new input after held gained ended
  runs_played old new input after found held gained ended has p rest leaves = record {
    replayed = λ a. let h = p.played a in (h.1, inr (found, has, h.2), h.3);
    failed = λ is. let h = p.failed is in (h.1, (found, has, h.2), h.3);
    printed = allows_most old new input after found held gained ended has p.printed;
    bad = never_bad (left input) (left after) found (new ≡ old) has;
    unread = λ is. absurd (p.no_input is);
    rest = others_kept (left input) (left after) found (holds old) (holds new) has rest;
    crash = inr (found, has, leaves);
  }

  no_files : (wanted ended : Status) (held gained : Option (List ℕ)) (text : List ℕ) → Shows held gained text wanted ended → (status.Files ≡ wanted → ⊥)
      → ended ≡ status.Files → ⊥
  no_files wanted ended held gained text shows apart is = apart (sym is ∙ (shows (ap is_told is)).0)

  -- a script that is refused
  pub runs_bad_script : (old : S) (input after : I) (fault : InputFault) (held gained : Option (List ℕ)) (ended : Status)
      → IfSome (left input) (λ bytes. IsBadScript bytes fault) → Shows held gained (bad_input_text fault) status.BadInput ended
      → GainsPrefix held gained (bad_input_text fault)
      → RunsReplay holds moment left_since images asked faults left input_faults json old old input after held gained ended
  runs_bad_script old input after fault held gained ended bad shows prefix =
      let says : ScriptSays holds moment left_since images asked json old old (left input) (left after) (bad_input_text fault) status.BadInput =
      inl ((fault, bad, refl, refl), refl) in
      let some : GainsSome (Text old old input after) ⊥ held gained = inl (bad_input_text fault, inl (status.BadInput, says), prefix) in
      record {
        replayed = λ a. let s = shows (answer_is_told ended a) in (
          bad_input_text fault,
          subst (λ x. ScriptSays holds moment left_since images asked json old old (left input) (left after) (bad_input_text fault) x) (sym s.0) says,
          s.1,
        );
        failed = λ is. absurd (no_files status.BadInput ended held gained (bad_input_text fault) shows (λ e. absurd (cc)) is);
        printed = record { prefix = inl some; cut = λ is. some };
        bad = in_any_case (left input) (old ≡ old) refl;
        unread = λ is. refl;
        rest = none_touched (left input) (holds old);
        crash = inl refl;
      }

  -- an input that failed
  pub runs_unread : (old : S) (input after : I) (held gained : Option (List ℕ)) (ended : Status) → Rose (input_faults input) (input_faults after)
      → Shows held gained input_fault_text status.Input ended → GainsPrefix held gained input_fault_text
      → RunsReplay holds moment left_since images asked faults left input_faults json old old input after held gained ended
  runs_unread old input after held gained ended rose shows prefix =
      let some : GainsSome (Text old old input after) ⊥ held gained = inl (input_fault_text, inr (inl (rose, refl)), prefix) in
      record {
        replayed = λ a. absurd (false≢true (subst (λ x. is_answer x ≡ true) (shows (answer_is_told ended a)).0 a));
        failed = λ is. absurd (no_files status.Input ended held gained input_fault_text shows (λ e. absurd (cc)) is);
        printed = record { prefix = inl some; cut = λ is. some };
        bad = in_any_case (left input) (old ≡ old) refl;
        unread = λ is. refl;
        rest = none_touched (left input) (holds old);
        crash = inl refl;
      }

  -- out of memory before anything was asked of the files
  pub runs_none : (old : S) (input after : I) (held : Option (List ℕ))
      → RunsReplay holds moment left_since images asked faults left input_faults json old old input after held held status.Memory
  runs_none old input after held = record {
    replayed = λ a. absurd (memory_is_no_answer a);
    failed = λ is. absurd (cc);
    printed = record { prefix = inr refl; cut = λ is. absurd (cc) };
    bad = in_any_case (left input) (old ≡ old) refl;
    unread = λ is. refl;
    rest = none_touched (left input) (holds old);
    crash = inl refl;
  }
