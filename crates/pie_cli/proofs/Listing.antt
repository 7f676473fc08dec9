-- What a command says that reads a list of paths, by its input.
use Rattle.std.proofs.Common.{◌≡◌, ◌⊎◌, ℕ, true, List, Option, None, Some, inl, inr, refl, sym, ◌∙◌, subst, arith, rules}
use Rattle.std.specs.Prelude.{IfSome, Vec, Err}
use Rattle.std.proofs.lemmas.Bool.{false≢true}
use Rattle.std.specs.declared.alloc.Global.{Global}
use Rattle.pie_base.specs.declared.status.Status.{Status}
use Rattle.pie_base.specs.declared.status.Status.TheVariants as status
use Rattle.pie_files.specs.Directory.{Directory}
use Rattle.pie_files.specs.Faults.{Rose}
use Rattle.pie_input.specs.Names.{AreNames, IsBad}
use Rattle.pie_input.specs.inner.Answers.{IsTold, NamesRead}
use Rattle.pie_input.specs.declared.lines.LinesError.{LinesError}
use Rattle.pie_input.specs.declared.lines.LinesError.TheVariants.{Bad}
use Rattle.pie_report.specs.Refused.{bad_input_text}
use Rattle.pie_script.specs.declared.fault.InputFault.{InputFault}
use Rattle.pie_cli.specs.Listed.{IsListText, IsRead, ListSays, RunsByList, RunsSaying}
use Rattle.pie_files.proofs.Reading.{none_before}
use Rattle.pie_cli.specs.declared.listed.ByList.{ByList}
use Rattle.pie_cli.specs.declared.listed.ByList.TheVariants.{Auto, Build, Scan}
use Rattle.pie_auto.proofs.Finding.{outside_same}
use Rattle.pie_build.proofs.Crashing.{rests_none}
use Rattle.pie_cli.proofs.Rest.{keeps_same}
use Rattle.pie_cli.specs.inner.ByList.{ChangesNone, EndsRead, EndsWith, KeepsBy, LeavesRead, LeavesWith, RestsBy, StopsRead}
use Rattle.pie_cli.specs.Run.{is_answer, input_fault_text, GainsAtMost, GainsPrefix, GainsSome, Shows}
use Rattle.pie_cli.proofs.Statuses.{answer_is_told, memory_is_no_answer}

-- the input is refused with this
pub bad_read : (left after : Option (List ℕ)) (e : LinesError) (fault : InputFault) → e ≡ Bad fault
    → IfSome left (λ bytes. NamesRead bytes after (Err e)) → IfSome left (λ bytes. IsBad bytes fault)
bad_read left after e fault is h = subst (λ x. IfSome left (λ bytes. NamesRead bytes after (Err x))) is h

pub bad_told : (e : LinesError) (fault : InputFault) → e ≡ Bad fault → IsTold {A = Vec (List ℕ) Global} (Err e)
bad_told e fault is = subst (λ x. IsTold {A = Vec (List ℕ) Global} (Err x)) (sym is) (tt {0})

-- no change list has names and is refused
no_names : (bytes : List ℕ) (names : List (List ℕ)) (fault : InputFault) → AreNames bytes names → IsBad bytes fault → ⊥
no_names bytes names fault has (inl long) = absurd (omega (arith, long.0, has.0))
no_names bytes names fault has (inr wrong) = let both = sym has.1 ∙ wrong.1 in absurd (search rules)

never_bad : (left after : Option (List ℕ)) (names : List (List ℕ)) (P : Type 0) → IsRead names left after
    → IfSome left (λ bytes. (fault : InputFault) → IsBad bytes fault → P)
never_bad None after names P h = tt {0}
never_bad (Some bytes) after names P h = λ fault bad. absurd (no_names bytes names fault h.0 bad)

-- it holds whatever the input is
in_any_case : (left : Option (List ℕ)) (P : Type 0) → P → IfSome left (λ bytes. (fault : InputFault) → IsBad bytes fault → P)
in_any_case None P p = tt {0}
in_any_case (Some bytes) P p = λ fault bad. p

-- more texts are allowed
allows_more : (Fewer More : List ℕ → Type 0) (Failed : Type 0) (held gained : Option (List ℕ)) → ((text : List ℕ) → Fewer text → More text)
    → GainsSome Fewer Failed held gained → GainsSome More Failed held gained
allows_more Fewer More Failed held gained more (inl some) = inl (some.0, more some.0 some.1, some.2)
allows_more Fewer More Failed held gained more (inr failed) = inr failed

gains_more : (Fewer More : List ℕ → Type 0) (Failed : Type 0) (held gained : Option (List ℕ)) (ended : Status) → ((text : List ℕ) → Fewer text → More text)
    → GainsAtMost Fewer Failed held gained ended → GainsAtMost More Failed held gained ended
gains_more Fewer More Failed held gained ended more h =
    record { prefix = either h.prefix; cut = λ is. allows_more Fewer More Failed held gained more (h.cut is) }
  where
    either : GainsSome Fewer Failed held gained ⊎ (gained ≡ held) → GainsSome More Failed held gained ⊎ (gained ≡ held)
    either (inl some) = inl (allows_more Fewer More Failed held gained more some)
    either (inr none) = inr none

module _ {S I : Type 0} (says : List (List ℕ) → Option Directory → Option Directory → List ℕ → Status → Type 0) (holds : S → Option Directory) (faults : S → ℕ)
    (left : I → Option (List ℕ)) (input_faults : I → ℕ) where
  abbrev Text : S → S → I → I → List ℕ → Type 0
  Text old new input after = IsListText says holds old new (left input) (left after) (Rose (input_faults input) (input_faults after))

  -- the command with the paths of the input
  pub runs_made : (old new : S) (input after : I) (names : List (List ℕ)) (held gained : Option (List ℕ)) (ended : Status)
      → IsRead names (left input) (left after) → RunsSaying (says names) holds faults old new held gained ended → (ended ≡ status.Input → ⊥)
      → RunsByList says holds faults left input_faults old new input after held gained ended
  runs_made old new input after names held gained ended read ran no_input = record {
    said = λ a. let one = ran.said a in (one.0, inr (names, read, one.1), one.2);
    printed = gains_more (λ text. (said : Status) × says names (holds old) (holds new) text said) (Text old new input after) (Rose (faults old) (faults new))
        held gained ended (λ text one. inl (one.0, inr (names, read, one.1))) ran.printed;
    bad = never_bad (left input) (left after) names (new ≡ old) read;
    unread = λ is. absurd (no_input is);
  }

  -- a list that is refused
  pub runs_bad : (old : S) (input after : I) (fault : InputFault) (held gained : Option (List ℕ)) (ended : Status)
      → IfSome (left input) (λ bytes. IsBad bytes fault) → Shows held gained (bad_input_text fault) status.BadInput ended
      → GainsPrefix held gained (bad_input_text fault) → RunsByList says holds faults left input_faults old old input after held gained ended
  runs_bad old input after fault held gained ended bad shows prefix =
      let one : ListSays says holds old old (left input) (left after) (bad_input_text fault) status.BadInput = inl ((fault, bad, refl, refl), refl) in
      let some : GainsSome (Text old old input after) (Rose (faults old) (faults old)) held gained =
      inl (bad_input_text fault, inl (status.BadInput, one), prefix) in
      record {
        said = λ a. let s = shows (answer_is_told ended a) in
            (bad_input_text fault, subst (λ x. ListSays says holds old old (left input) (left after) (bad_input_text fault) x) (sym s.0) one, s.1);
        printed = record { prefix = inl some; cut = λ is. some };
        bad = in_any_case (left input) (old ≡ old) refl;
        unread = λ is. refl;
      }

  -- an input that failed
  pub runs_failed : (old : S) (input after : I) (held gained : Option (List ℕ)) (ended : Status) → Rose (input_faults input) (input_faults after)
      → Shows held gained input_fault_text status.Input ended → GainsPrefix held gained input_fault_text
      → RunsByList says holds faults left input_faults old old input after held gained ended
  runs_failed old input after held gained ended rose shows prefix =
      let some : GainsSome (Text old old input after) (Rose (faults old) (faults old)) held gained = inl (input_fault_text, inr (rose, refl), prefix) in
      record {
        said = λ a. absurd (false≢true (subst (λ x. is_answer x ≡ true) (shows (answer_is_told ended a)).0 a));
        printed = record { prefix = inl some; cut = λ is. some };
        bad = in_any_case (left input) (old ≡ old) refl;
        unread = λ is. refl;
      }

  -- out of memory before anything was asked of the files
  pub runs_memory : (old : S) (input after : I) (held : Option (List ℕ))
      → RunsByList says holds faults left input_faults old old input after held held status.Memory
  runs_memory old input after held = record {
    said = λ a. absurd (memory_is_no_answer a);
    printed = record { prefix = inr refl; cut = λ is. absurd (cc) };
    bad = in_any_case (left input) (old ≡ old) refl;
    unread = λ is. refl;
  }

-- where nothing was asked of the files, nothing was changed
pub none_changed : {S : Type 0} (holds : S → Option Directory) (moment : S → ℕ) (left_since : S → ℕ → Directory → Type 0) (images : S → Directory → Type 0)
    (which : ByList) (old : S) → ChangesNone holds moment left_since images which old old
none_changed holds moment left_since images (Build json) old = tt {0}
none_changed holds moment left_since images Auto old = tt {0}
none_changed holds moment left_since images Scan old = (refl, none_before holds moment left_since images old)

-- what a crash leaves where nothing was asked of the files
none_left : {S : Type 0} (holds : S → Option Directory) (moment : S → ℕ) (left_since : S → ℕ → Directory → Type 0) (images : S → Directory → Type 0)
    (which : ByList) (old : S) (left after : Option (List ℕ)) → LeavesRead holds moment left_since images which old old left after
none_left holds moment left_since images (Build json) old left after = inl refl
none_left holds moment left_since images Auto old left after = tt {0}
none_left holds moment left_since images Scan old left after = tt {0}

-- and with the paths of the input
pub read_left : {S : Type 0} (holds : S → Option Directory) (moment : S → ℕ) (left_since : S → ℕ → Directory → Type 0) (images : S → Directory → Type 0)
    (which : ByList) (names : List (List ℕ)) (old new : S) (left after : Option (List ℕ)) → IsRead names left after
    → LeavesWith holds moment left_since images which names old new → LeavesRead holds moment left_since images which old new left after
read_left holds moment left_since images (Build json) names old new left after read h = inr (names, read, h)
read_left holds moment left_since images Auto names old new left after read h = tt {0}
read_left holds moment left_since images Scan names old new left after read h = tt {0}

-- what every image has then
none_ended : {S : Type 0} (holds : S → Option Directory) (images : S → Directory → Type 0) (which : ByList) (old : S) (left after : Option (List ℕ))
    → EndsRead holds images which old old left after
none_ended holds images (Build json) old left after = inl refl
none_ended holds images Auto old left after = tt {0}
none_ended holds images Scan old left after = tt {0}

pub read_ended : {S : Type 0} (holds : S → Option Directory) (images : S → Directory → Type 0) (which : ByList) (names : List (List ℕ)) (old new : S)
    (left after : Option (List ℕ)) → IsRead names left after → EndsWith holds images which names old new → EndsRead holds images which old new left after
read_ended holds images (Build json) names old new left after read h = inr (names, read, h)
read_ended holds images Auto names old new left after read h = tt {0}
read_ended holds images Scan names old new left after read h = tt {0}

-- and nothing is pending
none_rests : {S : Type 0} (holds : S → Option Directory) (moment : S → ℕ) (left_since : S → ℕ → Directory → Type 0) (images : S → Directory → Type 0)
    (which : ByList) (old : S) → RestsBy holds images which old old
none_rests holds moment left_since images (Build json) old = rests_none holds moment left_since images old
none_rests holds moment left_since images Auto old = tt {0}
none_rests holds moment left_since images Scan old = tt {0}

pub none_stopped : {S : Type 0} (holds : S → Option Directory) (moment : S → ℕ) (left_since : S → ℕ → Directory → Type 0) (images : S → Directory → Type 0)
    (which : ByList) (old : S) (left after : Option (List ℕ)) (ended : Status) → StopsRead holds moment left_since images which old old left after ended
none_stopped holds moment left_since images which old left after ended = record {
  crash = none_left holds moment left_since images which old left after;
  marked = none_ended holds images which old left after;
  durable = λ a. none_rests holds moment left_since images which old;
}

pub none_kept : (which : ByList) (before after : Option Directory) → after ≡ before → KeepsBy which before after
none_kept (Build json) before after is = keeps_same before after is
none_kept Scan before after is = keeps_same before after is
none_kept Auto before after is = outside_same before after is
