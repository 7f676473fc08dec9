-- Why a run ends.
use Rattle.std.proofs.Common.{◌≡◌, ◌≢◌, ℕ, true, Bool, List, [], Option, refl, sym, subst, ◌∙◌}
use Rattle.std.proofs.lemmas.Bool.{false≢true}
use Rattle.pie_base.specs.declared.status.Status.{Status}
use Rattle.pie_base.specs.declared.status.Status.TheVariants as status
use Rattle.pie_files.specs.Faults.{Rose}
use Rattle.pie_cli.specs.Run.{files_fault_text, is_answer, is_told, input_fault_text, Ends, Gains, GainsLine, Shows}
use Rattle.pie_files.specs.Directory.{Directory}
use Rattle.pie_files.specs.declared.files.Call.{Call}
use Rattle.pie_script.specs.Steps.{Plain}
use Rattle.pie_cli.specs.inner.Played.{Plays}
use Rattle.pie_cli.specs.inner.Unread.{EndsUnread}
use Rattle.pie_cli.proofs.Statuses.{answer_is_told, memory_is_no_answer}

-- a line alone
line_alone : (Alone : Type 0) (held gained : Option (List ℕ)) (line : List ℕ) → Gains held gained line → GainsLine Alone held gained line
line_alone Alone held gained line h = ([], λ alone. refl, h)

-- where less is supposed
pub ends_by : (More Alone : Type 0) (asked_before asked_after read_before read_after printed_before printed_after : ℕ) (held gained : Option (List ℕ))
    (ended : Status) → (Alone → More) → Ends More asked_before asked_after read_before read_after printed_before printed_after held gained ended
    → Ends Alone asked_before asked_after read_before read_after printed_before printed_after held gained ended
ends_by More Alone asked_before asked_after read_before read_after printed_before printed_after held gained ended more h = record {
  files = λ is. let f = h.files is in (f.0, (f.1.0, λ alone. f.1.1 (more alone), f.1.2));
  input = h.input;
  output = h.output;
  steady = h.steady;
  output_steady = h.output_steady;
  input_steady = h.input_steady;
  input_alone = h.input_alone;
}

-- beside an input that didn't fail
pub ends_unread : (Alone : Type 0) (asked_before asked_after read_before read_after printed_before printed_after : ℕ) (held gained : Option (List ℕ)) (ended : Status)
    → EndsUnread asked_before asked_after printed_before printed_after held gained ended → read_after ≡ read_before
    → Ends Alone asked_before asked_after read_before read_after printed_before printed_after held gained ended
ends_unread Alone asked_before asked_after read_before read_after printed_before printed_after held gained ended h same = record {
  files = λ is. let f = h.files is in (f.0, line_alone Alone held gained files_fault_text f.1);
  input = λ is. absurd (h.no_input is);
  output = h.output;
  steady = λ a. let s = h.steady a in (s.0, same, s.1);
  output_steady = h.output_steady;
  input_steady = λ is. same;
  input_alone = λ is. absurd (h.no_input is);
}

-- a status whose text was printed is the wanted one
told_is : (held gained : Option (List ℕ)) (text : List ℕ) (wanted ended other : Status) → Shows held gained text wanted ended → ended ≡ other
    → is_told other ≡ true → other ≡ wanted
told_is held gained text wanted ended other shows is told = sym is ∙ (shows (subst (λ s. is_told s ≡ true) (sym is) told)).0

-- other than the wanted one, no status of a text that was printed comes
pub not_shown : (held gained : Option (List ℕ)) (text : List ℕ) (wanted ended other : Status) → Shows held gained text wanted ended → is_told other ≡ true
    → (other ≡ wanted → ⊥) → ended ≢ other
not_shown held gained text wanted ended other shows told apart = λ is. apart (told_is held gained text wanted ended other shows is told)

-- where the text of an answer was printed, and nothing failed
pub ends_shown : (Alone : Type 0) (asked read_before read_after printed_before printed_after : ℕ) (held gained : Option (List ℕ)) (text : List ℕ) (wanted ended : Status)
    → (status.Files ≡ wanted → ⊥) → (status.Input ≡ wanted → ⊥)
    → Shows held gained text wanted ended → (ended ≡ status.Output → Rose printed_before printed_after)
    → (is_told ended ≡ true → printed_after ≡ printed_before) → read_after ≡ read_before
    → Ends Alone asked asked read_before read_after printed_before printed_after held gained ended
ends_shown Alone asked read_before read_after printed_before printed_after held gained text wanted ended no_files no_input shows output steady same =
    let not_files : ended ≢ status.Files = not_shown held gained text wanted ended status.Files shows refl no_files in
    let not_input : ended ≢ status.Input = not_shown held gained text wanted ended status.Input shows refl no_input in
    record {
      files = λ is. absurd (not_files is);
      input = λ is. absurd (not_input is);
      output = output;
      steady = λ a. (refl, same, steady (answer_is_told ended a));
      output_steady = λ is. absurd (not_files is);
      input_steady = λ is. same;
      input_alone = λ is. absurd (not_input is);
    }

-- where the input failed
pub ends_failed : (Alone : Type 0) (asked read_before read_after printed_before printed_after : ℕ) (held gained : Option (List ℕ)) (ended : Status)
    → Shows held gained input_fault_text status.Input ended → (ended ≡ status.Output → Rose printed_before printed_after)
    → (is_told ended ≡ true → printed_after ≡ printed_before) → Rose read_before read_after
    → Ends Alone asked asked read_before read_after printed_before printed_after held gained ended
ends_failed Alone asked read_before read_after printed_before printed_after held gained ended shows output steady rose =
    let no_files : ended ≢ status.Files = not_shown held gained input_fault_text status.Input ended status.Files shows refl (λ is. absurd (cc)) in
    let told : ended ≡ status.Input → is_told ended ≡ true = λ is. subst (λ s. is_told s ≡ true) (sym is) refl in
    record {
      files = λ is. absurd (no_files is);
      input = λ is. (rose, (shows (told is)).1);
      output = output;
      steady = λ a. absurd (input_is_no_answer ended a (shows (answer_is_told ended a)).0);
      output_steady = λ is. absurd (no_files is);
      input_steady = λ is. absurd (no_files is);
      input_alone = λ is. (refl, steady (told is));
    }
  where
    input_is_no_answer : (s : Status) → is_answer s ≡ true → s ≡ status.Input → ⊥
    input_is_no_answer s a is = false≢true (subst (λ x. is_answer x ≡ true) is a)

-- where it was out of memory
pub ends_memory : (Alone : Type 0) (asked read_before read_after printed : ℕ) (held gained : Option (List ℕ))
    → Ends Alone asked asked read_before read_after printed printed held gained status.Memory
ends_memory Alone asked read_before read_after printed held gained = record {
  files = λ is. absurd (cc);
  input = λ is. absurd (cc);
  output = λ is. absurd (cc);
  steady = λ a. absurd (memory_is_no_answer a);
  output_steady = λ is. absurd (cc);
  input_steady = λ is. absurd (cc);
  input_alone = λ is. absurd (cc);
}

-- where the steps of a script were done
pub ends_played : {S : Type 0} (holds : S → Option Directory) (moment : S → ℕ) (left_since : S → ℕ → Directory → Type 0) (images : S → Directory → Type 0)
    (asked : S → Option (List Call)) (faults : S → ℕ) (json : Bool) (steps : List Plain) (old new : S)
    (read_before read_after printed_before printed_after : ℕ) (held gained : Option (List ℕ)) (ended : Status)
    → Plays holds moment left_since images asked faults json steps old new held gained ended → (ended ≡ status.Output → Rose printed_before printed_after)
    → (is_told ended ≡ true → printed_after ≡ printed_before) → read_after ≡ read_before
    → Ends ⊥ (faults old) (faults new) read_before read_after printed_before printed_after held gained ended
ends_played holds moment left_since images asked faults json steps old new read_before read_after printed_before printed_after held gained ended p output
    steady same = record {
      files = λ is. let f = p.failed is in
          (f.0, (f.2.earlier, λ none. absurd none, subst (λ (text : List ℕ). Gains held gained text) f.2.is f.3));
      input = λ is. absurd (p.no_input is);
      output = output;
      steady = λ a. ((p.played a).0, same, steady (answer_is_told ended a));
      output_steady = λ is. steady (subst (λ s. is_told s ≡ true) (sym is) refl);
      input_steady = λ is. same;
      input_alone = λ is. absurd (p.no_input is);
    }
