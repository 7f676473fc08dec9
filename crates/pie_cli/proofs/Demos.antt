-- What a demo says.
use Rattle.std.proofs.Common.{◌≡◌, ◌⊎◌, ◌≤◌, ℕ, true, List, [], inl, inr, refl, sym, ◌∙◌, subst}
use Rattle.std.specs.Prelude.{Option, Result, Ok, Err, IfOk, string_bytes}
use Rattle.std.specs.FinMap as fin
use Rattle.pie_base.specs.declared.memory.OutOfMemory.{OutOfMemory}
use Rattle.pie_base.specs.declared.status.Status.{Status}
use Rattle.pie_base.specs.declared.status.Status.TheVariants as status
use Rattle.pie_files.specs.Faults.{Rose}
use Rattle.pie_demo.specs.Rounds.{IsDemo}
use Rattle.pie_demo.specs.declared.whole.Summary.{Summary}
use Rattle.pie_files.specs.Directory.{Directory}
use Rattle.pie_value.specs.declared.task.Task.{Task}
use Rattle.pie_cli.specs.declared.told.CommandResult.{CommandResult}
use Rattle.pie_cli.specs.Demo.{summary_text, IsDemoText, SaysDemo}
use Rattle.pie_cli.specs.Run.{is_told, Ends, GainsPrefix, Shows}
use Rattle.pie_cli.proofs.Statuses.{answer_is_told, memory_is_no_answer}

-- the text of a demo in new files
pub demo_text : (seed size : ℕ) (first after : Directory) (runs_first runs clean_first clean : List Task) (s : Summary)
    (r : Result CommandResult OutOfMemory) → first ≡ fin.empty → runs_first ≡ [] → clean_first ≡ []
    → (first ≡ fin.empty → IsDemo seed size after runs_first runs clean_first clean s) → s.rounds ≡ 10 → s.same ≤ 10
    → IfOk r (λ told. string_bytes told.text ≡ summary_text s) → IfOk r (λ told. IsDemoText seed size (string_bytes told.text))
demo_text seed size first after runs_first runs clean_first clean s (Err e) none runs_none clean_none demo rounds same text = tt
demo_text seed size first after runs_first runs clean_first clean s (Ok told) none runs_none clean_none demo rounds same text = record {
  summary = s;
  after = after;
  runs = runs;
  clean = clean;
  demo = subst (λ cs. IsDemo seed size after [] runs cs clean s) clean_none
      (subst (λ rs. IsDemo seed size after rs runs clean_first clean s) runs_none (demo none));
  rounds = rounds;
  same = same;
  told = text;
}

-- there was no memory for it
pub says_memory : (seed size : ℕ) (held : Option (List ℕ)) → SaysDemo seed size held held status.Memory
says_memory seed size held = record {
  shown = λ a. absurd (memory_is_no_answer a);
  prefix = inr refl;
  ends = inr (inr refl);
}

-- what the output took of a summary
pub says_shown : (seed size : ℕ) (held gained : Option (List ℕ)) (text : List ℕ) (ended : Status) → IsDemoText seed size text
    → Shows held gained text status.Ok ended → GainsPrefix held gained text → SaysDemo seed size held gained ended
says_shown seed size held gained text ended is shows prefix = record {
  shown = λ a. let s = shows (answer_is_told ended a) in (s.0, text, is, s.1);
  prefix = inl (text, is, prefix);
  ends = by ended shows;
}
  where
    by : (e : Status) → Shows held gained text status.Ok e → (e ≡ status.Ok) ⊎ ((e ≡ status.Output) ⊎ (e ≡ status.Memory))
    by status.Ok s = inl refl
    by status.Refused s = inl (s refl).0
    by status.Usage s = inl (s refl).0
    by status.BadInput s = inl (s refl).0
    by status.Pipeline s = inl (s refl).0
    by status.Files s = inl (s refl).0
    by status.Input s = inl (s refl).0
    by status.Output s = inr (inl refl)
    by status.Memory s = inr (inr refl)

-- no call on the files or the input failed
not_files : (ended : Status) → (ended ≡ status.Ok) ⊎ ((ended ≡ status.Output) ⊎ (ended ≡ status.Memory)) → ended ≡ status.Files → ⊥
not_files ended (inl a) is = let both : status.Ok ≡ status.Files = sym a ∙ is in absurd (cc)
not_files ended (inr (inl a)) is = let both : status.Output ≡ status.Files = sym a ∙ is in absurd (cc)
not_files ended (inr (inr a)) is = let both : status.Memory ≡ status.Files = sym a ∙ is in absurd (cc)

pub not_input : (ended : Status) → (ended ≡ status.Ok) ⊎ ((ended ≡ status.Output) ⊎ (ended ≡ status.Memory)) → ended ≡ status.Input → ⊥
not_input ended (inl a) is = let both : status.Ok ≡ status.Input = sym a ∙ is in absurd (cc)
not_input ended (inr (inl a)) is = let both : status.Output ≡ status.Input = sym a ∙ is in absurd (cc)
not_input ended (inr (inr a)) is = let both : status.Memory ≡ status.Input = sym a ∙ is in absurd (cc)

-- why a demo ended
pub ends_demo : (Alone : Type 0) (seed size asked read printed_before printed_after : ℕ) (held gained : Option (List ℕ)) (ended : Status)
    → SaysDemo seed size held gained ended
    → (ended ≡ status.Output → Rose printed_before printed_after) → (is_told ended ≡ true → printed_after ≡ printed_before)
    → Ends Alone asked asked read read printed_before printed_after held gained ended
ends_demo Alone seed size asked read printed_before printed_after held gained ended says output steady = record {
  files = λ is. absurd (not_files ended says.ends is);
  input = λ is. absurd (not_input ended says.ends is);
  output = output;
  steady = λ a. (refl, refl, steady (answer_is_told ended a));
  output_steady = λ is. absurd (not_files ended says.ends is);
  input_steady = λ is. absurd (not_files ended says.ends is);
  input_alone = λ is. absurd (not_input ended says.ends is);
}
