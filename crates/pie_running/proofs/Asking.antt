-- No call, or the one that may be made.
use Rattle.std.proofs.Common.{◌≡◌, ◌⊎◌, ℕ, Bool, true, false, Option, List, inl, inr, refl, subst, sym, ◌∙◌}
use Rattle.std.specs.Prelude.{Result, Ok, Err}
use Rattle.pie_files.specs.declared.files.Call.{Call}
use Rattle.pie_files.specs.declared.files.FilesError.{FilesError}
use Rattle.pie_files.specs.declared.files.FilesError.TheVariants.{Failed, OutOfMemory}
use Rattle.pie_files.specs.Calls.{Called, Notes, NotesUnlessMemory}
use Rattle.pie_running.specs.inner.Asking.{AsksOnly, AsksTwice, IsNotedTwice}

module _ {S : Type 0} (asked : S → Option (List Call)) (may : Bool) (call : Call) (old new : S) where
  pub asks_not : asked new ≡ asked old → AsksOnly asked may call old new
  asks_not same = record { not = λ _. same; once = inl same }

  pub asks_once : {T : Type 0} (faults : S → ℕ) (result : Result T FilesError) → may ≡ true → Called asked faults (λ c. c ≡ call) old new result
      → AsksOnly asked may call old new
  asks_once {T} faults result can called = record {
    not = λ cannot. absurd (apart (sym can ∙ cannot));
    once = by result called.noted;
  }
    where
      apart : true ≡ false → ⊥
      apart h = cc

      by : (r : Result T FilesError) → NotesUnlessMemory r (λ c. c ≡ call) (asked old) (asked new)
          → (asked new ≡ asked old) ⊎ Notes (λ c. c ≡ call) (asked old) (asked new)
      by (Ok value) h = inr h
      by (Err Failed) h = inr h
      by (Err OutOfMemory) h = h

  pub asks_few : AsksOnly asked may call old new → AsksTwice asked may call old new
  asks_few only = record { only = inl only }

  pub asks_as : may ≡ true → AsksTwice asked true call old new → AsksTwice asked may call old new
  asks_as can twice = subst (λ b. AsksTwice asked b call old new) (sym can) twice

-- after one call that gave an answer, at the most one more
pub asks_more : {S T : Type 0} (asked : S → Option (List Call)) (faults : S → ℕ) (call : Call) (old mid new : S) (value : T)
    → Called asked faults (λ c. c ≡ call) old mid (Ok value) → AsksOnly asked true call mid new → AsksTwice asked true call old new
asks_more {S} {T} asked faults call old mid new value called only = by only.once
  where
    by : (asked new ≡ asked mid) ⊎ Notes (λ c. c ≡ call) (asked mid) (asked new) → AsksTwice asked true call old new
    by (inl same) = record {
      only = inl (record { not = λ e. absurd cc; once = inr (subst (Notes (λ c. c ≡ call) (asked old)) (sym same) called.noted) });
    }
    by (inr more) = record { only = inr (refl, record { between = asked mid; first = called.noted; second = more }) }

-- what the search takes for a function that asks at the most once
pub ruleset asks = (asks_not, asks_once)
