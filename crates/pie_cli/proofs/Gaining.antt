-- What the output gained where a command gave no answer.
use Rattle.std.proofs.Common.{◌≡◌, ℕ, List, Option, None, Some, inl, inr, refl, sym, ◌∙◌}
use Rattle.std.specs.Prelude.{IfSome}
use Rattle.pie_base.specs.declared.status.Status.{Status}
use Rattle.pie_base.specs.declared.status.Status.TheVariants as status
use Rattle.pie_files.specs.Directory.{Directory}
use Rattle.pie_cli.specs.Run.{GainsAtMost, GainsPrefix, GainsSome, files_fault_text}

-- the line of a fault of the files, or a prefix of it
pub fault_gained : (o : Option Directory) (Allowed : Directory → List ℕ → Type 0) (Failed : Type 0) (held gained : Option (List ℕ)) (ended : Status)
    → Failed → GainsPrefix held gained files_fault_text → IfSome o (λ d. GainsAtMost (Allowed d) Failed held gained ended)
fault_gained None Allowed Failed held gained ended failed gains = tt
fault_gained (Some d) Allowed Failed held gained ended failed gains =
    let some : GainsSome (Allowed d) Failed held gained = inr (failed, gains) in record { prefix = inl some; cut = λ is. some }

-- nothing: it was out of memory
pub none_gained : (o : Option Directory) (Allowed : Directory → List ℕ → Type 0) (Failed : Type 0) (held : Option (List ℕ)) (ended : Status)
    → ended ≡ status.Memory → IfSome o (λ d. GainsAtMost (Allowed d) Failed held held ended)
none_gained None Allowed Failed held ended is = tt
none_gained (Some d) Allowed Failed held ended is = record { prefix = inr (refl); cut = λ other. absurd (not_output ended is other) }
  where
    not_output : (ended : Status) → ended ≡ status.Memory → ended ≡ status.Output → ⊥
    not_output ended a b = let both : status.Memory ≡ status.Output = sym a ∙ b in absurd (cc)
