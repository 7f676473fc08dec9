-- What is told of the bytes of an input.
use Rattle.std.proofs.Common.{◌≡◌, ℕ, Result, Err, arith, subst}
use Rattle.pie_script.specs.declared.fault.InputFault.{InputFault}
use Rattle.pie_input.specs.declared.lines.LinesError.{LinesError}
use Rattle.pie_input.specs.declared.lines.LinesError.TheVariants.{Failed}
use Rattle.pie_input.specs.inner.Answers.{HasMeaning, TellsLines}

-- reading bytes can't fail
not_failed : {A : Type 0} (Means : A → Type 0) (Refuses : InputFault → Type 0) (r : Result A LinesError) → HasMeaning Means Refuses r → r ≡ Err Failed → ⊥
not_failed Means Refuses r has is = subst (HasMeaning Means Refuses) is has

-- nothing failed while the bytes were read
pub told_whole : {S A : Type 0} (faults : S → ℕ) (old new : S) (Means : A → Type 0) (Refuses : InputFault → Type 0) (r : Result A LinesError)
    → HasMeaning Means Refuses r → faults new ≡ faults old → TellsLines faults old new r
told_whole faults old new Means Refuses r has same =
    record { later = omega (arith, same); steady = λ told. same; cause = λ is. absurd (not_failed Means Refuses r has is) }
