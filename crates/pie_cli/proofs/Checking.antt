-- What was printed of a check.
use Rattle.std.proofs.Common.{◌≡◌, ℕ, List, Option, None, Some, ◌∙◌, subst, inl}
use Rattle.std.specs.Prelude.{IfSome, string_bytes}
use Rattle.pie_base.specs.declared.status.Status.{Status}
use Rattle.pie_files.specs.Directory.{Directory}
use Rattle.pie_cli.specs.declared.told.CommandResult.{CommandResult}
use Rattle.pie_cli.specs.Check.{Tells, TellsOnly, AnswersOnly, HasChecked, IsCheckText}
use Rattle.pie_cli.specs.Run.{Gains, GainsAtMost, GainsPrefix, GainsSome}

-- all of it
pub checked : (o : Option Directory) (told : CommandResult) (ended : Status) (held gained : Option (List ℕ))
    → IfSome o (λ d. Tells d told) → ended ≡ told.status → Gains held gained (string_bytes told.text) → IfSome o (λ d. HasChecked d held gained ended)
checked None told ended held gained tells is all = tt
checked (Some d) told ended held gained tells is all = (tells.0, tells.1, is ∙ tells.3, subst (λ t. Gains held gained t) tells.2 all)

-- where nothing else can be told, nothing else can be printed
pub answers_only : (o : Option Directory) (told : CommandResult) (ended : Status) (held gained : Option (List ℕ))
    → IfSome o (λ d. TellsOnly d told) → ended ≡ told.status → Gains held gained (string_bytes told.text)
    → IfSome o (λ d. AnswersOnly d held gained ended)
answers_only None told ended held gained tells is all = tt
answers_only (Some d) told ended held gained tells is all = λ r says.
    (is ∙ (tells r says).1, subst (λ t. Gains held gained t) (tells r says).0 all)

-- a prefix of it
pub check_printed : (o : Option Directory) (told : CommandResult) (ended : Status) (Failed : Type 0) (held gained : Option (List ℕ))
    → IfSome o (λ d. Tells d told) → GainsPrefix held gained (string_bytes told.text) → IfSome o (λ d. GainsAtMost (IsCheckText d) Failed held gained ended)
check_printed None told ended Failed held gained tells gains = tt
check_printed (Some d) told ended Failed held gained tells gains =
    let some : GainsSome (IsCheckText d) Failed held gained = inl (string_bytes told.text, (tells.0, tells.1, tells.2), gains) in
    record { prefix = inl some; cut = λ is. some }
