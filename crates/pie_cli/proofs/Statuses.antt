-- What a status says.
use Rattle.std.proofs.Common.{◌≡◌, true, refl, subst}
use Rattle.std.proofs.lemmas.Bool.{false≢true}
use Rattle.pie_base.specs.declared.status.Status.{Status}
use Rattle.pie_base.specs.declared.status.Status.TheVariants.{Ok, Refused, Usage, BadInput, Pipeline, Files, Input, Output, Memory}
use Rattle.pie_cli.specs.Run.{is_answer, is_told}

pub answer_is_told : (s : Status) → is_answer s ≡ true → is_told s ≡ true
answer_is_told Ok h = refl
answer_is_told Refused h = refl
answer_is_told Usage h = refl
answer_is_told BadInput h = refl
answer_is_told Pipeline h = refl
answer_is_told Files h = absurd (false≢true h)
answer_is_told Input h = absurd (false≢true h)
answer_is_told Output h = absurd (false≢true h)
answer_is_told Memory h = absurd (false≢true h)

pub memory_is_no_answer : is_answer Memory ≡ true → ⊥
memory_is_no_answer h = false≢true h

-- a fault of the files is no answer
pub fault_is_no_answer : (s : Status) → is_answer s ≡ true → s ≡ Files → ⊥
fault_is_no_answer s a is = false≢true (subst (λ x. is_answer x ≡ true) is a)
