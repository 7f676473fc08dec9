-- An event of a task that runs, by its kind.
use Rattle.std.proofs.Common.{◌≡◌, Option, Result, sym, subst}
use Rattle.std.specs.Prelude.{IfOk}
use Rattle.pie_value.specs.declared.event.Event.{Event}
use Rattle.pie_files.specs.Directory.{Directory}
use Rattle.pie_running.specs.declared.frame.Waiting.{Waiting}
use Rattle.pie_topdown.specs.declared.builder.Builder.{Builder}
use Rattle.pie_topdown.specs.declared.hand.Turn.{Turn}
use Rattle.pie_topdown.specs.inner.Asking.{AsksSo}

-- one of this kind is answered so
pub as_event : {E : Type 0} (held : Option Directory) (b new : Builder) (w : Waiting) (e f : Event) (r : Result Turn E) → f ≡ e → IfOk r (AsksSo held b w e new)
    → IfOk r (AsksSo held b w f new)
as_event held b new w e f r is asks = subst (λ (z : Event). IfOk r (AsksSo held b w z new)) (sym is) asks
