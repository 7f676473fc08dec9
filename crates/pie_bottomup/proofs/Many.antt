-- A build of too many old tasks starts afresh.
use Rattle.std.proofs.Common.{◌≡◌, List, Some, None, Result, Ok, Err, sym, ◌∙◌, inl, inr}
use Rattle.std.specs.Prelude.{IfOk, OnOk}
use Rattle.pie_value.specs.declared.task.Task.{Task}
use Rattle.pie_bottomup.specs.declared.state.Core.{Core}
use Rattle.pie_bottomup.specs.declared.state.First.TheVariants.{Tests, TooMany, Done}
use Rattle.pie_bottomup.specs.declared.state.InHand.{InHand}
use Rattle.pie_bottomup.specs.declared.state.Turn.{Turn}
use Rattle.pie_bottomup.specs.inner.Many.{StartsNoneForMany, StopsForMany}
use Rattle.pie_bottomup.specs.inner.States.{IsCore}

-- there aren't too many where they are to be tested, or were
pub tests_many : {E : Type 0} (c : Core) (result : Result Turn E) → c.first ≡ Tests → IfOk result (StopsForMany c)
tests_many c (Ok turn) is = λ task many. absurd (apart task (sym is ∙ many))
  where
    apart : (task : Task) → Tests ≡ TooMany task → ⊥
    apart task e = cc
tests_many c (Err e) is = tt

pub done_many : {E : Type 0} (c : Core) (result : Result Turn E) → c.first ≡ Done → IfOk result (StopsForMany c)
done_many c (Ok turn) is = λ task many. absurd (apart task (sym is ∙ many))
  where
    apart : (task : Task) → Done ≡ TooMany task → ⊥
    apart task e = cc
done_many c (Err e) is = tt

-- nor where a task is in hand
pub hand_many : {E : Type 0} (c : Core) (h : InHand) (result : Result Turn E) → IsCore c → c.hand ≡ Some h → IfOk result (StopsForMany c)
hand_many c h result (inl untested) some = absurd (apart h (sym untested.start.hand ∙ some))
  where
    apart : (x : InHand) → None ≡ Some x → ⊥
    apart x e = cc
hand_many c h result (inr going) some = done_many c result going.site.tested

-- ---- the tasks that were started

-- nothing is said of them where there aren't too many
pub done_none : {E : Type 0} (c : Core) (before after : List Task) (result : Result Turn E) → c.first ≡ Done → OnOk result (StartsNoneForMany c before after)
done_none c before after (Ok turn) is = λ task many. absurd (apart task (sym is ∙ many))
  where
    apart : (task : Task) → Done ≡ TooMany task → ⊥
    apart task e = cc
done_none c before after (Err e) is = tt
