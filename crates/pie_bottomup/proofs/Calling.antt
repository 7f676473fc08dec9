-- Tasks that require one which ends were scheduled before it is settled.
use Rattle.std.proofs.Common.{◌≡◌, ℕ, Bool, true, false, List, Option, Some, sym, ap, ◌∙◌, subst, inl, inr}
use Rattle.std.specs.Prelude.{slice_get, IfSome}
use Rattle.pie_graph.specs.Rows.{Row, Calls}
use Rattle.pie_value.specs.declared.task.Task.{Task}
use Rattle.pie_record.specs.declared.task_record.TaskRecord.{TaskRecord}
use Rattle.pie_record.specs.inner.Records.{record_of}
use Rattle.pie_tables.specs.declared.tables.Tables.{Tables}
use Rattle.pie_walk.specs.declared.marks.Mark.{Mark}
use Rattle.pie_walk.specs.Marks.{IsIdle}
use Rattle.pie_walk.specs.States.{WalkState}
use Rattle.pie_results.specs.inner.Failures.{is_done}
use Rattle.pie_bottomup.specs.declared.plan.Plan.{Plan}
use Rattle.pie_bottomup.specs.declared.state.Core.{Core}
use Rattle.pie_bottomup.specs.inner.Running.{EndsSo}
use Rattle.pie_bottomup.specs.inner.States.{AreCalled, HasCalled}

-- where it ends without the output that it had
pub are_called : (old mid : Core) (n : ℕ) (r : TaskRecord) (output : Bool) (o : Option TaskRecord) → HasCalled old mid n output
    → o ≡ record_of old.tables.records n → IfSome o (λ _. is_done r.outcome ≡ false → output ≡ true) → AreCalled mid n r
are_called old mid n r output o has same other failed was k calls idle =
    let kept : o ≡ Some was.rec = same ∙ ap (λ (t : Tables). record_of t.records n) (sym has.tables) ∙ was.kept in
    let due : output ≡ true = subst (λ x. IfSome x (λ _. is_done r.outcome ≡ false → output ≡ true)) kept other failed in
    has.called due k (subst (λ (rows : List Row). Calls rows k n) (ap (λ (s : WalkState). s.rows) has.walk) calls)
    (subst (λ (marks : List Mark). IsIdle marks k) (ap (λ (s : WalkState). s.marks) has.walk) idle)

-- and it may end so still
pub ends_called : (old mid : Core) (n from : ℕ) (r : TaskRecord) (output : Bool) → HasCalled old mid n output
    → EndsSo old.plan old.tables.names old.tables.records old.frames.walk n from r → EndsSo mid.plan mid.tables.names mid.tables.records mid.frames.walk n from r
ends_called old mid n from r output has so =
    subst (λ (p : Plan). EndsSo p mid.tables.names mid.tables.records mid.frames.walk n from r) (sym has.keeps.plan)
    (subst (λ (t : Tables). EndsSo old.plan t.names t.records mid.frames.walk n from r) (sym has.tables)
    (subst (λ (w : WalkState). EndsSo old.plan old.tables.names old.tables.records w n from r) (sym has.walk) restated))
  where
    restated : EndsSo old.plan old.tables.names old.tables.records (record old.frames.walk { scheduled = mid.frames.walk.scheduled }) n from r
    restated = elim so [ inl failed ↦ inl failed | inr well ↦ inr (record { needs = well.needs; ended = well.ended; known = well.known; output = well.output }) ]

pub named_called : (old mid : Core) (n k : ℕ) (t : Task) (output : Bool) → HasCalled old mid n output → slice_get old.tables.names k ≡ Some t
    → slice_get mid.tables.names k ≡ Some t
named_called old mid n k t output has named = subst (λ (x : Tables). slice_get x.names k ≡ Some t) (sym has.tables) named

-- where it ended with the output that it had
pub same_output : (o : Option TaskRecord) (was r : TaskRecord) (output : Bool) → o ≡ Some was
    → IfSome o (λ (x : TaskRecord). output ≡ false → x.outcome ≡ r.outcome) → output ≡ false → was.outcome ≡ r.outcome
same_output o was r output kept same off = subst (λ p. IfSome p (λ (x : TaskRecord). output ≡ false → x.outcome ≡ r.outcome)) kept same off
