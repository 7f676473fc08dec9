use Rattle.std.proofs.Common.{◌≡◌, ◌-◌, ℕ, List, length, get_or, sym, ap, ◌∙◌}
use Rattle.std.specs.Prelude.{Option, Some, None, slice_get}
use Rattle.pie_record.specs.declared.task_record.TaskRecord.{TaskRecord}
use Rattle.pie_store.specs.Ranks.{Ranked, is_before, follows, comes_last}
use Rattle.pie_store.proofs.Ranking.{last_some, last_none}
use Rattle.pie_store.proofs.ranked.RankedRows.comes_last.Goals as goal

pub returns-in-Some : goal.returns-in-Some
returns-in-Some c =
    let ranked = c.self.invariant.ranked in
    let rows = c.self.inside.rows.items in
    let heights = c.self.inside.heights.items in
    let n : c.len.result ≡ length rows = c.len.ensures ∙ sym c.deref.ensures.len ∙ ap length c.deref.ensures.value in
    let e : slice_get rows (length rows - 1) ≡ Some c.in-Some.last.now =
    sym (c.in-Some.ensures.value ∙ ap (λ (l : List TaskRecord). slice_get l (length l - 1)) c.deref.ensures.value) in
    let h : c.height_at-below.result ≡ get_or heights (length rows - 1) 0 =
    c.height_at-below.ensures ∙ ap (λ (l : List ℕ). get_or l (c.len.result - 1) 0) c.as_slice.ensures.value
    ∙ ap (λ (k : ℕ). get_or heights (k - 1) 0) n in
    c.is_before.ensures ∙ ap (λ (k : ℕ). is_before c.in-Some.last.now.task k c.args.task.now c.args.height) h
    ∙ sym (ap (λ (o : Option (TaskRecord × ℕ)). follows o c.args.task.now c.args.height) (last_some _ heights rows c.in-Some.last.now ranked e))
    ∙ ap (λ (s : Ranked). comes_last s c.args.task.now c.args.height) c.self.view_is

pub returns-in-None : goal.returns-in-None
returns-in-None c =
    let ranked = c.self.invariant.ranked in
    let rows = c.self.inside.rows.items in
    let e : slice_get rows (length rows - 1) ≡ None =
    sym (c.in-None.ensures.value ∙ ap (λ (l : List TaskRecord). slice_get l (length l - 1)) c.deref.ensures.value) in
    sym (ap (λ (o : Option (TaskRecord × ℕ)). follows o c.args.task.now c.args.height) (last_none _ c.self.inside.heights.items rows ranked e))
    ∙ ap (λ (s : Ranked). comes_last s c.args.task.now c.args.height) c.self.view_is
