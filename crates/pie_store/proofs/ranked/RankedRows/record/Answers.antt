use Rattle.std.proofs.Common.{◌≡◌, List, length, subst, ap, arith}
use Rattle.std.specs.Prelude.{Some, slice_get}
use Rattle.std.specs.List.{zip}
use Rattle.pie_record.specs.declared.task_record.TaskRecord.{TaskRecord}
use Rattle.pie_store.specs.Ranks.{Ranked}
use Rattle.pie_store.specs.inner.Ties.{tasks_among}
use Rattle.pie_store.proofs.Ranking.{zip_long}
use Rattle.pie_store.proofs.Tying.{task_there}
use Rattle.pie_store.proofs.ranked.RankedRows.record.Goals as goal

pub record_at-requires : goal.record_at-requires
record_at-requires c =
    let rows = c.self.inside.rows.items in
    let heights = c.self.inside.heights.items in
    let long : length (zip rows heights) ≡ length c.args.self.now = ap length c.self.view_is in
    rw c.as_slice.ensures.value (omega (arith, c.requires, long, zip_long rows heights c.self.invariant.ranked.same))

pub returns : goal.returns
returns c =
    let rows = c.self.inside.rows.items in
    let heights = c.self.inside.heights.items in
    let at : slice_get rows c.args.no.0 ≡ Some c.record_at.result.now =
    subst (λ (rs : List TaskRecord). slice_get rs c.args.no.0 ≡ Some c.record_at.result.now) c.as_slice.ensures.value c.record_at.ensures in
    subst (λ (s : Ranked). slice_get (tasks_among s) c.args.no.0 ≡ Some c.record_at.result.now.task) c.self.view_is
    (task_there rows heights c.args.no.0 c.record_at.result.now c.self.invariant.ranked.same at)
