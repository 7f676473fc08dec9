use Rattle.std.proofs.Common.{◌≡◌, ◌∙◌, [], ap, sym, subst, List, length, set, arith, ◌<◌}
use Rattle.pie_graph.specs.declared.edges.TaskNo.{TaskNo}
use Rattle.pie_graph.specs.Numbers.{numbers}
use Rattle.pie_graph.specs.Rows.{Row, row_of, row_at}
use Rattle.pie_view.specs.inner.Entered.{AreLasts, Spans}
use Rattle.pie_view.proofs.Entering.{lasts_set, lasts_kept}
use Rattle.pie_view.proofs.entered.EnteredRows.fill.Goals as goal

pub invariant_of-self-then-at-len : goal.invariant_of-self-then-at-len
invariant_of-self-then-at-len c =
    let rows = c.self.inside.rows in
    let lasts = c.self.inside.lasts.items in
    let n = c.args.no.0 in
    let row = row_of c.args.edges in
    let l : n < length rows = subst (λ (rs : List Row). n < length rs) (sym c.self.view_is) c.requires.number in
    let blank : (row_at rows n).needs ≡ [] = ap (λ (rs : List Row). (row_at rs n).needs) c.self.view_is ∙ c.requires.blank in
    let spans : Spans rows row.needs n c.last_under-last.result
    = subst (λ (rs : List Row). Spans rs row.needs n c.last_under-last.result) (sym c.self.view_is)
    (subst (λ (ts : List TaskNo). Spans c.args.self.now (numbers ts) n c.last_under-last.result) c.as_slice.ensures.value c.last_under-last.ensures) in
    subst (AreLasts (set lasts n c.last_under-last.result)) (sym c.in_ok-set_edges.ensures.set)
    (lasts_set lasts rows n row c.last_under-last.result l (omega (arith, c.if-at-len.true, c.len.ensures)) blank spans c.self.invariant)

pub invariant_of-self-else-at-len : goal.invariant_of-self-else-at-len
invariant_of-self-else-at-len c =
    let rows = c.self.inside.rows in
    let n = c.args.no.0 in
    let blank : (row_at rows n).needs ≡ [] = ap (λ (rs : List Row). (row_at rs n).needs) c.self.view_is ∙ c.requires.blank in
    subst (AreLasts c.self.inside.lasts.items) (sym c.in_ok-set_edges.ensures.set)
    (lasts_kept c.self.inside.lasts.items rows n (row_of c.args.edges) blank c.self.invariant)
