use Rattle.std.proofs.Common.{◌∙◌, ◌<◌, List, length, set, map, refl, sym, ap, subst, arith}
use Rattle.std.proofs.lemmas.List.{length-map}
use Rattle.pie_graph.specs.declared.edges.Edges.{Edges}
use Rattle.pie_graph.specs.Numbers.{numbers}
use Rattle.pie_graph.specs.Rows.{Row, row_of, row_at}
use Rattle.pie_union.specs.Requiring.{requiring}
use Rattle.pie_union.specs.declared.index.Index.{Index}
use Rattle.pie_union.specs.inner.Index.{AreKept}
use Rattle.pie_union.proofs.Growing.{on_err, numbers_pushed, row_like, same_rows, pushed_rows, kept_pushed}
use Rattle.pie_union.proofs.rows.UnionRows.push_need.Goals as goal

pub invariant_of-self : goal.invariant_of-self
invariant_of-self c =
    let items = c.self.inside.rows.items in
    let e = c.index_mut.result.now in
    let f : Edges = record { needs = c.reserve.new.self; reads = e.reads; lists = e.lists; writes = e.writes } in
    let within : c.args.from.0 < length items = omega (arith, c.requires.from, ap length c.self.view_is, length-map items row_of) in
    let same = same_rows items c.args.from.0 e f within c.index_mut.ensures.value (row_like e f _ (ap numbers c.reserve.ensures.items) refl refl refl) in
    subst (λ (rows : List Row). AreKept c.self.inside.index rows) (sym same) c.self.invariant

pub returns-in_err-reserve-clause-unchanged : goal.returns-in_err-reserve-clause-unchanged
returns-in_err-reserve-clause-unchanged c =
    let items = c.self.inside.rows.items in
    let e = c.index_mut.result.now in
    let f : Edges = record { needs = c.reserve.new.self; reads = e.reads; lists = e.lists; writes = e.writes } in
    let within : c.args.from.0 < length items = omega (arith, c.requires.from, ap length c.self.view_is, length-map items row_of) in
    let same = same_rows items c.args.from.0 e f within c.index_mut.ensures.value (row_like e f _ (ap numbers c.reserve.ensures.items) refl refl refl) in
    on_err c.from_residual.result (◌∙◌ {A = List Row} same c.self.view_is)

pub invariant_of-self-in_err-require : goal.invariant_of-self-in_err-require
invariant_of-self-in_err-require c =
    let items = c.self.inside.rows.items in
    let e = c.index_mut.result.now in
    let f : Edges = record { needs = c.reserve.new.self; reads = e.reads; lists = e.lists; writes = e.writes } in
    let within : c.args.from.0 < length items = omega (arith, c.requires.from, ap length c.self.view_is, length-map items row_of) in
    let same = same_rows items c.args.from.0 e f within c.index_mut.ensures.value (row_like e f _ (ap numbers c.reserve.ensures.items) refl refl refl) in
    subst (λ (rows : List Row). AreKept c.require.new.self rows) (sym same)
    (subst (λ (index : Index). AreKept index (map row_of items)) (sym c.in_err-require.ensures.unchanged) c.self.invariant)

pub returns-in_err-require-clause-unchanged : goal.returns-in_err-require-clause-unchanged
returns-in_err-require-clause-unchanged c =
    let items = c.self.inside.rows.items in
    let e = c.index_mut.result.now in
    let f : Edges = record { needs = c.reserve.new.self; reads = e.reads; lists = e.lists; writes = e.writes } in
    let within : c.args.from.0 < length items = omega (arith, c.requires.from, ap length c.self.view_is, length-map items row_of) in
    let same = same_rows items c.args.from.0 e f within c.index_mut.ensures.value (row_like e f _ (ap numbers c.reserve.ensures.items) refl refl refl) in
    on_err c.from_residual-in_err-require.result (◌∙◌ {A = List Row} same c.self.view_is)

pub invariant_of-self-2 : goal.invariant_of-self-2
invariant_of-self-2 c =
    let items = c.self.inside.rows.items in
    let rows = map row_of items in
    let i = c.args.from.0 in
    let k = c.args.to.0 in
    let e = c.index_mut.result.now in
    let f : Edges = record { needs = c.push.new.self; reads = e.reads; lists = e.lists; writes = e.writes } in
    let first : i < length rows = omega (arith, c.requires.from, ap length c.self.view_is) in
    let second : k < length rows = omega (arith, c.requires.to, ap length c.self.view_is) in
    let within : i < length items = omega (arith, first, length-map items row_of) in
    let more = numbers_pushed e.needs.items c.reserve.new.self.items c.push.new.self.items c.args.to c.in_ok-push.ensures.items c.reserve.ensures.items in
    let pushed = pushed_rows items i e f within c.index_mut.ensures.value k (row_like e f _ more refl refl refl) in
    subst (λ (rows : List Row). AreKept c.require.new.self rows) (sym pushed)
    (kept_pushed c.self.inside.index c.require.new.self rows c.self.invariant i k second (c.in_ok-require.ensures.required rows c.self.invariant.told first))

pub returns-clause-pushed : goal.returns-clause-pushed
returns-clause-pushed c =
    let items = c.self.inside.rows.items in
    let i = c.args.from.0 in
    let k = c.args.to.0 in
    let e = c.index_mut.result.now in
    let f : Edges = record { needs = c.push.new.self; reads = e.reads; lists = e.lists; writes = e.writes } in
    let within : i < length items = omega (arith, c.requires.from, ap length c.self.view_is, length-map items row_of) in
    let more = numbers_pushed e.needs.items c.reserve.new.self.items c.push.new.self.items c.args.to c.in_ok-push.ensures.items c.reserve.ensures.items in
    pushed_rows items i e f within c.index_mut.ensures.value k (row_like e f _ more refl refl refl)
    ∙ ap (λ (rows : List Row). set rows i (requiring (row_at rows i) k)) c.self.view_is
