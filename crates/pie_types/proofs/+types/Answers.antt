use Rattle.std.proofs.Common.{◌≡◌, ◌++◌, ◌∷◌, [], Some, None, sym, ap, ◌∙◌, arith}
use Rattle.std.proofs.lemmas.List.{map-append}
use Rattle.pie_value.specs.TypeTrees.{ty_tree, ty_trees}
use Rattle.pie_parser.specs.declared.tree.Form.TheVariants as forms
use Rattle.pie_types.specs.inner.Callees.{callee_tree}
use Rattle.pie_types.proofs.Left.{line_mass_at, step_mass_at, tree_mass_at}
use Rattle.pie_types.proofs.Steps.{arguments_next, lines_keep, onto_nothing}
use Rattle.pie_types.proofs.+types.Goals as goal

pub call::arguments-loop-i-preserved : goal.call::arguments-loop-i-preserved
call::arguments-loop-i-preserved t c =
    let q : ty_trees c.push.new.self.items ≡ ty_trees c.loop-i.types.items ++ ty_tree c.in_ok-fit.fit ∷ [] =
    ap ty_trees c.in_ok-push.ensures.items ∙ map-append ty_tree c.loop-i.types.items (c.in_ok-fit.fit ∷ []) in
    record {
      scope = c.in_ok-ty.ensures.scope ∙ c.loop-i.invariant.scope;
      typed = rw (q, c.in_ok-ty.ensures.scope)
          (arguments_next c.args.headings.now c.loop-i.scope (callee_tree c.args.callee.now) (ty_trees c.loop-i.types.items) c.args.items.now c.loop-i.i
          c.index-items-i.result (ty_tree c.in_ok-ty.ty) (ty_tree c.in_ok-fit.fit) _ c.loop-i-test.true c.index-items-i.is c.in_ok-ty.ensures.typed
          c.in_ok-fit.ensures c.loop-i.invariant.typed);
    }

pub expr::type_of-returns-in-Call-clause-typed : goal.expr::type_of-returns-in-Call-clause-typed
expr::type_of-returns-in-Call-clause-typed t c = rw (sym c.e.view_is, c.in-Call.is, sym c.as_slice-in-Call.ensures.value) c.call.ensures.typed

pub expr::type_of-returns-in-Chain-clause-typed : goal.expr::type_of-returns-in-Chain-clause-typed
expr::type_of-returns-in-Chain-clause-typed t c = rw (sym c.e.view_is, c.in-Chain.is, sym c.deref.ensures, sym c.as_slice.ensures.value) c.chain.ensures.typed

pub expr::type_of-returns-in-None-clause-typed : goal.expr::type_of-returns-in-None-clause-typed
expr::type_of-returns-in-None-clause-typed t c =
    let is : c.e.inside.form ≡ forms.If c.in-If.test c.in-If.then None = c.in-If.is ∙ ap (λ o. forms.If c.in-If.test c.in-If.then o) c.in-None.is in
    rw (sym c.e.view_is, is, sym c.deref-in-None.ensures, sym c.deref-in-None-2.ensures) c.alone.ensures.typed

pub expr::type_of-returns-in-Some-clause-typed : goal.expr::type_of-returns-in-Some-clause-typed
expr::type_of-returns-in-Some-clause-typed t c =
    let is : c.e.inside.form ≡ forms.If c.in-If.test c.in-If.then (Some c.in-Some.block) = c.in-If.is
    ∙ ap (λ o. forms.If c.in-If.test c.in-If.then o) c.in-Some.is in
    rw (sym c.e.view_is, is, sym c.deref-in-Some.ensures, sym c.deref-in-Some-2.ensures, sym c.deref-in-Some-3.ensures) c.choice.ensures.typed

pub expr::types_of-type_of-requires : goal.expr::types_of-type_of-requires
expr::types_of-type_of-requires t c = grind (arith, tree_mass_at)

pub expr::more_items-expected-requires : goal.expr::more_items-expected-requires
expr::more_items-expected-requires t c = grind (arith, tree_mass_at)

pub chain::operands-expected-requires : goal.chain::operands-expected-requires
chain::operands-expected-requires t c = grind (arith, step_mass_at)

pub block::after_lines-after_line-requires : goal.block::after_lines-after_line-requires
block::after_lines-after_line-requires t c = grind (arith, line_mass_at)

pub call::arguments-type_of-requires : goal.call::arguments-type_of-requires
call::arguments-type_of-requires t c = grind (arith, tree_mass_at)

pub expr::types_of-loop-item-init : goal.expr::types_of-loop-item-init
expr::types_of-loop-item-init t c = grind (arith, onto_nothing)

pub block::block_type-returns-clause-scope : goal.block::block_type-returns-clause-scope
block::block_type-returns-clause-scope t c = grind (arith, lines_keep)
