use Rattle.std.proofs.Common.{◌∙◌, ap, sym, ℕ, List, ◌==◌, arith}
use lib.Pointwise.{pointwise}
use Rattle.pie_codegen.proofs.Scoped.{hit, miss}
use Rattle.pie_codegen.proofs.scope.newest.Goals as goal

pub returns-then-eq : goal.returns-then-eq
returns-then-eq c =
    hit c.args.bound.now c.args.name.now c.loop-left.left c.index-bound-left.result (omega (arith, c.loop-left-test.true)) c.loop-left.invariant.within
    c.index-bound-left.is (ap (λ (n : List ℕ). pointwise ◌==◌ c.args.name.now n) (sym c.as_str.ensures) ∙ sym c.eq.ensures ∙ c.if-eq.true)
    c.loop-left.invariant.slot

pub loop-left-preserved : goal.loop-left-preserved
loop-left-preserved c = record {
  within = omega (arith, c.loop-left.invariant.within);
  slot = miss c.args.bound.now c.args.name.now c.loop-left.left c.index-bound-left.result (omega (arith, c.loop-left-test.true)) c.loop-left.invariant.within
      c.index-bound-left.is (ap (λ (n : List ℕ). pointwise ◌==◌ c.args.name.now n) (sym c.as_str.ensures) ∙ sym c.eq.ensures ∙ c.if-eq.false)
      c.loop-left.invariant.slot;
}
