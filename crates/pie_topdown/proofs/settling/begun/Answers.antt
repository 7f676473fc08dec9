use Rattle.std.proofs.Common.{refl, sym, subst}
use Rattle.pie_topdown.specs.inner.Rooted.{IsUnbegun}
use Rattle.pie_topdown.proofs.settling.begun.Goals as goal

pub returns-clause-unbegun : goal.returns-clause-unbegun
returns-clause-unbegun c = subst IsUnbegun (sym c.in_ok-builder.ensures.ok) (record {
  names = c.in_ok-ledger.ensures.none;
  stage = c.new-2.ensures;
  known = c.new-3.ensures.right;
  stack = c.new-4.ensures.items;
  calm = refl;
  reused = c.new-5.ensures.items;
})
