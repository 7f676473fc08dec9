use Rattle.std.proofs.Common.{List, length, sym, subst, refl, arith}
use Rattle.std.specs.Prelude.{Contains}
use Rattle.pie_graph.specs.declared.edges.TaskNo.{TaskNo}
use Rattle.pie_graph.specs.Numbers.{AllBelow, numbers}
use Rattle.pie_fresh.proofs.BuiltLemmas.{pushed_below, pushed_live}
use Rattle.pie_fresh.proofs.ledger.Ledger.all_numbers.Goals as goal

pub loop-n-preserved : goal.loop-n-preserved
loop-n-preserved c = record {
  below = subst (λ (nos : List TaskNo). AllBelow (length c.args.self.now.names) (numbers nos)) (sym c.in_ok-push.ensures.items)
      (pushed_below (length c.args.self.now.names) c.loop-n.nos.items _ (omega arith) c.loop-n.invariant.below);
  live = λ k lt. subst (λ (nos : List TaskNo). Contains (numbers nos) k) (sym c.in_ok-push.ensures.items)
      (pushed_live c.loop-n.n c.loop-n.nos.items _ refl c.loop-n.invariant.live k lt);
}
