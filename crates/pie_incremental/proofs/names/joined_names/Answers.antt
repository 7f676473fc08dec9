use Rattle.std.proofs.Common.{ℕ, List, ◌++◌, sym, subst, ◌∙◌}
use Rattle.pie_store.specs.Pending.{AreInPathOrder}
use Rattle.pie_store.proofs.InOrder.{in_path_order}
use Rattle.pie_incremental.proofs.names.joined_names.Goals as goal

pub returns-clause-order : goal.returns-clause-order
returns-clause-order c =
    subst (λ (names : List (List ℕ)). AreInPathOrder names (c.args.named.now ++ c.args.pending.now))
    (sym (c.in_ok-names.ensures ∙ c.in_ok-set.ensures))
    (in_path_order (c.args.named.now ++ c.args.pending.now))
