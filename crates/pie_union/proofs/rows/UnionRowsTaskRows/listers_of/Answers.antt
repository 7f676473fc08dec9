use Rattle.std.proofs.Common.{ℕ, List, subst}
use Rattle.std.proofs.lemmas.Result.{IfOk-weaker}
use Rattle.pie_graph.specs.Numbers.{numbers, Exactly}
use Rattle.pie_graph.specs.Rows.{Lists}
use Rattle.pie_union.proofs.rows.UnionRowsTaskRows.listers_of.Goals as goal

pub returns : goal.returns
returns c = IfOk-weaker c.users.result _ _
    (λ found x. subst (λ (p : List ℕ). Exactly (λ k. Lists c.args.self.now k p) (numbers found.items)) (c.in_ok-copy.ensures) x)
    c.users.ensures
