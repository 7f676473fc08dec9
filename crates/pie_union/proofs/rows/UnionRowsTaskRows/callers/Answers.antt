use Rattle.std.proofs.Common.{ℕ, List, ap, sym, subst}
use Rattle.pie_graph.specs.Numbers.{numbers, Exactly}
use Rattle.pie_graph.specs.Rows.{Calls}
use Rattle.pie_union.proofs.rows.UnionRowsTaskRows.callers.Goals as goal

pub returns : goal.returns
returns c =
    subst (λ (ns : List ℕ). Exactly (λ k. Calls c.args.self.now k c.args.no.0) ns) (sym (ap numbers c.in_ok-from_slice.ensures.items)) c.callers_of.ensures
