-- Tasks that have a list of callers.
use Rattle.std.proofs.Common.{◌≡◌, ℕ, ◌<◌, List, length, get_or, arith}
use Rattle.std.proofs.lemmas.List.{length-map}
use Rattle.pie_graph.specs.declared.edges.TaskNo.{TaskNo}
use Rattle.pie_graph.specs.Numbers.{numbers, AllBelow}
use Rattle.pie_union.proofs.Ascends.{number_at}

-- each of these tasks has its list, as long as there are as many lists
pub below_now : (bound now : ℕ) (callees : List TaskNo) (i : ℕ) (d : TaskNo) → AllBelow bound (numbers callees) → now ≡ bound → i < length callees
    → (get_or callees i d).0 < now
below_now bound now callees i d below same l =
    let held : get_or (numbers callees) i d.0 < bound = below i d.0 (omega (arith, length-map callees (λ (t : TaskNo). t.0))) in
    omega (arith, held, number_at callees i d)
