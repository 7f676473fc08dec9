-- What the last checks answer.
use Rattle.std.proofs.Common.{◌≡◌, List, Option, subst}
use Rattle.pie_value.specs.declared.verdict.Refusal.{Refusal}
use Rattle.pie_graph.specs.declared.edges.TaskNo.{TaskNo}
use Rattle.pie_graph.specs.Numbers.{numbers}
use Rattle.pie_checks.specs.Records.{Wrote, Missed}
use Rattle.pie_checks.specs.Refusals.{FindsFirst}
use Rattle.pie_tables.specs.declared.tables.Tables.{Tables}

pub found_of : (t : Tables) (given live : List TaskNo) (answer why : Option Refusal) → given ≡ live → answer ≡ why
    → FindsFirst (Wrote t.names t.records (numbers given)) (Missed t.names t.records (numbers given)) answer
    → FindsFirst (Wrote t.names t.records (numbers live)) (Missed t.names t.records (numbers live)) why
found_of t given live answer why e f found =
    subst (FindsFirst (Wrote t.names t.records (numbers live)) (Missed t.names t.records (numbers live))) f
    (subst (λ (ns : List TaskNo). FindsFirst (Wrote t.names t.records (numbers ns)) (Missed t.names t.records (numbers ns)) answer) e found)
