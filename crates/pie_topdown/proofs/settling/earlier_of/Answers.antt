use Rattle.std.proofs.Common.{rules, [], inr, subst}
use Rattle.pie_old.specs.inner.Loaded.{AreTablesOf, IsLoaded}
use Rattle.pie_topdown.proofs.Planning.{many_rows}
use Rattle.pie_topdown.proofs.settling.earlier_of.Goals as goal

pub returns-clause-old : goal.returns-clause-old
returns-clause-old c =
    let none : AreTablesOf [] c.in_ok-tables-in-Many.tables = search rules in
    inr (many_rows c.args.rows c.in-Many.field-0 (subst (IsLoaded c.args.rows) c.in-Many.is c.in_ok-old.ensures), none)
