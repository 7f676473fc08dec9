use Rattle.std.proofs.Common.{List, sym, subst}
use Rattle.std.specs.Prelude.{All}
use Rattle.pie_value.specs.declared.task.Task.{Task}
use Rattle.pie_old.specs.inner.Rows.{AreNamed}
use Rattle.pie_old.proofs.Earlier.{distinct_in, named_in}
use Rattle.pie_old.proofs.tying.made.Goals as goal

pub names_of-requires-clause-distinct : goal.names_of-requires-clause-distinct
names_of-requires-clause-distinct c = distinct_in c.args.rows.now c.requires.order

pub all_needs-requires-clause-named : goal.all_needs-requires-clause-named
all_needs-requires-clause-named c =
    subst (λ (ts : List Task). All (AreNamed ts) c.args.rows.now) (sym c.in_ok-names.ensures) (named_in c.args.rows.now c.requires.order)
