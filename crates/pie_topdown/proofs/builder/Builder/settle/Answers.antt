use Rattle.std.proofs.Common.{subst}
use Rattle.pie_record.specs.inner.Names.{Numbers}
use Rattle.pie_topdown.proofs.Rooting.{entered_settles}
use Rattle.pie_topdown.proofs.Totals.{ran_nothing, root_entered}
use Rattle.pie_topdown.proofs.Owning.{own_none}
use Rattle.pie_topdown.proofs.builder.Builder.settle.Goals as goal

pub returns-in_ok-unless_done-in-Some-clause-ends : goal.returns-in_ok-unless_done-in-Some-clause-ends
returns-in_ok-unless_done-in-Some-clause-ends g c = record {
  own = own_none (g.F.Files.holds c.args.files.now) (g.O.Offers.told c.args.offers.now) c.args.self.now;
  right = entered_settles (g.F.Files.holds c.args.files.now) (g.O.Offers.told c.args.offers.now) c.args.self.now c.in-Some._no.0 c.args.root.now
      c.in_ok-unless_done-in-Some.field-0 (subst (Numbers c.args.self.now.ledger.tables.names c.args.root.now) c.in-Some.is c.in_ok-_no.ensures)
      c.in_ok-unless_done-in-Some.ensures.none;
  ran = ran_nothing (g.F.Files.holds c.args.files.now) (g.O.Offers.told c.args.offers.now) c.args.root.now c.args.self.now c.args.runs.now c.in_ok-unless_done-in-Some.field-0;
  full = root_entered (g.F.Files.holds c.args.files.now) (g.O.Offers.told c.args.offers.now) c.args.self.now c.in-Some._no.0 c.args.root.now c.args.runs.now c.in_ok-unless_done-in-Some.field-0
      (subst (Numbers c.args.self.now.ledger.tables.names c.args.root.now) c.in-Some.is c.in_ok-_no.ensures) c.in_ok-unless_done-in-Some.ensures.none;
}
