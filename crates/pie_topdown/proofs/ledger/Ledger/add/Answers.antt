use Rattle.std.proofs.Common.{refl}
use Rattle.pie_topdown.proofs.Keeping.{added_ledger, added_grows}
use Rattle.pie_topdown.proofs.ledger.Ledger.add.Goals as goal

pub returns-clause-ledger : goal.returns-clause-ledger
returns-clause-ledger c =
    added_ledger c.args.self.now _ c.args.task c.requires.ledger c.in_ok-no.ensures.tables c.in_ok-no.ensures.added.names c.in_ok-no.ensures.records
    c.in_ok-_no.ensures.added c.in_ok-push.ensures.items refl

pub returns-clause-grows : goal.returns-clause-grows
returns-clause-grows c = added_grows c.args.self.now _ c.args.task c.in_ok-no.ensures.added.names c.in_ok-no.ensures.records

pub returns-clause-names : goal.returns-clause-names
returns-clause-names c = c.in_ok-no.ensures.added.names

pub returns-clause-added : goal.returns-clause-added
returns-clause-added c = record {
  names = c.in_ok-no.ensures.added.names;
  records = c.in_ok-no.ensures.records;
  rows = c.in_ok-_no.ensures.added;
  places = c.in_ok-push.ensures.items;
  ran = c.in_ok-no.ensures.added.ran;
  tasks = record { distinct = c.as_slice-names.ensures.distinct; canonical = c.as_slice-names.ensures.canonical };
}
