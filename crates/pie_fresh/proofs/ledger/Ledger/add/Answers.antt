use Rattle.std.proofs.Common.{length, ap, refl, ◌∙◌}
use Rattle.std.proofs.lemmas.List.{length-append}
use Rattle.pie_fresh.proofs.LedgerLemmas.{added_ledger}
use Rattle.pie_fresh.proofs.Rising.{entered_grows}
use Rattle.pie_fresh.proofs.ledger.Ledger.add.Goals as goal

pub returns-clause-enters : goal.returns-clause-enters
returns-clause-enters c = record {
  ledger = added_ledger c.args.self.now _ c.args.task c.requires.ledger c.requires.few c.in_ok-no.ensures.added
      (ap length c.in_ok-_no.ensures.added ∙ length-append _ _) c.in_ok-push.ensures.items refl refl;
  names = c.in_ok-no.ensures.added;
  grows = entered_grows c.args.self.now _ c.args.task c.requires.ledger c.in_ok-no.ensures.added refl c.in_ok-push.ensures.items refl;
  rows = c.in_ok-_no.ensures.added;
  tasks = record { distinct = c.as_slice-names.ensures.distinct; canonical = c.as_slice-names.ensures.canonical };
}
