use Rattle.std.proofs.Common.{refl}
use Rattle.pie_fresh.proofs.BuiltLemmas.{stored_of}
use Rattle.pie_fresh.proofs.CleanLemmas.{accepted_clean}
use Rattle.pie_fresh.proofs.build.accepted.Goals as goal

pub returns-clause-stored : goal.returns-clause-stored
returns-clause-stored c =
    stored_of c.args.ledger.now c.in_ok-rows.rows.items c.args.roots.now _ refl refl c.requires.ledger c.requires.finished c.in_ok-rows.ensures.ordered
    c.requires.entered

pub returns-clause-clean : goal.returns-clause-clean
returns-clause-clean c =
    accepted_clean c.args.ledger.now c.args.roots.now c.in_ok-rows.rows.items c.in_ok-files.files.items c.in_ok-outputs.outputs.items c.requires.ledger
    c.in_ok-rows.ensures.rows c.in_ok-files.ensures.files c.in_ok-outputs.ensures
