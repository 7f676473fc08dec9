use Rattle.std.proofs.Common.{sym, subst}
use Rattle.std.specs.Prelude.{All}
use Rattle.std.proofs.lemmas.List.Elements.{All-push}
use Rattle.pie_record.specs.Canonical.{IsStorable}
use Rattle.test_old.proofs.storable_tests.records.Goals as goal

pub loop-name-preserved : goal.loop-name-preserved
loop-name-preserved c =
    subst (All IsStorable) (sym c.in_ok-push.ensures.items)
    (All-push IsStorable c.loop-name.rows.items c.in_ok-rec.rec c.loop-name.invariant c.in_ok-rec.ensures)
