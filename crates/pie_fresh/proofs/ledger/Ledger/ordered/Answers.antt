use Rattle.std.proofs.Common.{length, sym, ap, subst, ◌∙◌}
use Rattle.pie_fresh.specs.inner.Ordered.{AreApart, recorded}
use Rattle.pie_fresh.proofs.Ordering.{ordered_rows}
use Rattle.pie_fresh.proofs.RowLemmas.{whole_rows}
use Rattle.pie_fresh.proofs.Taking.{places_apart, storable_rows}
use Rattle.pie_fresh.proofs.ledger.Ledger.ordered.Goals as goal

pub taken-requires : goal.taken-requires
taken-requires c =
    subst AreApart (sym c.as_slice.ensures.value)
    (places_apart c.args.self.now (length c.args.self.now.heights.items) c.in_ok-places.places.items c.in_ok-places.ensures)

pub returns-clause-storable : goal.returns-clause-storable
returns-clause-storable c =
    storable_rows c.args.self.now (length c.args.self.now.heights.items) c.in_ok-places.places.items c.in_ok-rows.rows.items c.requires
    c.in_ok-places.ensures (c.in_ok-rows.ensures ∙ ap (recorded c.args.self.now.records) c.as_slice.ensures.value)

pub returns-clause-ordered : goal.returns-clause-ordered
returns-clause-ordered c =
    ordered_rows c.args.self.now c.in_ok-places.places.items c.in_ok-rows.rows.items c.requires c.as_slice-names.ensures.distinct
    c.as_slice-names.ensures.canonical c.in_ok-places.ensures
    (c.in_ok-rows.ensures ∙ ap (recorded c.args.self.now.records) c.as_slice.ensures.value)

pub returns-clause-rows : goal.returns-clause-rows
returns-clause-rows c =
    whole_rows c.args.self.now c.in_ok-places.places.items c.in_ok-rows.rows.items c.requires c.as_slice-names.ensures.distinct
    c.as_slice-names.ensures.canonical c.in_ok-places.ensures
    (c.in_ok-rows.ensures ∙ ap (recorded c.args.self.now.records) c.as_slice.ensures.value)
