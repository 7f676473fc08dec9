-- proofs/ledger/Ledger/places/Answers.antt
use Rattle.std.specs.Prelude.{length}
use Rattle.std.proofs.lemmas.List.Sorted.{IsPermutation-trans}
use Rattle.pie_fresh.proofs.Placing.{placed_sorted}
use Rattle.pie_fresh.proofs.ledger.Ledger.places.Goals as goal

pub returns : goal.returns
returns c =
    placed_sorted c.args.self.now (length c.args.self.now.heights.items) c.in_ok-places.places.items c.sort.new.self.items c.requires
    (record { distinct = c.as_slice-names.ensures.distinct; canonical = c.as_slice-names.ensures.canonical }) c.in_ok-places.ensures
    (IsPermutation-trans c.in_ok-places.places.items c.sort_by_key.new.self.items c.sort.new.self.items c.in_ok-sort_by_key.ensures.permutation
    c.in_ok-sort.ensures.permutation) c.in_ok-sort.ensures.sorted
