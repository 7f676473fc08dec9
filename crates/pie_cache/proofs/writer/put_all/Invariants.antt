use Rattle.std.proofs.Common.{◌≡◌, ◌++◌, drop}
use Rattle.std.specs.List.{flat_map}
use Rattle.pie_record.proofs.Writing.{AllBelow}
use Rattle.pie_cache.specs.inner.Contents.{enc_offer, IsTrueOffer}
use Rattle.pie_cache.proofs.writer.put_all.Given as goal

abbrev pub invariant-loop-entry : goal.invariant-loop-entry
invariant-loop-entry l =
    (l.out.items ++ flat_map enc_offer (drop l.entry-index l.entries) ≡ l.fn.out.items ++ flat_map enc_offer l.entries) × AllBelow IsTrueOffer l.entries l.entry-index
