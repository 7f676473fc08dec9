use Rattle.std.proofs.Common.{◌≡◌, ◌∷◌, subst, rules}
use Rattle.std.specs.Prelude.{All}
use Rattle.std.proofs.lemmas.List.Elements.{All-tail}
use Rattle.pie_cache.specs.inner.Contents.{IsKeptOffer}
use Rattle.test_cache.proofs.keep_tests.with_paths.Goals as goal

pub loop-entry-preserved : goal.loop-entry-preserved
loop-entry-preserved c =
    let rest = c.next.new.self.rest.items in
    let next : c.loop-entry.entry-iterator.rest.items ≡ c.in-Some.entry ∷ rest = search rules in
    (All-tail IsKeptOffer c.in-Some.entry rest (subst (All IsKeptOffer) next c.loop-entry.invariant.0), c.in_ok-push_with_path.ensures)
