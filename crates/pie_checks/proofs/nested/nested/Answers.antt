use Rattle.std.proofs.Common.{List, ℕ, subst, sym}
use Rattle.pie_checks.specs.Refusals.{Nests, IsLeastPair}
use Rattle.pie_checks.specs.Listings.{IsListed}
use Rattle.pie_checks.specs.Searches.{IsFirstBelow}
use Rattle.pie_checks.proofs.NestedFacts.{nested_least, no_nested, none_more}
use Rattle.pie_checks.proofs.nested.nested.Goals as goal

pub returns-in-Some : goal.returns-in-Some
returns-in-Some c =
    let writes = c.args.writes.now in
    subst (λ (path : List ℕ). IsLeastPair (Nests (IsListed writes)) path c.in-Some.below) (sym c.in_ok-copy.ensures)
    (nested_least writes c.loop-entry.entry-index c.entry-item.result c.in-Some.below c.requires c.loop-entry-test.true c.entry-item.is
    (subst (IsFirstBelow writes c.entry-item.result.0) c.in-Some.is c.in_ok-below.ensures) c.loop-entry.invariant)

pub loop-entry-preserved : goal.loop-entry-preserved
loop-entry-preserved c =
    none_more c.args.writes.now c.loop-entry.entry-index c.entry-item.result c.loop-entry-test.true c.entry-item.is
    (subst (IsFirstBelow c.args.writes.now c.entry-item.result.0) c.in_default.is c.in_ok-below.ensures) c.loop-entry.invariant

pub returns : goal.returns
returns c = no_nested c.args.writes.now c.loop-entry.entry-index c.loop-entry-test.false c.loop-entry.invariant
