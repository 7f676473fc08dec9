use Rattle.std.specs.Prelude.{All}
use Rattle.pie_cache.specs.inner.Contents.{IsNews}
use Rattle.pie_cache.specs.inner.Contents.{IsKeptOffer}
use Rattle.test_cache.proofs.keep_tests.with_paths.Given as goal

-- those that are left can be kept, and those so far have their paths
abbrev pub invariant-loop-entry : goal.invariant-loop-entry
invariant-loop-entry l = All IsKeptOffer l.entry-iterator.rest.items × All IsNews l.fresh.items
