use Rattle.std.proofs.Common.{◌≡◌, ℕ, List}
use Rattle.std.specs.Prelude.{All}
use Rattle.pie_cache.specs.inner.Contents.{IsNews, IsNewsIn}
use Rattle.pie_cache.specs.inner.Keeping.{held_for, last_for, or_else}
use Rattle.pie_cache.proofs.drafting.latest.Given as goal

-- the offers that are left can be kept, and so can those that are held; the last one of each path is among both
abbrev pub invariant-loop-path : goal.invariant-loop-path
invariant-loop-path l =
    All IsNews l.path-iterator.rest.items
    × All IsNewsIn l.latest.entries
    × ((q : List ℕ) → or_else (last_for l.path-iterator.rest.items q) (held_for l.latest q) ≡ last_for l.fn.fresh.items q)
