use Rattle.std.proofs.Common.{◌≡◌, ◌++◌, map}
use Rattle.std.specs.Prelude.{All}
use Rattle.pie_cache.specs.inner.Contents.{IsNews}
use Rattle.pie_topdown_build.specs.inner.Offered.{IsNew}
use Rattle.pie_cached.specs.inner.News.{placed}
use Rattle.pie_cached.proofs.building.with_paths.Given as goal

-- those that are left can be kept, and those so far have their paths
abbrev pub invariant-loop-digest : goal.invariant-loop-digest
invariant-loop-digest l =
    All IsNew l.digest-iterator.rest.items × All IsNews l.fresh.items × (l.fresh.items ++ map placed l.digest-iterator.rest.items ≡ map placed l.fn.new.items)
