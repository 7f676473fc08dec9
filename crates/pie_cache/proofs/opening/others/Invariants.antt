use Rattle.std.proofs.Common.{◌≡◌, ◌++◌}
use Rattle.std.specs.List.{filter}
use Rattle.pie_cache.specs.inner.Clearing.{is_other}
use Rattle.pie_cache.proofs.opening.others.Given as goal

-- the paths so far and those that are left are those of all
abbrev pub invariant-loop-path : goal.invariant-loop-path
invariant-loop-path l = l.others.items ++ filter is_other l.path-iterator.rest.items ≡ filter is_other l.fn.paths.items
