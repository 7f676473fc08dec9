use Rattle.std.proofs.Common.{◌≡◌, drop}
use Rattle.std.specs.List.{fold}
use Rattle.std.specs.BTreeSet.{insert_key}
use Rattle.pie_store.specs.Pending.{path_cmp, in_order}
use Rattle.pie_store.proofs.pending.sorted.Given as goal

abbrev pub invariant-loop-path : goal.invariant-loop-path
invariant-loop-path l = fold (insert_key path_cmp) l.set.keys (drop l.path-index l.paths) ≡ in_order l.paths
