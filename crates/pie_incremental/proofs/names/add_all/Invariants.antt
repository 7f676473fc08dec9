use Rattle.std.proofs.Common.{◌≡◌, drop}
use Rattle.std.specs.List.{fold}
use Rattle.std.specs.BTreeSet.{insert_key}
use Rattle.pie_store.specs.Pending.{path_cmp}
use Rattle.pie_incremental.proofs.names.add_all.Given as goal

abbrev pub invariant-loop-path : goal.invariant-loop-path
invariant-loop-path l = fold (insert_key path_cmp) l.set.keys (drop l.path-index l.paths) ≡ fold (insert_key path_cmp) l.fn.set.keys l.paths
