use Rattle.std.proofs.Common.{rules, ◌≡◌, [], ◌∙◌, subst, sym}
use Rattle.std.specs.List.Sorted.{IsStrictlySortedBy}
use Rattle.std.specs.Map.Iter.{deref}
use Rattle.std.proofs.lemmas.Map.Iter.{rest_all}
use Rattle.pie_files.proofs.OrderedPaths.{ended}
use Rattle.pie_scan.specs.Entries.{path_cmp}
use Rattle.pie_scan.proofs.order.listed.Goals as goal

pub returns-clause-same : goal.returns-clause-same
returns-clause-same c =
    let none : c.loop-path.path-iterator
    ≡ [] = rest_all deref c.loop-path.path-iterator c.next.new.self c.next.result c.in-None.is c.next.ensures.steps in
    let start : c.into_iter-path-iterator.result ≡ c.args.paths.now.keys = search rules in
    ended c.loop-path.list.items c.loop-path.path-iterator c.into_iter-path-iterator.result c.loop-path.invariant none ∙ start

pub returns-clause-ordered : goal.returns-clause-ordered
returns-clause-ordered c = subst (IsStrictlySortedBy path_cmp) (sym (returns-clause-same c)) c.iter-path-items.ensures.ordered
