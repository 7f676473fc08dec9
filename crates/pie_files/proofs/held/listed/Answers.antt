use Rattle.std.proofs.Common.{rules, ◌≡◌, [], ◌∙◌}
use Rattle.std.specs.Map.Iter.{deref}
use Rattle.std.proofs.lemmas.Map.Iter.{rest_all}
use Rattle.pie_files.proofs.OrderedPaths.{ended, rising_in_order}
use Rattle.pie_files.proofs.held.listed.Goals as goal

pub returns : goal.returns
returns c =
    let none : c.loop-path.path-iterator
    ≡ [] = rest_all deref c.loop-path.path-iterator c.next.new.self c.next.result c.in-None.is c.next.ensures.steps in
    let start : c.into_iter-path-iterator.result ≡ c.args.paths.now.keys = search rules in
    ended c.loop-path.list.items c.loop-path.path-iterator c.into_iter-path-iterator.result c.loop-path.invariant none ∙ start
    ∙ rising_in_order c.args.paths.now.keys c.iter-path-items.ensures.ordered
