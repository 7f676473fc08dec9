use Rattle.std.proofs.Common.{rules, ◌≡◌, [], ap, ◌∙◌, sym}
use Rattle.std.specs.List.{filter}
use Rattle.std.specs.FinMap as fin
use Rattle.std.specs.Map.{keys_of}
use Rattle.std.specs.Map.Iter.{deref}
use Rattle.std.proofs.lemmas.Map.Iter.{rest_all}
use Rattle.pie_base.specs.Path.{is_below}
use Rattle.pie_files.proofs.OrderedPaths.{ended, paths_held}
use Rattle.pie_files.proofs.held.Held.all_under.Goals as goal

pub returns : goal.returns
returns c =
    let none : c.loop-path.path-iterator
    ≡ [] = rest_all deref c.loop-path.path-iterator c.next.new.self c.next.result c.in-None.is c.next.ensures.steps in
    let start : c.into_iter-path-iterator.result ≡ keys_of c.self.inside.files.entries = search rules in
    ended c.loop-path.found.items (filter (is_below c.args.dir.now) c.loop-path.path-iterator) (filter
    (is_below c.args.dir.now) c.into_iter-path-iterator.result)
    c.loop-path.invariant (ap (filter (is_below c.args.dir.now)) none)
    ∙ ap (filter (is_below c.args.dir.now)) (start ∙ sym (paths_held c.self.inside.files.entries c.keys-path-items.ensures.ordered)
    ∙ ap fin.keys c.self.view_is)
