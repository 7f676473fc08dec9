use Rattle.std.proofs.Common.{rules, ◌≡◌, [], ap, ◌∙◌, subst, sym, List, ℕ}
use Rattle.std.specs.Prelude.{IfOk}
use Rattle.std.specs.List.{filter_map}
use Rattle.std.specs.FinMap as fin
use Rattle.std.specs.Map.{keys_of}
use Rattle.std.specs.Map.Iter.{deref}
use Rattle.std.proofs.lemmas.Map.Iter.{rest_all}
use Rattle.pie_base.specs.Path.{entry_on_way}
use Rattle.pie_files.specs.Directory.{in_path_order, entries_of}
use Rattle.pie_files.proofs.OrderedPaths.{all_gained, paths_held}
use Rattle.pie_files.proofs.held.Held.names.Goals as goal

pub returns : goal.returns
returns c =
    let way = λ (ps : List (List ℕ)). filter_map (entry_on_way c.args.dir.now) ps in
    let none : c.loop-path.path-iterator
    ≡ [] = rest_all deref c.loop-path.path-iterator c.next.new.self c.next.result c.in-None.is c.next.ensures.steps in
    let start : c.into_iter-path-iterator.result ≡ keys_of c.self.inside.files.entries = search rules in
    let e : in_path_order c.loop-path.entries.keys ≡ entries_of c.args.self.now c.args.dir.now =
    all_gained c.loop-path.entries.keys (way c.loop-path.path-iterator) (way c.into_iter-path-iterator.result) c.loop-path.invariant (ap way none)
    ∙ ap (λ ps. in_path_order (way ps)) (start ∙ sym (paths_held c.self.inside.files.entries c.keys-path-items.ensures.ordered)
    ∙ ap fin.keys c.self.view_is) in
    subst (λ ps. IfOk c.listed.result (λ paths. paths.items ≡ ps)) e c.listed.ensures
