use Rattle.std.proofs.Common.{rules, ◌≡◌, [], ap, ◌∙◌, sym}
use Rattle.std.specs.FinMap as fin
use Rattle.std.specs.Map.{keys_of}
use Rattle.std.specs.Map.Iter.{deref}
use Rattle.std.proofs.lemmas.Map.Iter.{rest_all}
use Rattle.pie_files.specs.inner.Held.{with_all}
use Rattle.pie_files.proofs.Copies.{same_files}
use Rattle.pie_files.proofs.held.Held.copy.Goals as goal

pub returns : goal.returns
returns c =
    let none : c.loop-path.path-iterator
    ≡ [] = rest_all deref c.loop-path.path-iterator c.next.new.self c.next.result c.in-None.is c.next.ensures.steps in
    let start : c.into_iter-path-iterator.result ≡ keys_of c.self.inside.files.entries = search rules in
    ap (with_all c.args.self.now c.loop-path.copy) (sym none) ∙ c.loop-path.invariant
    ∙ ap (with_all c.args.self.now fin.empty) start
    ∙ ap (λ d. with_all d fin.empty (keys_of c.self.inside.files.entries)) (sym c.self.view_is)
    ∙ same_files c.self.inside.files.entries ∙ c.self.view_is
