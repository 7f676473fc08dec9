use Rattle.std.proofs.Common.{ap, ◌∙◌}
use Rattle.pie_union.specs.inner.Among.{among}
use Rattle.pie_union.proofs.Ascends.{answer_is, shown}
use Rattle.pie_union.proofs.ascending.Ascending.contains.Goals as goal

pub returns : goal.returns
returns c =
    let ts = c.self.inside.nos.items in
    let x = c.args.no.0 in
    let found = shown x c.deref.result.now ts c.binary_search.result c.deref.ensures.value c.binary_search.ensures.position in
    c.is_ok.ensures.value ∙ answer_is ts x c.self.invariant c.binary_search.result found ∙ ap (λ ns. among ns x) c.self.view_is
