use Rattle.std.proofs.Common.{ℕ, List, subst, sym, ap, ◌∙◌}
use Rattle.std.specs.Prelude.{Some}
use Rattle.pie_store.specs.inner.Agreement.{AgreesWhole}
use Rattle.pie_store.specs.Ranks.{knows}
use Rattle.pie_store.specs.inner.Known.{known_in}
use Rattle.pie_store.proofs.Closing.{contents_2_is}
use Rattle.pie_store.proofs.decoding.image_2.Goals as goal

pub returns : goal.returns
returns c =
    subst (AgreesWhole c.tail.result)
    (sym (contents_2_is c.args.end c.args.reader.now c.funcs.new.reader (known_in c.in_ok-known.known) c.in_ok-funcs.funcs.items
    (λ name. c.in_ok-known.ensures name ∙ ap (λ (fs : List (List ℕ × List ℕ)). knows (Some fs) name) c.as_slice.ensures.value) c.in_ok-funcs.ensures))
    c.tail.ensures
