use Rattle.std.proofs.Common.{◌∙◌, refl}
use Rattle.pie_graph.specs.Numbers.{numbers}
use Rattle.pie_graph.proofs.HasUse.{users_of}
use Rattle.pie_graph.proofs.uses.using.Goals as goal

pub returns : goal.returns
returns c =
    users_of c.args.rows.now _ c.args.what.now _ (numbers c.in_ok-found.found.items) refl (c.deref.ensures.value ∙ c.in_ok-marks.ensures) c.in_ok-found.ensures
