use Rattle.std.proofs.Common.{◌∙◌, ap}
use Rattle.pie_bottomup.proofs.ExactResults.{made_of, stored_of}
use Rattle.pie_bottomup.proofs.state.Core.built.Goals as goal

pub returns-clause-exact : goal.returns-clause-exact
returns-clause-exact c =
    made_of c.args.self.now c.in_ok-built.built c.rows.result.now c.as_slice.result.now (c.rows.ensures ∙ ap (λ w. w.rows) c.walk.ensures)
    c.as_slice.ensures.value c.requires c.in_ok-built.ensures.makes c.in_ok-built.ensures.stored

pub returns-clause-stored : goal.returns-clause-stored
returns-clause-stored c =
    stored_of c.args.self.now c.in_ok-built.built c.rows.result.now c.as_slice.result.now (c.rows.ensures ∙ ap (λ w. w.rows) c.walk.ensures)
    c.as_slice.ensures.value c.requires c.as_slice-names.ensures.distinct c.in_ok-built.ensures.makes c.in_ok-built.ensures.stored
