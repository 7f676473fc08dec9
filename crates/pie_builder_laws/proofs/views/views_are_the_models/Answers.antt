use Rattle.pie_builder_laws.proofs.Shown.{is_shown}
use Rattle.pie_builder_laws.proofs.Provided.{provided_is}
use Rattle.pie_builder_laws.proofs.views.views_are_the_models.Goals as goal

pub returns-clause-shown : goal.returns-clause-shown
returns-clause-shown c = λ names records contents rows required us path seen a g e h. is_shown names records contents rows a g required us e path seen h

pub returns-clause-provided : goal.returns-clause-provided
returns-clause-provided c =
    λ w P root base names records fs f rows staged required us path seen a U g s e n h.
    provided_is w P root base names records fs f rows staged required us path seen a U g s e n h
