use Rattle.pie_builder_laws.proofs.Provided.{numbers_stay, graph_grows, graph_changes}
use Rattle.pie_builder_laws.proofs.views.graphs_go_on.Goals as goal

pub returns-clause-numbers : goal.returns-clause-numbers
returns-clause-numbers c = λ names t numbers tasks e. numbers_stay names t numbers tasks e

pub returns-clause-grows : goal.returns-clause-grows
returns-clause-grows c = λ names records rows t g. graph_grows names records rows t g

pub returns-clause-changes : goal.returns-clause-changes
returns-clause-changes c = λ names old new rows n row rec g p l now. graph_changes names old new rows n row rec g p l now
