use Rattle.pie_builder_laws.proofs.Tabled.{needs_called}
use Rattle.pie_builder_laws.proofs.names.needs_are_called.Goals as goal

pub returns : goal.returns
returns c = λ deps. needs_called deps
