use Rattle.std.proofs.Common.{ap, ◌∙◌}
use Rattle.std.specs.FinMap as fin
use Rattle.pie_files.specs.inner.Held.{content_of}
use Rattle.pie_files.proofs.HeldLemmas.{one_set}
use Rattle.pie_files.proofs.held.Held.insert.Goals as goal

pub returns-clause-set : goal.returns-clause-set
returns-clause-set c =
    one_set c.self.inside.files.entries c.insert.new.self.entries c.args.path c.args.found c.in_ok-_old.ensures.updates.0
    ∙ ap (λ d. fin.insert d c.args.path (content_of c.args.found)) c.self.view_is
