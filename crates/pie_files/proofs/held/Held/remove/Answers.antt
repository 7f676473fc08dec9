use Rattle.std.proofs.Common.{ap, ◌∙◌}
use Rattle.std.specs.FinMap as fin
use Rattle.pie_files.proofs.HeldLemmas.{one_removed}
use Rattle.pie_files.proofs.held.Held.remove.Goals as goal

pub returns : goal.returns
returns c =
    one_removed c.self.inside.files.entries c.remove-old.new.self.entries c.args.path.now c.remove-old.ensures.updates.0
    ∙ ap (λ d. fin.remove d c.args.path.now) c.self.view_is
