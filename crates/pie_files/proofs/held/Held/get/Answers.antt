use Rattle.std.proofs.Common.{sym, ap, ◌∙◌}
use Rattle.std.specs.Option.{option_map}
use Rattle.std.specs.FinMap as fin
use Rattle.pie_files.specs.inner.Held.{content_of}
use Rattle.pie_files.proofs.HeldLemmas.{get_held}
use Rattle.pie_files.proofs.held.Held.get.Goals as goal

pub returns : goal.returns
returns c = ap (option_map content_of) c.get.ensures.value ∙ sym
    (get_held c.self.inside.files.entries c.args.path.now) ∙ ap (λ d. fin.get d c.args.path.now) c.self.view_is
