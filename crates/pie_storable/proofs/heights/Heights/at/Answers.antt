use Rattle.std.proofs.Common.{◌∙◌}
use Rattle.pie_storable.proofs.Placing.{looked_up}
use Rattle.pie_storable.proofs.heights.Heights.at.Goals as goal

pub returns : goal.returns
returns c = c.copied.ensures ∙ c.get.ensures.value ∙ looked_up c.args.self.now.by_bytes.entries c.args.bytes.now
