use Rattle.std.proofs.Common.{◌∙◌}
use Rattle.pie_storable.proofs.Placing.{ranked_as}
use Rattle.pie_storable.proofs.heights.Heights.rank.Goals as goal

pub returns-clause-rank : goal.returns-clause-rank
returns-clause-rank c = λ rows are.
    c.at.ensures ∙ ranked_as c.args.self.now rows c.args.task.now c.as_slice.result.now are (c.as_slice.ensures.value ∙ c.in_ok-bytes.ensures.bytes)
