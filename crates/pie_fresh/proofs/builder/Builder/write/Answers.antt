use Rattle.std.proofs.Common.{sym, subst}
use Rattle.pie_fresh.specs.inner.Means.{TurnMeans}
use Rattle.pie_fresh.proofs.Writing.{with_stage, write_turn}
use Rattle.pie_fresh.proofs.builder.Builder.write.Goals as goal

pub returns-clause-means : goal.returns-clause-means
returns-clause-means c = λ s A.
    subst (TurnMeans s (with_stage c.args.self.now c.write.new.stage)) (sym c.turn_of.ensures)
    (write_turn s c.args.self.now c.args.waiting c.args.path c.args.bytes c.write.new.stage c.in_ok-told.told A c.requires.left c.in_ok-told.ensures.told)
