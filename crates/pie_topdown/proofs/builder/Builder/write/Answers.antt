use Rattle.pie_topdown.proofs.Happening.{write_right}
use Rattle.pie_topdown.proofs.builder.Builder.write.Goals as goal

pub returns-clause-right : goal.returns-clause-right
returns-clause-right c =
    write_right c.args.self.now c.write.new.stage c.told.new.self c.args.no.0 c.args.waiting c.args.path c.args.bytes c.in_ok-told.told c.told.result
    c.requires.site c.requires.number c.requires.waits.left c.in_ok-told.ensures.answered c.in_ok-told.ensures.told c.told.ensures.right
