use Rattle.pie_topdown.proofs.Growing.{answered_goes}
use Rattle.pie_topdown.proofs.Happening.{list_right}
use Rattle.pie_topdown.proofs.builder.Builder.list.Goals as goal

pub told-requires-clause-goes : goal.told-requires-clause-goes
told-requires-clause-goes g c =
    answered_goes c.args.self.now c.args.waiting.notes c.in_ok-told.told c.requires.noted c.in_ok-told.ensures.answered

pub returns-clause-right : goal.returns-clause-right
returns-clause-right g c =
    list_right (g.F.Files.holds c.args.files.now) c.args.self.now c.told.new.self c.args.no.0 c.args.waiting c.args.dir c.in_ok-told.told c.in_ok-told-2.field-0
    c.requires.number c.requires.waits.left c.in_ok-told.ensures.answered (λ d held. c.in_ok-told.ensures.tells d held) c.in_ok-told-2.ensures.right
