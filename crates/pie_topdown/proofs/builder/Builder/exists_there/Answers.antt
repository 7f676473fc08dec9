use Rattle.pie_topdown.proofs.Growing.{answered_goes}
use Rattle.pie_topdown.specs.inner.Sights.{ShowsOut}
use Rattle.pie_topdown.proofs.Happening.{exists_right, shown_here}
use Rattle.pie_topdown.proofs.builder.Builder.exists_there.Goals as goal

pub told-requires-clause-goes : goal.told-requires-clause-goes
told-requires-clause-goes g c =
    answered_goes c.args.self.now c.args.waiting.notes c.in_ok-told.told c.requires.noted c.in_ok-told.ensures.answered

pub returns-clause-right : goal.returns-clause-right
returns-clause-right g c =
    let rows = c.sight.result.rows.now in
    let stage = c.sight.result.stage.now in
    let n = c.args.waiting.notes in
    exists_right (g.F.Files.holds c.args.files.now) c.args.self.now c.told.new.self c.args.no.0 c.args.waiting c.args.path
    (λ o. ShowsOut rows stage n.number n.needs c.args.path o) c.in_ok-told.told c.in_ok-told-2.field-0 c.requires.number c.requires.waits.left
    c.requires.noted.ended c.in_ok-told.ensures.answered
    (λ o. shown_here c.args.self.now rows stage n c.args.path o c.sight.ensures.rows c.sight.ensures.stage) c.in_ok-told-2.ensures.right (λ d held. c.in_ok-told.ensures.tells d held)
