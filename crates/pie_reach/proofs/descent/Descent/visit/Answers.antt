use Rattle.std.proofs.Common.{◌∙◌, ◌<◌, length, refl, arith}
use Rattle.pie_reach.specs.declared.descent.Visit.{Visit}
use Rattle.pie_reach.proofs.Turning.{visit_starts, state_read}
use Rattle.pie_reach.proofs.descent.Descent.visit.Goals as goal

pub run-requires : goal.run-requires
run-requires g c =
    let states = c.args.self.now.states.items in
    let first : Visit = record { no = c.args.no; next = 0 } in
    let within : c.args.no.0 < length states = omega (arith, c.requires.holds.sized, c.requires.number) in
    visit_starts (g.R.TaskRows.rows c.args.rows.now) states c.enter.new.self.states.items c.args.self.now.stack.items c.enter.new.self.stack.items first
    c.requires.holds c.requires.empty c.in_ok-enter-in-New.ensures.stack refl c.in_ok-enter-in-New.ensures.states c.requires.number
    (state_read states c.args.no.0 c.index.result.now within c.index.ensures ∙ c.in-New.is)
