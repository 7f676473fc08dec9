use Rattle.std.proofs.Common.{◌∙◌, sym}
use Rattle.pie_code.specs.declared.instr.Instr.TheVariants.{Tick}
use Rattle.pie_code.proofs.Jumping.{jumps_to, jump_right, jump_outside}
use Rattle.pie_code.proofs.jumps.jump_is_right.Goals as goal

pub returns-else-at-to : goal.returns-else-at-to
returns-else-at-to c =
    let jumps = jumps_to c.args.code.now c.args.at c.in-Some.to Tick c.requires (sym c.target.ensures ∙ c.in-Some.is) in
    rw c.is_some.ensures (jump_right c.args.code.now c.args.at c.in-Some.to c.loop_at.result jumps c.if-to-code.true c.if-at-to.false c.loop_at.ensures)

pub returns-else-to-code : goal.returns-else-to-code
returns-else-to-code c =
    let jumps = jumps_to c.args.code.now c.args.at c.in-Some.to Tick c.requires (sym c.target.ensures ∙ c.in-Some.is) in
    jump_outside c.args.code.now c.args.at c.in-Some.to jumps c.if-to-code.false
