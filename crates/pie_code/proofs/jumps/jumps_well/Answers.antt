use Rattle.pie_code.proofs.Jumping.{well_unless_late, not_well}
use Rattle.pie_code.proofs.jumps.jumps_well.Goals as goal

pub returns-then-jumps_out : goal.returns-then-jumps_out
returns-then-jumps_out c = well_unless_late c.args.code.now c.args.at c.is_jumped_to_late.result
    (c.jumps_out.ensures.0 c.if-jumps_out.true) c.is_jumped_to_late.ensures

pub returns-else-jumps_out : goal.returns-else-jumps_out
returns-else-jumps_out c = not_well c.args.code.now c.args.at c.jumps_out.result c.if-jumps_out.false c.jumps_out.ensures
