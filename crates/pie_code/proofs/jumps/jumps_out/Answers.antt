use Rattle.pie_code.specs.Scans.{LoopIsRight}
use Rattle.pie_code.proofs.Jumping.{both}
use Rattle.pie_code.proofs.jumps.jumps_out.Goals as goal

pub returns-then-jump_is_right : goal.returns-then-jump_is_right
returns-then-jump_is_right c = both {Q = LoopIsRight c.args.code.now c.args.at} c.loop_is_right.result
    (c.jump_is_right.ensures.0 c.if-jump_is_right.true) c.loop_is_right.ensures
