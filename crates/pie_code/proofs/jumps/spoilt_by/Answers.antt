use Rattle.pie_code.proofs.Jumping.{spoils_none, spoils_itself}
use Rattle.pie_code.proofs.jumps.spoilt_by.Goals as goal

pub returns-then-jumps_out : goal.returns-then-jumps_out
returns-then-jumps_out c = spoils_none c.args.code.now c.args.from (λ at late. c.in_default.ensures at late) (c.jumps_out.ensures.0 c.if-jumps_out.true)

pub returns-else-jumps_out : goal.returns-else-jumps_out
returns-else-jumps_out c =
    spoils_itself c.args.code.now c.args.from (λ at late. c.in_default.ensures at late)
    (λ out. let e = c.jumps_out.ensures.1 out in let f = c.if-jumps_out.false in cc)
