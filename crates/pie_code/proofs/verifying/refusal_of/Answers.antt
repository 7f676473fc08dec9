use Rattle.pie_code.proofs.Judging.{height_refused_at}
use Rattle.pie_code.proofs.verifying.refusal_of.Goals as goal

pub returns-in-Some : goal.returns-in-Some
returns-in-Some c =
    height_refused_at c.args.code.now c.len.result c.limit_of-limit.result c.deref.result.now c.deref-2.result.now c.first_bad_jump-jump.result
    c.first_bad_slot-slot.result c.in_ok-height.height
    c.in-Some.at c.deref.ensures.value c.deref-2.ensures.value c.first_bad_jump-jump.ensures c.first_bad_slot-slot.ensures c.limit_of-limit.ensures
    c.in_ok-height.ensures c.in-Some.is
