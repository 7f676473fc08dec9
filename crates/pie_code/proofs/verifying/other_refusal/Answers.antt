use Rattle.std.proofs.Common.{sym, subst}
use Rattle.pie_code.specs.Checked.{HasEnd}
use Rattle.pie_code.proofs.Judging.{only_slot_at, all_sound_at, not_ended}
use Rattle.pie_code.proofs.verifying.other_refusal.Goals as goal

pub returns-in-None-Some : goal.returns-in-None-Some
returns-in-None-Some c =
    only_slot_at c.args.code.now c.args.jump c.args.slot c.in-None-Some.slot c.in-None-Some.is-0 c.in-None-Some.is-1 c.requires.jump c.requires.slot
    c.requires.heights

pub returns-then-has_end : goal.returns-then-has_end
returns-then-has_end c = record {
  sound = all_sound_at c.args.code.now c.args.jump c.args.slot c.in-None-None.is-0 c.in-None-None.is-1 c.requires.jump c.requires.slot c.requires.heights;
  ends = subst HasEnd c.deref.ensures.value (c.has_end.ensures.0 c.if-has_end.true);
}

pub returns-else-has_end : goal.returns-else-has_end
returns-else-has_end c = (
  all_sound_at c.args.code.now c.args.jump c.args.slot c.in-None-None.is-0 c.in-None-None.is-1 c.requires.jump c.requires.slot c.requires.heights,
  (λ ends. not_ended c.has_end.result c.if-has_end.false (c.has_end.ensures.1 (subst HasEnd (sym c.deref.ensures.value) ends))),
)
