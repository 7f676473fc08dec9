use Rattle.std.proofs.Common.{Option, ℕ, ◌+◌, sym, subst, arith}
use Rattle.pie_code.specs.Scans.{IsLeast, IsSpoilt}
use Rattle.pie_code.proofs.Jumping.{spoilt_more, first_spoilt}
use Rattle.pie_code.proofs.jumps.first_bad_jump.Goals as goal

pub loop-from-preserved : goal.loop-from-preserved
loop-from-preserved c =
    subst (λ (found : Option ℕ). IsLeast (IsSpoilt c.args.code.now (c.loop-from.from + 1)) found) (sym c.earlier-found.ensures)
    (spoilt_more c.args.code.now c.loop-from.from c.loop-from.found c.spoilt_by.result c.loop-from.invariant c.spoilt_by.ensures)

pub returns : goal.returns
returns c =
    first_spoilt c.args.code.now c.loop-from.found
    (subst (λ (count : ℕ). IsLeast (IsSpoilt c.args.code.now count) c.loop-from.found) (omega arith) c.loop-from.invariant)
