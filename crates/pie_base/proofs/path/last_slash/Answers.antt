use Rattle.std.proofs.Common.{arith, ◌≡◌, ◌+◌, ◌-◌, false, drop, subst}
use Rattle.std.specs.List.{list_any}
use Rattle.pie_base.specs.Path.{is_slash}
use Rattle.pie_base.proofs.Fronts.{ends_parent, no_parent}
use Rattle.pie_base.proofs.path.last_slash.Goals as goal

pub returns-then-path-end-eq47 : goal.returns-then-path-end-eq47
returns-then-path-end-eq47 c =
    let e : c.loop-end.end ≡ c.loop-end.end - 1 + 1 = omega arith in
    ends_parent c.args.path.now (c.loop-end.end - 1) (omega arith) c.if-path-end-eq47.true
    (subst (λ k. list_any is_slash (drop k c.args.path.now) ≡ false) e c.loop-end.invariant.1)

pub returns : goal.returns
returns c =
    let e : c.loop-end.end ≡ 0 = omega arith in
    no_parent c.args.path.now (subst (λ k. list_any is_slash (drop k c.args.path.now) ≡ false) e c.loop-end.invariant.1)
