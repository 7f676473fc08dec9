-- One integer more, and then all of them.
use Rattle.std.proofs.Common.{◌≡◌, sym, ◌∙◌, ◌++◌, ◌+ℤ◌, ◌-◌, pos, arith, to_z, of_z, w64}
use Rattle.std.proofs.lemmas.Int.{to_z-of_z}
use Rattle.pie_builtins.proofs.Counted.{ints_on, ints_on_is, one_more, all_there}
use Rattle.pie_builtins.proofs.ranges.counted.Goals as goal

pub loop-k-preserved : goal.loop-k-preserved
loop-k-preserved c =
    let f : to_z w64 (of_z w64 c.args.from) ≡ c.args.from = to_z-of_z w64 c.args.from c.ranges.from in
    let inv : c.loop-k.items ++ ints_on (c.args.from +ℤ pos c.loop-k.k) (c.args.count - c.loop-k.k) ≡ ints_on c.args.from c.args.count =
    rw f at c.loop-k.invariant in
    rw (c.in_ok-push_int.ensures, f) (one_more c.loop-k.items c.args.from c.loop-k.k c.args.count (omega arith) ∙ inv)

pub returns : goal.returns
returns c =
    let f : to_z w64 (of_z w64 c.args.from) ≡ c.args.from = to_z-of_z w64 c.args.from c.ranges.from in
    let inv : c.loop-k.items ++ ints_on (c.args.from +ℤ pos c.loop-k.k) (c.args.count - c.loop-k.k) ≡ ints_on c.args.from c.args.count =
    rw f at c.loop-k.invariant in
    let e : ints_on c.args.from c.args.count ≡ c.loop-k.items =
    sym inv ∙ all_there c.loop-k.items c.args.from c.loop-k.k c.args.count (omega arith) in
    rw (sym (ints_on_is c.args.from c.args.count), e) c.made.ensures
