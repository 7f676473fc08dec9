use Rattle.std.proofs.Common.{◌≡◌, ◌∙◌, ap, arith, length, Err, refl, rules, subst}
use Rattle.std.specs.Prelude.{IfSome}
use Rattle.pie_files.specs.Streams.{Counted}
use Rattle.pie_input.specs.inner.Reading.{Gathers}
use Rattle.pie_input.specs.declared.input.Input.TheVariants.{Whole, TooLong}
use Rattle.pie_input.specs.declared.input.InputError.TheVariants as errors
use Rattle.pie_input.proofs.Gathering.{answered_since, answered_still, begins, ends, failed_since, goes_on, none_read, overflows, room_kept, sure_since}
use Rattle.pie_input.proofs.input.read_input.Goals as goal

pub loop-input-init : goal.loop-input-init
loop-input-init g c = record {
  room = omega (arith, c.in_ok-piece.ensures.len);
  so_far = begins (g.I.Source.left c.args.input.now) c.new-bytes.result.items c.new-bytes.ensures.items;
  steady = refl;
  infallible = λ sure. (sure, refl);
}

pub returns-in_err-gather-clause-read : goal.returns-in_err-gather-clause-read
returns-in_err-gather-clause-read g c =
    let e = c.in_err-gather.field-0.0 in
    let failed : Err e ≡ c.from_residual-in_err-gather.result = search rules in
    none_read (g.I.Source.left c.args.input.now) (g.I.Source.left c.gather.new.input) c.from_residual-in_err-gather.result e failed

pub returns-in_err-gather-clause-counted : goal.returns-in_err-gather-clause-counted
returns-in_err-gather-clause-counted g c =
    let e = c.in_err-gather.field-0.0 in
    let failed : Err e ≡ c.from_residual-in_err-gather.result = search rules in
    subst (λ r. Counted g.I.Source.faults errors.Failed c.args.input.now c.gather.new.input r) failed
    (failed_since g.I.Source.faults errors.Failed e c.args.input.now c.loop-input.input c.gather.new.input c.loop-input.invariant.steady
    c.in_err-gather.ensures.counted)

pub returns-in_err-gather-clause-infallible : goal.returns-in_err-gather-clause-infallible
returns-in_err-gather-clause-infallible g c =
    sure_since g.I.Source.faults g.I.Source.infallible c.args.input.now c.loop-input.input c.gather.new.input c.loop-input.invariant.infallible
    c.gather.ensures.infallible

pub returns-then-not-branch-clause-read : goal.returns-then-not-branch-clause-read
returns-then-not-branch-clause-read g c =
    ends (g.I.Source.left c.args.input.now) (g.I.Source.left c.loop-input.input) (g.I.Source.left c.gather.new.input) c.loop-input.bytes.items
    c.gather.new.bytes.items c.loop-input.invariant.so_far
    (subst (λ more. IfSome (g.I.Source.left c.loop-input.input) (λ left. Gathers left c.loop-input.bytes.items c.gather.new.bytes.items
    (g.I.Source.left c.gather.new.input) more)) c.if-not-branch.true c.in_ok-gather.ensures.gathers)
    (omega (arith, c.loop-input-test.true))

pub returns-then-not-branch-clause-counted : goal.returns-then-not-branch-clause-counted
returns-then-not-branch-clause-counted g c =
    answered_since g.I.Source.faults errors.Failed c.args.input.now c.loop-input.input c.gather.new.input c.in_ok-gather.field-0
    (Whole c.gather.new.bytes) c.loop-input.invariant.steady c.in_ok-gather.ensures.counted

pub returns-then-not-branch-clause-infallible : goal.returns-then-not-branch-clause-infallible
returns-then-not-branch-clause-infallible g c =
    sure_since g.I.Source.faults g.I.Source.infallible c.args.input.now c.loop-input.input c.gather.new.input c.loop-input.invariant.infallible
    c.gather.ensures.infallible

pub loop-input-preserved : goal.loop-input-preserved
loop-input-preserved g c = record {
  room = room_kept c.loop-input.piece.len c.gather.new.piece c.loop-input.piece.items c.loop-input.invariant.room
      (c.in_ok-gather.ensures.room ∙ ap length c.as_mut_slice.ensures.value) c.loop-input.piece.ok.0;
  so_far = goes_on (g.I.Source.left c.args.input.now) (g.I.Source.left c.loop-input.input) (g.I.Source.left c.gather.new.input) c.loop-input.bytes.items
      c.gather.new.bytes.items c.loop-input.invariant.so_far
      (subst (λ more. IfSome (g.I.Source.left c.loop-input.input) (λ left. Gathers left c.loop-input.bytes.items c.gather.new.bytes.items
      (g.I.Source.left c.gather.new.input) more)) c.if-not-branch.false c.in_ok-gather.ensures.gathers);
  steady = c.in_ok-gather.ensures.counted.steady ∙ c.loop-input.invariant.steady;
  infallible = sure_since g.I.Source.faults g.I.Source.infallible c.args.input.now c.loop-input.input c.gather.new.input c.loop-input.invariant.infallible
      c.gather.ensures.infallible;
}

pub returns-clause-read : goal.returns-clause-read
returns-clause-read g c =
    overflows (g.I.Source.left c.args.input.now) (g.I.Source.left c.loop-input.input) c.loop-input.bytes.items c.loop-input.invariant.so_far
    (omega (arith, c.loop-input-test.false))

pub returns-clause-counted : goal.returns-clause-counted
returns-clause-counted g c =
    answered_still g.I.Source.faults errors.Failed c.args.input.now c.loop-input.input TooLong c.loop-input.invariant.steady
