use Rattle.std.proofs.Common.{arith, Vec, Global}
use Rattle.pie_script.specs.declared.step.Step.{Step}
use Rattle.std.proofs.lemmas.Result.{err_from_is_err_and}
use Rattle.pie_script.specs.Steps.{plain}
use Rattle.std.specs.Prelude.{map}
use Rattle.pie_script.proofs.ReadingLemmas.{script_init, script_step, script_end, reads_err}
use Rattle.pie_script.proofs.script.read_script.Goals as goal

pub loop-text-init : goal.loop-text-init
loop-text-init c = script_init c.new-script.result c.new-lines.result c.args.bytes.now c.new-script.ensures c.new-lines.ensures
    (omega (arith, c.if-bytes-gt-MAX_INPUT_BYTES.false))

pub returns-in_err-take : goal.returns-in_err-take
returns-in_err-take c =
    let p = err_from_is_err_and c.from_residual.result c.from_residual.ensures.1 in
    rw (p.1, p.2) (reads_err _ _ (λ (found : Vec Step Global).
    map plain found.items) c.in_err-take.field-0.0 c.loop-text.script c.loop-text.line c.loop-text.lines c.in-Some.text.now c.next_line.new.self
    c.args.bytes.now c.in_err-take.ensures c.in-Some.ensures c.loop-text.invariant.1 c.loop-text.invariant.3)

pub loop-text-preserved : goal.loop-text-preserved
loop-text-preserved c =
    script_step c.loop-text.lines c.in-Some.text.now c.next_line.new.self c.loop-text.script c.take.new.self c.loop-text.line c.args.bytes.now
    c.loop-text.invariant c.in-Some.ensures c.in_ok-take.ensures.0 c.in_ok-take.ensures.1

pub returns : goal.returns
returns c =
    script_end c.loop-text.lines c.loop-text.script c.close.new.self c.loop-text.line c.args.bytes.now
    (map plain c.into_steps.result.items) c.loop-text.invariant c.in_default.ensures c.in_ok-close.ensures c.into_steps.ensures
