use Rattle.std.proofs.Common.{Vec, Global}
use Rattle.std.proofs.lemmas.Result.{err_from_is_err_and}
use Rattle.pie_types.specs.Whole.{number_from}
use Rattle.pie_value.specs.declared.task.Task.{Task}
use Rattle.pie_roots.proofs.RootLines.{few_lines, left_begins, left_ends, left_fails}
use Rattle.pie_roots.proofs.list.roots_in.Goals as goal

pub loop-text-init : goal.loop-text-init
loop-text-init c = (
  left_begins (number_from 0 c.args.typed.now) c.args.text.now c.new-lines.result c.new-roots.result.items c.new-lines.ensures c.new-roots.ensures.items,
  few_lines c.new-lines.result c.args.text.now c.new-lines.ensures c.requires,
)

pub returns-in_err-take : goal.returns-in_err-take
returns-in_err-take c =
    let p = err_from_is_err_and c.from_residual.result c.from_residual.ensures.1 in
    rw (p.1, p.2) (left_fails (number_from 0 c.args.typed.now) (Unit {0}) (Vec Task Global)
    (λ (tasks : Vec Task Global). tasks.items) c.in_err-take.field-0.0 c.args.text.now
    c.in-Some.text.now c.loop-text.lines c.next_line.new.self c.loop-text.roots.items c.take.new.roots.items c.loop-text.line c.loop-text.invariant.0
    c.in-Some.ensures c.in_err-take.ensures)

pub returns : goal.returns
returns c =
    left_ends
    (number_from 0 c.args.typed.now) c.args.text.now c.loop-text.lines c.loop-text.roots.items c.loop-text.line c.loop-text.invariant.0 c.in_default.ensures
