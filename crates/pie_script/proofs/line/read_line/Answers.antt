use Rattle.std.proofs.Common.{rules, ◌≡◌, ◌==◌, false, length}
use Rattle.pie_script.proofs.LineLemmas.{line_read, line_not_text}
use Rattle.pie_script.proofs.line.read_line.Goals as goal

pub returns-in-Ok : goal.returns-in-Ok
returns-in-Ok c =
    let some : (length c.args.text.now == 0) ≡ false = search rules in
    line_read c.read_put.result c.in-Ok.text.now c.args.text.now c.args.line c.read_put.ensures c.in-Ok.ensures.cases.0 c.in-Ok.ensures.cases.1 some

pub returns-in-Err : goal.returns-in-Err
returns-in-Err c =
    let some : (length c.args.text.now == 0) ≡ false = search rules in
    line_not_text c.args.text.now c.args.line c.in-Err.ensures.cases.0 some
