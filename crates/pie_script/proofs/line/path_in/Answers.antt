use Rattle.std.proofs.Common.{refl}
use Rattle.pie_script.proofs.LineLemmas.{path_read, not_utf8}
use Rattle.pie_script.proofs.line.path_in.Goals as goal

pub returns-in-Ok : goal.returns-in-Ok
returns-in-Ok c = path_read c.named.result c.in-Ok.text.now c.args.text.now c.args.line c.named.ensures c.in-Ok.ensures.cases.0 c.in-Ok.ensures.cases.1

pub returns-in-Err : goal.returns-in-Err
returns-in-Err c = (not_utf8 c.args.text.now c.in-Err.ensures.cases.0, refl)
