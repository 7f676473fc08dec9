use Rattle.std.proofs.Common.{◌≡◌}
use Rattle.std.specs.Prelude.{is_some}
use Rattle.pie_script.specs.Line.{script_line}
use Rattle.pie_script.specs.inner.Taking.{taken}
use Rattle.pie_script.proofs.LineLemmas.{take_err}
use Rattle.pie_script.proofs.script.Script.take.Goals as goal

pub returns-in-Err : goal.returns-in-Err
returns-in-Err c =
    take_err (Unit {0}) c.in-Err.fault (is_some c.args.self.now.under) (script_line c.args.text.now) c.args.text.now c.args.line
    (c.args.self.now ≡ taken (script_line c.args.text.now) c.args.self.now) c.in-Err.ensures
