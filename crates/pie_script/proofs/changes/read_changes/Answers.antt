use Rattle.std.proofs.Common.{arith}
use Rattle.pie_script.proofs.ReadingLemmas.{change_init}
use Rattle.pie_script.proofs.changes.read_changes.Goals as goal

pub loop-text-init : goal.loop-text-init
loop-text-init c = change_init c.new-paths.result.items c.new-lines.result c.args.bytes.now c.new-paths.ensures.items c.new-lines.ensures
    (omega (arith, c.if-bytes-gt-MAX_INPUT_BYTES.false))
