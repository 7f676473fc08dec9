use Rattle.pie_script.proofs.LineLemmas.{stands_after}
use Rattle.pie_script.proofs.line.after.Goals as goal

pub returns : goal.returns
returns c = stands_after c.strip_prefix.result c.args.word.now c.args.text.now c.strip_prefix.ensures.cases
