-- The lines are the text but for a last newline.
use Rattle.std.proofs.Common.{arith, [], ◌∷◌}
use Rattle.pie_builtins.proofs.Splitting.{lines_law}
use Rattle.pie_builtins.proofs.pieces.lines_in.Goals as goal

pub returns-clause-law : goal.returns-clause-law
returns-clause-law c = lines_law c.args.text.now (10 ∷ []) c.all_lines-2.result (omega arith)
    (rw c.new.ensures at c.all_lines-2.ensures)
