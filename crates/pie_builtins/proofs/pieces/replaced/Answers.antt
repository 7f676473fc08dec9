-- The parts between the occurrences, with the other text between them.
use Rattle.std.proofs.Common.{◌≡◌, ◌∙◌, ◌<◌, length, rules}
use Rattle.pie_builtins.proofs.Splitting.{replace_law, replace_law_none}
use Rattle.pie_builtins.proofs.pieces.replaced.Goals as goal

pub returns-then-is_empty-clause-law : goal.returns-then-is_empty-clause-law
returns-then-is_empty-clause-law c =
    let none : length c.args.part.now ≡ 0 = search rules in
    replace_law_none c.args.text.now c.args.part.now c.args.by.now c.made_text.result none c.made_text.ensures

pub returns-clause-law : goal.returns-clause-law
returns-clause-law c =
    let some : 0 < length c.args.part.now = search rules in
    let part : c.new.result ≡ c.args.part.now = c.new.ensures ∙ c.as_bytes.ensures.value in
    replace_law c.args.text.now c.args.part.now c.args.by.now c.all_replaced-2.result some (rw part at c.all_replaced-2.ensures)
