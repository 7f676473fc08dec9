-- The pieces are the text but for what stands between them.
use Rattle.std.proofs.Common.{◌≡◌, ◌∙◌, ◌<◌, length, rules}
use Rattle.pie_builtins.proofs.Splitting.{split_law}
use Rattle.pie_builtins.proofs.pieces.split_at.Goals as goal

pub returns-clause-law : goal.returns-clause-law
returns-clause-law c =
    let some : 0 < length c.args.part.now = search rules in
    let part : c.new.result ≡ c.args.part.now = c.new.ensures ∙ c.as_bytes.ensures.value in
    split_law c.args.text.now c.args.part.now c.all_pieces-2.result some (rw part at c.all_pieces-2.ensures)
