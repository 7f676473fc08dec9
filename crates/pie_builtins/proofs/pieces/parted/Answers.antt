-- What stands before the part that is found, and after it.
use Rattle.std.proofs.Common.{◌≡◌, ◌+◌, Some, drop, length, rules}
use Rattle.memchr.specs.Find.{FindsNeedle}
use Rattle.pie_builtins.proofs.Searches.{found}
use Rattle.pie_builtins.proofs.pieces.parted.Goals as goal

pub returns : goal.returns
returns c =
    let h : FindsNeedle c.args.text.now c.args.part.now 0 (Some c.in_ok-at.at) = search rules in
    let b : c.range_from.result.now ≡ drop (c.in_ok-at.at + length c.args.part.now) c.args.text.now = search rules in
    found c.args.text.now c.args.part.now c.range.result.now c.range_from.result.now c.in_ok-at.at c.utf8.text c.requires.utf8 c.requires.some h
    c.range.ensures.value b
