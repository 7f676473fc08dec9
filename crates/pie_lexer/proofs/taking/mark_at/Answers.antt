use Rattle.std.proofs.Common.{get_or, sym}
use Rattle.pie_lexer.proofs.Spelled.{other_sort}
use Rattle.pie_lexer.proofs.Takes.{pair_taken, byte_taken, char_refused}
use Rattle.pie_lexer.proofs.taking.mark_at.Goals as goal

pub returns-in-Some : goal.returns-in-Some
returns-in-Some c =
    let s = other_sort (get_or c.args.rest.now 0 0) c.requires.no_letter c.requires.no_digit c.requires.no_quote in
    pair_taken c.args.rest.now c.args.at c.in-Some.kind s c.in-Some.ensures

pub returns-in-Some-mark_of_one : goal.returns-in-Some-mark_of_one
returns-in-Some-mark_of_one c =
    let s = other_sort (get_or c.args.rest.now 0 0) c.requires.no_letter c.requires.no_digit c.requires.no_quote in
    byte_taken c.args.rest.now c.args.at c.in-Some-mark_of_one.kind s (sym c.in_default.ensures) c.in-Some-mark_of_one.ensures

pub returns : goal.returns
returns c =
    let s = other_sort (get_or c.args.rest.now 0 0) c.requires.no_letter c.requires.no_digit c.requires.no_quote in
    char_refused c.args.rest.now c.args.at c.requires.nonempty s (sym c.in_default.ensures) (sym c.in_default-mark_of_one.ensures)
