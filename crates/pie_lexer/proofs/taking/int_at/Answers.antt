use Rattle.std.proofs.Common.{take}
use Rattle.pie_lexer.specs.Bytes.{is_digit}
use Rattle.pie_lexer.specs.Tokens.{number_of}
use Rattle.pie_lexer.proofs.Prefixes.{prefix_passes}
use Rattle.pie_lexer.proofs.Takes.{int_taken, int_stored, int_refused}
use Rattle.pie_lexer.proofs.taking.int_at.Goals as goal

pub number-requires-clause-digits : goal.number-requires-clause-digits
number-requires-clause-digits c = rw c.digits_len-len.ensures (prefix_passes is_digit c.args.rest.now)

pub returns-in-Some : goal.returns-in-Some
returns-in-Some c =
    let n = c.digits_len-len.result in
    let rest = c.args.rest.now in
    int_taken rest n c.args.at c.in-Some.n _ (int_stored (number_of
    (take n rest)) c.in-Some.n c.in-Some.ensures) c.requires.nonempty c.requires.digit c.digits_len-len.ensures c.in-Some.ensures

pub returns-in-None : goal.returns-in-None
returns-in-None c = int_refused c.args.rest.now c.digits_len-len.result c.args.at c.requires.nonempty c.requires.digit c.digits_len-len.ensures
    c.in-None.ensures
