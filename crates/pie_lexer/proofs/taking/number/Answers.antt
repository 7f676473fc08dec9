use Rattle.std.proofs.Common.{length, w64}
use Rattle.pie_lexer.specs.Tokens.{number_of}
use Rattle.std.proofs.lemmas.Str.Parse.{parse_signed_digits}
use Rattle.pie_lexer.proofs.Utf8.{digits_are_utf8}
use Rattle.pie_lexer.proofs.Takes.{own_digits, narrowed}
use Rattle.pie_lexer.proofs.taking.number.Goals as goal

pub as_text-requires : goal.as_text-requires
as_text-requires c = digits_are_utf8 c.args.digits.now c.requires.digits

pub returns : goal.returns
returns c =
    let digits = c.args.digits.now in
    let h = rw c.as_text.ensures at c.parse.ensures.value in
    narrowed c.parse.result (number_of digits) (length digits) c.ok.result
    (parse_signed_digits own_digits w64 digits c.parse.result h.0 c.requires.digits) c.requires.nonempty c.ok.ensures.value
