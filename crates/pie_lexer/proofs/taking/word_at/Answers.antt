use Rattle.pie_lexer.specs.Bytes.{is_word_byte}
use Rattle.pie_lexer.proofs.Prefixes.{prefix_passes}
use Rattle.pie_lexer.proofs.Takes.{word_taken}
use Rattle.pie_lexer.proofs.taking.word_at.Goals as goal

pub kind_of_word-requires : goal.kind_of_word-requires
kind_of_word-requires c = rw c.word_len-len.ensures (prefix_passes is_word_byte c.args.rest.now)

pub returns : goal.returns
returns c = word_taken c.args.rest.now c.word_len-len.result c.args.at c.in_ok-kind.kind c.requires.nonempty c.requires.letter c.word_len-len.ensures
    c.in_ok-kind.ensures
