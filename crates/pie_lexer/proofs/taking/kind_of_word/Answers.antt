use Rattle.pie_lexer.proofs.Utf8.{word_is_utf8}
use Rattle.pie_lexer.proofs.taking.kind_of_word.Goals as goal

pub as_text-requires : goal.as_text-requires
as_text-requires c = word_is_utf8 c.args.word.now c.requires
