use Rattle.std.proofs.Common.{rules}
use Rattle.std.proofs.lemmas.Fmt.{parse-decimal}
use Rattle.pie_words.proofs.demo.number.Goals as goal

pub returns-in-Ok-clause-none : goal.returns-in-Ok-clause-none
returns-in-Ok-clause-none c = λ none n small is.
    let parsed = parse-decimal 64 n c.args.word.now c.parse.result small small is c.parse.ensures.value.0 in c.as_written.ensures.none none (search rules)

pub returns-in-Err-clause-none : goal.returns-in-Err-clause-none
returns-in-Err-clause-none c = λ none n small is.
    let parsed = parse-decimal 64 n c.args.word.now c.parse.result small small is c.parse.ensures.value.0 in absurd (search rules)
