use Rattle.std.proofs.Common.{false, refl, rules}
use Rattle.pie_words.specs.declared.command.Command.TheVariants.{Check, Fresh, Build, Replay, Topdown, Scan, Auto, Cached}
use Rattle.pie_words.proofs.words.one_word.Goals as goal

pub returns-in-check-clause-accepted : goal.returns-in-check-clause-accepted
returns-in-check-clause-accepted c = λ is. (Check, refl, search rules)

pub returns-in-fresh-clause-accepted : goal.returns-in-fresh-clause-accepted
returns-in-fresh-clause-accepted c = λ is. (Fresh false, refl, search rules)

pub returns-in-build-clause-accepted : goal.returns-in-build-clause-accepted
returns-in-build-clause-accepted c = λ is. (Build false, refl, search rules)

pub returns-in-replay-clause-accepted : goal.returns-in-replay-clause-accepted
returns-in-replay-clause-accepted c = λ is. (Replay false, refl, search rules)

pub returns-in-topdown-clause-accepted : goal.returns-in-topdown-clause-accepted
returns-in-topdown-clause-accepted c = λ is. (Topdown false, refl, search rules)

pub returns-in-scan-clause-accepted : goal.returns-in-scan-clause-accepted
returns-in-scan-clause-accepted c = λ is. (Scan, refl, search rules)

pub returns-in-auto-clause-accepted : goal.returns-in-auto-clause-accepted
returns-in-auto-clause-accepted c = λ is. (Auto, refl, search rules)

pub returns-in-cached-clause-accepted : goal.returns-in-cached-clause-accepted
returns-in-cached-clause-accepted c = λ is. (Cached, refl, search rules)
