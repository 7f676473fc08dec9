use Rattle.std.proofs.Common.{true, refl, rules}
use Rattle.pie_words.specs.declared.command.Command.TheVariants.{Fresh, Build, Replay, Topdown}
use Rattle.pie_words.proofs.words.two_words.Goals as goal

pub returns-in-fresh-text-clause-accepted : goal.returns-in-fresh-text-clause-accepted
returns-in-fresh-text-clause-accepted c = λ is. (Fresh true, refl, search rules)

pub returns-in-build-text-clause-accepted : goal.returns-in-build-text-clause-accepted
returns-in-build-text-clause-accepted c = λ is. (Build true, refl, search rules)

pub returns-in-replay-text-clause-accepted : goal.returns-in-replay-text-clause-accepted
returns-in-replay-text-clause-accepted c = λ is. (Replay true, refl, search rules)

pub returns-in-topdown-text-clause-accepted : goal.returns-in-topdown-text-clause-accepted
returns-in-topdown-text-clause-accepted c = λ is. (Topdown true, refl, search rules)
