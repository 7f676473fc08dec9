use Rattle.pie_spelling_laws.proofs.Equal.{spellings_tell_kinds, one_tree, equal_spellings}
use Rattle.pie_spelling_laws.proofs.Stretches.{each_stands, each_reaches}
use Rattle.pie_spelling_laws.proofs.laws.equal_spellings_mean_the_same.Goals as goal

pub returns-clause-tokens : goal.returns-clause-tokens
returns-clause-tokens c = λ text ts f x. each_stands text ts f x

pub returns-clause-reach : goal.returns-clause-reach
returns-clause-reach c = λ text ts f x. each_reaches text ts f x

pub returns-clause-kinds : goal.returns-clause-kinds
returns-clause-kinds c = λ text other us vs f g x y e. spellings_tell_kinds text other us vs f g x y e

pub returns-clause-tree : goal.returns-clause-tree
returns-clause-tree c = λ text other us vs f g x y e. one_tree text other us vs f g x y e

pub returns-clause-answers : goal.returns-clause-answers
returns-clause-answers c = λ text other us vs f g x y e args answers. equal_spellings text other us vs f g x y e args answers
