use Rattle.pie_earlier_laws.proofs.Leaving.{old_writes_there, not_missing}
use Rattle.pie_earlier_laws.proofs.left.unnamed_writes_are_there.Goals as goal

pub returns-clause-there : goal.returns-clause-there
returns-clause-there c = λ w old old_roots left now changes t r O E N h n. old_writes_there w old old_roots left now changes t r O E N h n

pub returns-clause-not_missing : goal.returns-clause-not_missing
returns-clause-not_missing c = λ w now xs h m. not_missing w now xs h m
