use Rattle.pie_digest_laws.proofs.Stretch.{each_has_its_digest, one_meaning}
use Rattle.pie_digest_laws.proofs.laws.digests_tell_functions.Goals as goal

pub returns-clause-each : goal.returns-clause-each
returns-clause-each c = λ text ts f x. each_has_its_digest text ts f x

pub returns-clause-meaning : goal.returns-clause-meaning
returns-clause-meaning c = λ text other ts us f g x y apart e args answers. one_meaning text other ts us f g x y apart e args answers
