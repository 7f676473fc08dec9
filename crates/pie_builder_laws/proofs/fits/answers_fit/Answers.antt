use Rattle.pie_builder_laws.proofs.Fitted.{no_answers, more_answers, builders_fit}
use Rattle.pie_builder_laws.proofs.fits.answers_fit.Goals as goal

pub returns-clause-none : goal.returns-clause-none
returns-clause-none c = λ fs hs t. no_answers fs hs t

pub returns-clause-more : goal.returns-clause-more
returns-clause-more c = λ fs hs codes t given e a k h f. more_answers fs hs codes t given e a k h f

pub returns-clause-builders : goal.returns-clause-builders
returns-clause-builders c = λ hs. builders_fit hs
