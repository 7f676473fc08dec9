use Rattle.pie_builder_laws.proofs.Fitted.{headings_of, required_known, output_fits}
use Rattle.pie_builder_laws.proofs.fits.tasks_are_known.Goals as goal

pub returns-clause-headings : goal.returns-clause-headings
returns-clause-headings c = λ fs h. headings_of fs h

pub returns-clause-known : goal.returns-clause-known
returns-clause-known c = λ fs hs codes t given u how H k f. required_known fs hs codes t given u how H k f

pub returns-clause-outputs : goal.returns-clause-outputs
returns-clause-outputs c = λ fs hs codes t given v H k f. output_fits fs hs codes t given v H k f
