use Rattle.pie_step_laws.proofs.ContentLemmas.{kept_visible, running_sees}
use Rattle.pie_step_laws.proofs.contents.kept_contents_are_visible.Goals as goal

pub returns-clause-provided : goal.returns-clause-provided
returns-clause-provided c = λ w P R names kept us p s T K recorded h. kept_visible w P R names kept us p T K recorded s h

pub returns-clause-running : goal.returns-clause-running
returns-clause-running c = λ w P root base R names fs f kept p s U K h. running_sees w P root base R names fs f kept p s U K h
