use Rattle.pie_step_laws.proofs.EndLemmas.{ends_in_a_cycle, round_read}
use Rattle.pie_step_laws.proofs.ends.roots_end_in_cycle.Goals as goal

pub returns-clause-ended : goal.returns-clause-ended
returns-clause-ended c = λ w P root base R names fs f n h u U l q i e. ends_in_a_cycle w P root base R names fs f U n h u l q i e

pub returns-clause-read : goal.returns-clause-read
returns-clause-read c = λ u ys xs h. round_read u ys xs h
