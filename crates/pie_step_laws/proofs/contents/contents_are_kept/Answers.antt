use Rattle.pie_step_laws.proofs.ContentLemmas.{contents_begin, contents_kept, writes_keep}
use Rattle.pie_step_laws.proofs.contents.contents_are_kept.Goals as goal

pub returns-clause-begin : goal.returns-clause-begin
returns-clause-begin c = λ w P R kept none. contents_begin w P R kept none

pub returns-clause-kept : goal.returns-clause-kept
returns-clause-kept c = λ w P root base R S names fs f n v kept after U l q C M K. contents_kept w P root base R S names fs f n v kept after U l q C M K

pub returns-clause-written : goal.returns-clause-written
returns-clause-written c = λ w P root base R names fs f kept after U same K. writes_keep w P root base R names fs f kept after U same K
