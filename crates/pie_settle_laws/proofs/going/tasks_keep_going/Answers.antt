use Rattle.pie_model.specs.inner.RecordLaws.{Passes}
use Rattle.pie_settle_laws.proofs.Goings.{absent_look, present_look, listing_made, write_made, is_told, still_going}
use Rattle.pie_settle_laws.proofs.going.tasks_keep_going.Goals as goal

pub returns-clause-sees_nothing : goal.returns-clause-sees_nothing
returns-clause-sees_nothing c = λ w P R busy base fs f n l p G e h v. absent_look w P R (Passes busy) base fs f G n l p e h v

pub returns-clause-sees_contents : goal.returns-clause-sees_contents
returns-clause-sees_contents c = λ w P R busy base fs f n l p b m G e h v. present_look w P R (Passes busy) base fs f G n l p b m e h v

pub returns-clause-lists : goal.returns-clause-lists
returns-clause-lists c = λ w P R busy base fs f n d es G e h v. listing_made w P R (Passes busy) base fs f G n d es e h v

pub returns-clause-writes : goal.returns-clause-writes
returns-clause-writes c = λ w P R busy base fs f n p b G e h. write_made w P R (Passes busy) base fs f G n p b e h

pub returns-clause-answered : goal.returns-clause-answered
returns-clause-answered c =
    λ w P R busy held base fs f n h u v C B G e q K S o. is_told w P R (Passes busy) base fs f G held C B u K S n h v e q o

pub returns-clause-settled : goal.returns-clause-settled
returns-clause-settled c = λ w P R S busy after base fs f k G. still_going w P R S (Passes busy) (Passes after) base fs f k G
