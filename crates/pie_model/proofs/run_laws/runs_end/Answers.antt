use Rattle.std.proofs.Common.{ap, refl, ◌∙◌}
use Rattle.pie_model.specs.Trees.{is_plain}
use Rattle.pie_model.proofs.RunningLemmas.{ends_done, ends_failed, ends_clashing, ends_too_big, ends_as_required, ends_in_cycle}
use Rattle.pie_model.proofs.Rooms.{alone}
use Rattle.pie_model.proofs.run_laws.runs_end.Goals as goal

pub returns-clause-done : goal.returns-clause-done
returns-clause-done c = λ w P room above t n g seen v h r. ends_done w P room above t n g seen v h r

pub returns-clause-failed : goal.returns-clause-failed
returns-clause-failed c = λ w P room above t n g seen k h r. ends_failed w P room above t n g seen k h r

pub returns-clause-clashing : goal.returns-clause-clashing
returns-clause-clashing c = λ w P room above t n g seen l p h v r. ends_clashing w P room above t n g seen l p h v r

pub returns-clause-too_big : goal.returns-clause-too_big
returns-clause-too_big c = λ w P room above t n g seen d h v r. ends_too_big w P room above t n g seen d h v r

pub returns-clause-as_required : goal.returns-clause-as_required
returns-clause-as_required c = λ w P room above t n g seen k u e h q d r. ends_as_required w P room above t n g seen k u e h q d r

pub returns-clause-plain : goal.returns-clause-plain
returns-clause-plain c =
    λ w P room above t n g seen k u h plain d r.
    ap (λ z. is_plain z.outcome) (ends_as_required w P room above t n g seen k u _ h refl d r) ∙ plain

pub returns-clause-in_cycle : goal.returns-clause-in_cycle
returns-clause-in_cycle c = λ w P room above t n g seen k u h i r. ends_in_cycle w P room above t n g seen k u h i r

pub returns-clause-alone : goal.returns-clause-alone
returns-clause-alone c = λ w P room above t le h. alone room w P above t le h
