use Rattle.std.proofs.Common.{refl}
use Rattle.pie_model.specs.Evaluation.{evaluation}
use Rattle.pie_model.proofs.Views.{told_is_seen}
use Rattle.pie_model.proofs.Ways.{reached_stands, stands_reached}
use Rattle.pie_model.proofs.record_laws.records_tell_what_trees_show.Goals as goal

pub returns-clause-told : goal.returns-clause-told
returns-clause-told c = λ w P R us right p told h. told_is_seen w P R us right p told h

pub returns-clause-reached : goal.returns-clause-reached
returns-clause-reached c =
    λ w P R u right. (λ x q. reached_stands w P R q (λ y r. right y r), λ m s. (stands_reached w P R (evaluation w P u) u m refl right s).way)
