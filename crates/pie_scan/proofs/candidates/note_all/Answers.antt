use Rattle.std.specs.List.{filter}
use Rattle.pie_base.specs.Path.{is_source}
use Rattle.pie_scan.proofs.Growing.{goes_on, filter_step}
use Rattle.pie_scan.proofs.candidates.note_all.Goals as goal

pub loop-path-preserved : goal.loop-path-preserved
loop-path-preserved c =
    goes_on (filter is_source) _ (filter_step is_source) _ _ _ _ _ _ c.loop-path-test.true c.path-item.is c.in_ok-note.ensures c.loop-path.invariant
