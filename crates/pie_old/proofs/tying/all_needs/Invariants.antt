use Rattle.std.proofs.Common.{◌≡◌, ◌++◌, drop, map, Some, Global}
use Rattle.std.specs.Prelude.{Vec}
use Rattle.pie_graph.specs.declared.edges.TaskNo.{TaskNo}
use Rattle.pie_record.specs.declared.task_record.TaskRecord.{TaskRecord}
use Rattle.pie_store.specs.Canonical.{needs}
use Rattle.pie_store.specs.inner.Ties.{named_by}
use Rattle.pie_old.proofs.tying.all_needs.Given as goal

abbrev pub invariant-loop-rec : goal.invariant-loop-rec
invariant-loop-rec l =
    map (λ (nos : Vec TaskNo Global). named_by l.names nos.items) l.all.items ++ map (λ (r : TaskRecord). map Some (needs r)) (drop l.rec-index l.rows)
    ≡ map (λ (r : TaskRecord). map Some (needs r)) l.rows
