use Rattle.std.proofs.Common.{List, sym, subst}
use Rattle.std.specs.Prelude.{All, Contains}
use Rattle.pie_record.specs.declared.dep.Dep.{Dep}
use Rattle.pie_record.specs.declared.task_record.TaskRecord.{TaskRecord}
use Rattle.pie_store.specs.inner.Ties.{needs_in}
use Rattle.pie_old.specs.inner.Rows.{AreNamed}
use Rattle.pie_old.proofs.tying.all_needs.Goals as goal

pub needs_of-requires-clause-named : goal.needs_of-requires-clause-named
needs_of-requires-clause-named c =
    subst (λ (ds : List Dep). All (Contains c.args.names.now) (needs_in ds)) (sym c.as_slice.ensures)
    (subst (λ (r : TaskRecord). AreNamed c.args.names.now r) (sym c.rec-item.is)
    (c.requires.named c.loop-rec.rec-index c.rec-item.result c.loop-rec-test.true))
