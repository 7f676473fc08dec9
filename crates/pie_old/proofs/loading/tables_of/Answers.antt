use Rattle.std.proofs.Common.{ap, ◌∙◌, false, length, replicate, ℕ}
use Rattle.std.proofs.lemmas.List.{length-map}
use Rattle.pie_record.specs.declared.task_record.TaskRecord.{TaskRecord}
use Rattle.pie_record.specs.inner.Records.{record_of}
use Rattle.pie_old.proofs.Keeping.{few_tasks, record_at}
use Rattle.pie_old.proofs.loading.tables_of.Goals as goal

pub new-requires-clause-few : goal.new-requires-clause-few
new-requires-clause-few c = few_tasks c.args.rows.items c.args.names c.requires.names c.requires.few

pub new-requires-clause-records : goal.new-requires-clause-records
new-requires-clause-records c =
    record_at c.args.rows.items c.args.names c.in_ok-records.records c.requires.names c.requires.storable c.in_ok-records.ensures

pub returns : goal.returns
returns c = record {
  tables = c.in_ok-tables.ensures.tables;
  names = c.in_ok-tables.ensures.names ∙ c.requires.names;
  records = λ n. ap (λ rs. record_of rs n) c.in_ok-tables.ensures.records ∙ c.in_ok-records.ensures n;
  ran = c.in_ok-tables.ensures.ran
      ∙ ap (λ (n : ℕ). replicate n false) (ap length c.requires.names ∙ length-map c.args.rows.items (λ (r : TaskRecord). r.task));
}
