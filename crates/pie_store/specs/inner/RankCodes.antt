-- How the logic stores records with their heights.
use Rattle.std.specs.Prelude.{ℕ, List}
use Rattle.std.specs.Coded.{Coded, coded×, coded_ℕ, coded_list}
use Rattle.pie_record.specs.declared.task_record.TaskRecord.{TaskRecord}
use Rattle.pie_record.specs.inner.RecordCodes.{coded_record}

abbrev pub coded_ranked : Coded (List (TaskRecord × ℕ))
coded_ranked = coded_list (coded× coded_record coded_ℕ)
