-- What a build begins from.
use Rattle.std.specs.Prelude.{List, All}
use Rattle.pie_record.specs.declared.task_record.TaskRecord.{TaskRecord}
use Rattle.pie_record.specs.Canonical.{IsStorable}
use Rattle.pie_store.specs.Canonical.{AreInOrder}
use Rattle.pie_why.specs.declared.start.Start.{Start}
use Rattle.pie_why.specs.declared.start.Start.TheVariants.{Afresh, From}

-- records that can be stored and stand in order
pub record HasRecords (rows : List TaskRecord) : Type 0 where
  pub storable : All IsStorable rows
  pub order : AreInOrder rows

-- so are those of a start that isn't afresh
abbrev pub IsWhole : Start → Type 0
IsWhole (Afresh cause) = Unit {0}
IsWhole (From l) = HasRecords l.value.image.rows
