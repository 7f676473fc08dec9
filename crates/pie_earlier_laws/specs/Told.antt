-- Rows of a store are told by the records of the model that they are.
use Rattle.std.specs.Prelude.{◌≡◌, List, map, All}
use Rattle.pie_record.specs.declared.task_record.TaskRecord.{TaskRecord}
use Rattle.pie_record.specs.Canonical.{IsStorable, IsTrueRecord}
use Rattle.pie_model_pipeline.specs.Rows.{record_of}

-- a row of the program that can be stored
pub record IsRow (r : TaskRecord) : Type 0 where
  pub storable : IsStorable r
  pub parts : IsTrueRecord r

-- two such rows that are one record of the model are equal
abbrev pub RecordsTellRows : Type 0
RecordsTellRows = (r s : TaskRecord) → IsRow r → IsRow s → record_of r ≡ record_of s → r ≡ s

-- and so are lists of such rows: what the model says of a store decides its rows
abbrev pub StoresTellRows : Type 0
StoresTellRows = (rows others : List TaskRecord) → All IsRow rows → All IsRow others → map record_of rows ≡ map record_of others → rows ≡ others
