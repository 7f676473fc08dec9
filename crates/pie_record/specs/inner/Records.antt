-- Records by numbers.
use Rattle.std.specs.Prelude.{◌≡◌, ℕ, cond, Option, None, Some, slice_index_or}
use Rattle.std.specs.Ordering.{nat_cmp, is_eq}
use Rattle.pie_record.specs.declared.records.Records.{Records}
use Rattle.pie_record.specs.declared.task_record.TaskRecord.{TaskRecord}

-- the record of the task with this number: what its slot holds, and none where there is no slot
abbrev pub record_of : Records → ℕ → Option TaskRecord
record_of r n = slice_index_or r.slots.items n None

-- one number gets a record, and all others stay
abbrev pub Puts : Records → Records → ℕ → TaskRecord → Type 0
Puts old new number rec = (n : ℕ) → record_of new n ≡ cond (is_eq (nat_cmp number n)) (Some rec) (record_of old n)

-- one number loses its record, and all others stay
abbrev pub Takes : Records → Records → ℕ → Type 0
Takes old new number = (n : ℕ) → record_of new n ≡ cond (is_eq (nat_cmp number n)) None (record_of old n)
