-- What is read from bytes: a record and the bytes after it, or the first fault from the left.
use Rattle.std.specs.Prelude.{ℕ, zero, suc, Bool, cond, List, [], ◌∷◌, ◌++◌, Result, Ok, Err, Option, Some, None}
use Rattle.std.specs.Int.{w64, from_be_bytes}
use Rattle.std.specs.Str.{is_utf8}
use Rattle.pie_base.specs.Path.{is_out}
use Rattle.pie_value.specs.declared.task.Task.{Task}
use Rattle.pie_value.specs.declared.value.Value.{Value}
use Rattle.pie_value.specs.declared.stamp.Stamp.{Stamp}
use Rattle.pie_value.specs.declared.stamp.Stamp.TheVariants.{Absent, Present, Hash, Mark, Whole, Done}
use Rattle.pie_value.specs.declared.value_fault.ValueFault.{ValueFault}
use Rattle.pie_value.specs.declared.value_fault.ValueFault.TheVariants.{Short as TooShort, BadTag as NoTag, BadText, Rest, TooDeep, OutOfMemory as NoMemory}
use Rattle.pie_value.specs.Reading.{byte_of, bytes_of, number_of, counted_of, is_path_text, value_prefix, task_prefix}
use Rattle.pie_record.specs.declared.dep.Dep.{Dep}
use Rattle.pie_record.specs.declared.dep.DepKind.{DepKind}
use Rattle.pie_record.specs.declared.dep.DepOn.{DepOn}
use Rattle.pie_record.specs.declared.dep.DepOn.TheVariants.{File, Called}
use Rattle.pie_record.specs.declared.tag.Tag.{Tag}
use Rattle.pie_record.specs.declared.tag.Tag.TheVariants.{Absent as TagAbsent, Present as TagPresent, Hash as TagHash, Mark as TagMark}
use Rattle.pie_record.specs.declared.tag.Tag.TheVariants.{Whole as TagWhole, Done as TagDone}
use Rattle.pie_record.specs.declared.task_record.Outcome.TheVariants.{Done as Gave}
use Rattle.pie_record.specs.declared.task_record.TaskRecord.{TaskRecord}
use Rattle.pie_record.specs.declared.record_fault.RecordFault.{RecordFault}
use Rattle.pie_record.specs.declared.record_fault.RecordFault.TheVariants.{Short, BadTag, BadPath, BadValue, OutOfMemory}
use Rattle.pie_record.specs.Kinds.{kind_of_byte, tag_of_byte, calls, allows}
use Rattle.pie_record.specs.inner.Parts.{value_of}

-- what is read and the bytes after it, or a fault
abbrev pub Parsed : Type 0 → Type 0
Parsed A = Result (A × List ℕ) RecordFault

-- reading one thing and then another; the first fault stays
abbrev pub then_on : {A B : Type 0} → Parsed A → (A → List ℕ → Parsed B) → Parsed B
then_on (Ok p) k = k p.0 p.1
then_on (Err e) k = Err e

-- a value or a task that can't be read is a bad value, but where the bytes end
abbrev pub told_fault : ValueFault → RecordFault
told_fault TooShort = Short
told_fault NoTag = BadValue
told_fault BadText = BadValue
told_fault Rest = BadValue
told_fault TooDeep = BadValue
told_fault NoMemory = OutOfMemory

abbrev pub told : {A : Type 0} → Result (A × List ℕ) ValueFault → Parsed A
told (Ok p) = Ok p
told (Err e) = Err (told_fault e)

-- one byte
abbrev pub byte_at : List ℕ → Parsed ℕ
byte_at bs = told (byte_of bs)

-- so many bytes
abbrev pub bytes_at : ℕ → List ℕ → Parsed (List ℕ)
bytes_at n bs = told (bytes_of n bs)

-- a number in four bytes, the highest first
abbrev pub number_at : List ℕ → Parsed ℕ
number_at bs = told (number_of bs)

-- a number in eight bytes, the highest first
unfoldable pub mark_at : List ℕ → Parsed ℕ
mark_at bs = then_on (bytes_at 8 bs) (λ ds rest. Ok (from_be_bytes w64 ds, rest))

-- bytes behind their length
abbrev pub counted_at : List ℕ → Parsed (List ℕ)
counted_at bs = told (counted_of bs)

-- a text behind its length
abbrev pub text_at : List ℕ → Parsed (List ℕ)
text_at bs = then_on (counted_at bs) (λ text rest. cond (is_utf8 text) (Ok (text, rest)) (Err BadValue))

-- a path behind its length
abbrev pub path_at : List ℕ → Parsed (List ℕ)
path_at bs = then_on (counted_at bs) (λ path rest. cond (is_path_text path) (Ok (path, rest)) (Err BadPath))

-- a path under `out/`
abbrev pub out_path_at : List ℕ → Parsed (List ℕ)
out_path_at bs = then_on (path_at bs) (λ path rest. cond (is_out path) (Ok (path, rest)) (Err BadPath))

-- a task
abbrev pub task_at : List ℕ → Parsed Task
task_at bs = told (task_prefix bs)

-- a value
abbrev pub value_at : List ℕ → Parsed Value
value_at bs = then_on (told (value_prefix bs)) (λ t rest. Ok (value_of t, rest))

-- what a byte stands for, if it stands for anything
abbrev pub known : {A : Type 0} → Option A → List ℕ → Parsed A
known None rest = Err BadTag
known (Some a) rest = Ok (a, rest)

-- the kind of an observation
abbrev pub kind_at : List ℕ → Parsed DepKind
kind_at bs = then_on (byte_at bs) (λ b rest. known (kind_of_byte b) rest)

-- what was observed
abbrev pub on_at : Bool → List ℕ → Parsed DepOn
on_at call bs =
    cond call (then_on (task_at bs) (λ task rest. Ok (Called task, rest))) (then_on (path_at bs) (λ path rest. Ok (File path, rest)))

-- a tag of a stamp
abbrev pub any_tag_at : List ℕ → Parsed Tag
any_tag_at bs = then_on (byte_at bs) (λ b rest. known (tag_of_byte b) rest)

-- the tag of a stamp that the observation may have
abbrev pub tag_at : DepKind → DepOn → List ℕ → Parsed Tag
tag_at kind what bs = then_on (any_tag_at bs) (λ tag rest. cond (allows kind what tag) (Ok (tag, rest)) (Err BadTag))

-- what follows the tag of a stamp
abbrev pub stamped : Tag → List ℕ → Parsed Stamp
stamped TagAbsent bs = Ok (Absent, bs)
stamped TagPresent bs = Ok (Present, bs)
stamped TagHash bs = then_on (bytes_at 32 bs) (λ hash rest. Ok (Hash hash, rest))
stamped TagMark bs = then_on (mark_at bs) (λ mark rest. Ok (Mark mark, rest))
stamped TagWhole bs = then_on (value_at bs) (λ value rest. Ok (Whole value, rest))
stamped TagDone bs = Ok (Done, bs)

-- an observation
unfoldable pub dep_at : List ℕ → Parsed Dep
dep_at bs =
    then_on (kind_at bs) (λ kind after_kind.
    then_on (on_at (calls kind) after_kind) (λ what after_what.
    then_on (tag_at kind what after_what) (λ tag after_tag.
    then_on (stamped tag after_tag) (λ stamp rest.
    Ok (record { kind = kind; what = what; stamp = stamp }, rest)))))

-- a write
unfoldable pub write_at : List ℕ → Parsed (List ℕ × List ℕ)
write_at bs =
    then_on (out_path_at bs) (λ path after_path.
    then_on (bytes_at 32 after_path) (λ hash rest. Ok ((path, hash), rest)))

-- so many things more, after some
abbrev pub many_at : {A : Type 0} → (List ℕ → Parsed A) → ℕ → List A → List ℕ → Parsed (List A)
many_at one zero xs bs = Ok (xs, bs)
many_at one (suc n) xs bs = then_on (one bs) (λ x rest. many_at one n (xs ++ x ∷ []) rest)

-- things behind their number
abbrev pub list_at : {A : Type 0} → (List ℕ → Parsed A) → List ℕ → Parsed (List A)
list_at one bs = then_on (number_at bs) (λ n rest. many_at one n [] rest)

-- a record
abbrev pub record_at : List ℕ → Parsed TaskRecord
record_at bs =
    then_on (task_at bs) (λ task after_task.
    then_on (list_at dep_at after_task) (λ deps after_deps.
    then_on (list_at write_at after_deps) (λ writes after_writes.
    then_on (value_at after_writes) (λ value rest.
    Ok (record { task = task; deps = deps; writes = writes; outcome = Gave value }, rest)))))
