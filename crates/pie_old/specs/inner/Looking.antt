-- Which tasks observed a file under `out/`.
use Rattle.std.specs.Prelude.{Bool, true, false, ◌&&◌}
use Rattle.std.specs.List.{list_any}
use Rattle.pie_base.specs.Path.{is_out}
use Rattle.pie_record.specs.declared.dep.Dep.{Dep}
use Rattle.pie_record.specs.declared.dep.DepKind.{DepKind}
use Rattle.pie_record.specs.declared.dep.DepKind.TheVariants.{Exists, ReadHash, ReadMark, Digest}
use Rattle.pie_record.specs.declared.dep.DepOn.{DepOn}
use Rattle.pie_record.specs.declared.dep.DepOn.TheVariants.{File, Called}
use Rattle.pie_record.specs.declared.task_record.TaskRecord.{TaskRecord}

-- whether an observation of this kind is of one file
abbrev pub asks_for_file : DepKind → Bool
asks_for_file Exists = true
asks_for_file ReadHash = true
asks_for_file ReadMark = true
asks_for_file Digest = true
asks_for_file kind = false

-- whether an observation of this kind is of a file under `out/`
abbrev pub asks_at_out : DepKind → DepOn → Bool
asks_at_out kind (File path) = asks_for_file kind && is_out path
asks_at_out kind (Called task) = false

-- whether an observation is of a file under `out/`
abbrev pub looks_at_out : Dep → Bool
looks_at_out d = asks_at_out d.kind d.what

-- whether a task observed a file under `out/`
abbrev pub looks_out : TaskRecord → Bool
looks_out r = list_any looks_at_out r.deps
