-- What a running task has done so far.
use Rattle.std.specs.Prelude.{ℕ, ◌+◌, ◌-◌, ◌<◌, ◌^◌, max, List, [], ◌∷◌, ◌++◌, length, All}
use Rattle.std.specs.List.{flat_map}
use Rattle.pie_value.specs.declared.task.Task.{Task}
use Rattle.pie_value.specs.declared.stamp.Stamp.{Stamp}
use Rattle.pie_value.specs.declared.stamp.Stamp.TheVariants.{Absent}
use Rattle.pie_value.specs.Canonical.{IsEncodableTask}
use Rattle.pie_record.specs.declared.dep.Dep.{Dep}
use Rattle.pie_record.specs.declared.dep.DepKind.{DepKind}
use Rattle.pie_value.specs.declared.event.By.{By}
use Rattle.pie_value.specs.declared.event.By.TheVariants.{Hash, Mark, Raw}
use Rattle.pie_record.specs.declared.dep.DepKind.TheVariants.{ReadHash, ReadMark}
use Rattle.pie_record.specs.declared.dep.DepOn.TheVariants.{File}
use Rattle.pie_record.specs.Canonical.{IsStorableDep, IsStorableWrite}
use Rattle.pie_store.specs.Canonical.{required_on}
use Rattle.pie_running.specs.declared.page.NoteParts.{NoteParts}
use Rattle.pie_graph.specs.Numbers.{numbers}

-- a task and its number, its observations, its writes with their hashes, the numbers of the tasks that it required, its height by these,
-- and how many answers it may still have
pub record Noted : Type 0 where
  pub task : Task
  pub number : ℕ
  pub deps : List Dep
  pub writes : List (List ℕ × List ℕ)
  pub needs : List ℕ
  pub height : ℕ
  pub left : ℕ

-- a task that has done nothing yet
abbrev pub begun : Task → ℕ → ℕ → Noted
begun task number left = record { task = task; number = number; deps = []; writes = []; needs = []; height = 0; left = left }

-- the observation of a path
abbrev pub file_dep : DepKind → List ℕ → Stamp → Dep
file_dep kind path stamp = record { kind = kind; what = File path; stamp = stamp }

-- the observation of a path at which there is nothing, or of which nothing is known
abbrev pub absent_dep : DepKind → List ℕ → Dep
absent_dep kind path = file_dep kind path Absent

-- the kind of an observation of a file's bytes
abbrev pub read_kind : By → DepKind
read_kind Hash = ReadHash
read_kind Raw = ReadHash
read_kind Mark = ReadMark

-- the tasks that were observed
abbrev pub tasks_on : List Dep → List Task
tasks_on deps = flat_map (λ (d : Dep). required_on d.what) deps

-- one observation more
abbrev pub observed : Dep → Noted → Noted
observed d n = record n { deps = n.deps ++ d ∷ []; left = n.left - 1 }

-- one required task more, with its number and height
abbrev pub required : Dep → ℕ → ℕ → Noted → Noted
required d number height n = record n { deps = n.deps ++ d ∷ []; needs = n.needs ++ number ∷ []; height = max n.height (height + 1); left = n.left - 1 }

-- one write more
abbrev pub wrote : List ℕ → List ℕ → Noted → Noted
wrote path hash n = record n { writes = n.writes ++ (path, hash) ∷ []; left = n.left - 1 }

-- these parts, with so many answers left
abbrev pub noted_in : NoteParts → ℕ → Noted
noted_in p left = record {
  task = p.task;
  number = p.no.0;
  deps = p.deps.items;
  writes = p.writes.items;
  needs = numbers p.needs.items;
  height = p.height;
  left = left;
}

-- what was noted can be stored, and there is room for what comes
pub record IsSound (n : Noted) : Type 0 where
  pub task : IsEncodableTask n.task
  pub deps : All IsStorableDep n.deps
  pub writes : All IsStorableWrite n.writes
  pub few : length n.deps + length n.writes + n.left < 2 ^ 32
