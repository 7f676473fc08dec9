-- The contents of nested maps.
use Rattle.std.specs.Prelude.{ℕ, List, map, Vec}
use Rattle.std.specs.BTreeMap.{BTreeMap}
use Rattle.pie_view.specs.Content.{Staged}

-- the files of one task
abbrev pub files_of : {Z : Type 0} → BTreeMap (List ℕ) (Vec ℕ Z) → List (List ℕ × List ℕ)
files_of {Z} files = map (λ (f : List ℕ × Vec ℕ Z). (f.0, f.1.items)) files.entries

-- the files of all tasks
abbrev pub staged_of : {Z : Type 0} → BTreeMap ℕ (BTreeMap (List ℕ) (Vec ℕ Z)) → Staged
staged_of {Z} tasks = map (λ (t : ℕ × BTreeMap (List ℕ) (Vec ℕ Z)). (t.0, files_of t.1)) tasks.entries
