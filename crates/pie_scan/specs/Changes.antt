-- Where two lists of entries differ.
use Rattle.std.specs.Prelude.{◌≡◌, ℕ, not, List}
use Rattle.std.specs.List.{list_any}
use Rattle.std.specs.List.Sorted.{IsStrictlySortedBy}
use Rattle.pie_base.specs.Path.{same_text}
use Rattle.pie_scan.specs.declared.entry.Entry.{Entry}
use Rattle.pie_scan.specs.Entries.{path_cmp, entry_at, alike}

-- exactly the paths at which two lists of entries aren't alike, in path order, each once
pub record AreChanged (old now : List Entry) (found : List (List ℕ)) : Type 0 where
  pub ordered : IsStrictlySortedBy path_cmp found
  pub exactly : (path : List ℕ) → list_any (same_text path) found ≡ not (alike (entry_at old path) (entry_at now path))
