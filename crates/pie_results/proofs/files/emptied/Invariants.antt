use Rattle.std.proofs.Common.{◌≡◌, ◌++◌, length}
use Rattle.pie_results.proofs.files.emptied.Given as goal

-- the files so far and those that are left are those of the map
abbrev pub invariant-files : goal.invariant-files
invariant-files l = l.list.items ++ l.files.entries ≡ l.fn.files.entries

abbrev pub decreases-files : goal.decreases-files
decreases-files l = length l.files.entries
