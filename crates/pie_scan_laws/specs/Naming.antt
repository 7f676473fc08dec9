-- What two scans tell apart, in the words of the model of building.
use Rattle.std.specs.Prelude.{ℕ, List}
use Rattle.pie_files.specs.Directory.{Directory}
use Rattle.pie_model.specs.Changes.{NamesAllChanges}
use Rattle.pie_scan.specs.declared.entry.Entry.{Entry}
use Rattle.pie_scan.specs.Changes.{AreChanged}
use Rattle.pie_scan.specs.Covering.{IsSeparate, DiffersBelow, Covers}
use Rattle.pie_scan.specs.Scanned.{AreScanned}

-- paths that cover what differs name all changes
abbrev pub CoveringNamesAllChanges : Type 0
CoveringNamesAllChanges = (before now : Directory) (found : List (List ℕ)) → Covers before now found → NamesAllChanges before now found

-- the paths at which the scans of two directories differ name all changes
abbrev pub ScansNameAllChanges : Type 0
ScansNameAllChanges =
    (before now : Directory) (tops : List (List ℕ)) (old new : List Entry) (found : List (List ℕ)) → AreScanned before tops old → AreScanned now tops new
    → AreChanged old new found → IsSeparate before now → DiffersBelow tops before now → NamesAllChanges before now found
