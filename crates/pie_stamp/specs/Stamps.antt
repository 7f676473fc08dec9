-- The stamp table: which stamp each kind of stamper gives an observation.
use Rattle.std.specs.Prelude.{◌≡◌, ℕ, List, None, Some}
use Rattle.sha2.specs.Sha256.{sha256}
use Rattle.pie_value.specs.declared.stamp.Stamp.{Stamp}
use Rattle.pie_value.specs.declared.stamp.Stamp.TheVariants.{Absent, Present, Hash, Mark, Whole, Done}
use Rattle.pie_stamp.specs.declared.observed.Observed.{Observed}
use Rattle.pie_stamp.specs.declared.observed.Observed.TheVariants.{File, Entries, Output}
use Rattle.pie_stamp.specs.Observations.{HasBytes, IsOutput}

-- the stamp is the SHA-256 of the observation's bytes
abbrev pub IsHashOf : Observed → Stamp → Type 0
IsHashOf seen stamp = (bytes : List ℕ) × HasBytes seen bytes × (stamp ≡ Hash (sha256 bytes))

-- by presence: of a file, whether it is there
abbrev pub StampsPresence : Observed → Stamp → Type 0
StampsPresence (File None) stamp = stamp ≡ Absent
StampsPresence (File (Some found)) stamp = stamp ≡ Present
StampsPresence (Entries entries) stamp = ⊥
StampsPresence (Output output) stamp = ⊥

-- by hash: of a file that isn't there, that it is absent, and else the hash of the bytes
abbrev pub StampsHash : Observed → Stamp → Type 0
StampsHash (File None) stamp = stamp ≡ Absent
StampsHash (File (Some found)) stamp = IsHashOf (File (Some found)) stamp
StampsHash (Entries entries) stamp = IsHashOf (Entries entries) stamp
StampsHash (Output output) stamp = IsHashOf (Output output) stamp

-- by mark: of a file, its mark
abbrev pub StampsMark : Observed → Stamp → Type 0
StampsMark (File None) stamp = stamp ≡ Absent
StampsMark (File (Some found)) stamp = stamp ≡ Mark found.mark
StampsMark (Entries entries) stamp = ⊥
StampsMark (Output output) stamp = ⊥

-- by the whole: of an output, the output itself
abbrev pub StampsWhole : Observed → Stamp → Type 0
StampsWhole (File file) stamp = ⊥
StampsWhole (Entries entries) stamp = ⊥
StampsWhole (Output output) stamp = stamp ≡ Whole output

-- by success: of an output, that it is there
abbrev pub StampsDone : Observed → Stamp → Type 0
StampsDone seen stamp = IsOutput seen × (stamp ≡ Done)
