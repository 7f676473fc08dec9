-- The stamps that observations of files and directories would get in a directory.
use Rattle.std.specs.Prelude.{ℕ, ◌==◌, Bool, true, false, cond, List, map, Option, Some, None}
use Rattle.sha2.specs.Sha256.{sha256}
use lib.Pointwise.{pointwise}
use Rattle.pie_value.specs.declared.stamp.Stamp.{Stamp}
use Rattle.pie_value.specs.declared.stamp.Stamp.TheVariants as stamps
use Rattle.pie_value.specs.Tree.{Tree, TList, TPath, items_of}
use Rattle.pie_value.specs.Canonical.{enc}
use Rattle.pie_value.specs.Limits.{is_small}
use Rattle.pie_record.specs.declared.dep.DepKind.{DepKind}
use Rattle.pie_record.specs.declared.dep.DepKind.TheVariants as kinds
use Rattle.pie_files.specs.Directory.{Directory, file_at, entries_of}
use Rattle.pie_named.specs.declared.stamps.FileStamp.{FileStamp}
use Rattle.pie_named.specs.declared.stamps.FileStamp.TheVariants.{Absent, Present, Hash, Mark}

-- the stamp as records have it
abbrev pub recorded : FileStamp → Stamp
recorded Absent = stamps.Absent
recorded Present = stamps.Present
recorded (Hash hash) = stamps.Hash hash
recorded (Mark mark) = stamps.Mark mark

-- a recorded stamp is this one
abbrev pub is_stamp : FileStamp → Stamp → Bool
is_stamp Absent stamps.Absent = true
is_stamp Present stamps.Present = true
is_stamp (Hash one) (stamps.Hash other) = pointwise ◌==◌ one other
is_stamp (Mark one) (stamps.Mark other) = one == other
is_stamp now other = false

-- by its presence, by its SHA-256, and by its mark
abbrev pub presence_of : Option (List ℕ × ℕ) → Option FileStamp
presence_of None = Some Absent
presence_of (Some f) = Some Present

abbrev pub hash_of : Option (List ℕ × ℕ) → Option FileStamp
hash_of None = Some Absent
hash_of (Some f) = Some (Hash (sha256 f.0))

abbrev pub mark_of : Option (List ℕ × ℕ) → Option FileStamp
mark_of None = Some Absent
mark_of (Some f) = Some (Mark f.1)

-- the paths as a value
abbrev pub paths_list : List (List ℕ) → Tree
paths_list paths = TList (items_of (map TPath paths))

-- a listing, if it is within the limits of values
abbrev pub listing_of : List (List ℕ) → Option FileStamp
listing_of paths = cond (is_small (paths_list paths)) (Some (Hash (sha256 (enc (paths_list paths))))) None

-- what an observation of this kind would be stamped with at a path; none where no task could observe what is there
abbrev pub stamp_in : Directory → DepKind → List ℕ → Option FileStamp
stamp_in d kinds.Exists p = presence_of (file_at d p)
stamp_in d kinds.ReadMark p = mark_of (file_at d p)
stamp_in d kinds.List p = listing_of (entries_of d p)
stamp_in d kind p = hash_of (file_at d p)

-- a recorded stamp isn't the one of now
abbrev pub differs_from : Option FileStamp → Stamp → Bool
differs_from None recorded = true
differs_from (Some now) recorded = cond (is_stamp now recorded) false true
