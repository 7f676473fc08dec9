-- A directory between two builds, and the earlier build that it is based on.
use Rattle.std.specs.Prelude.{◌≡◌, ℕ, true, List, ◌++◌, All, Some, Ok}
use Rattle.pie_base.specs.Path.{is_out}
use Rattle.pie_files.specs.Directory.{Directory}
use Rattle.pie_model.specs.Paths.{among}
use Rattle.pie_model.specs.Changes.{NamesAllChanges}
use Rattle.pie_parser.specs.FunctionTrees.{FunctionTree}
use Rattle.pie_project.specs.Fronts.{ProjectSays}
use Rattle.pie_report.specs.declared.report.Report.{Report}
use Rattle.pie_store.specs.Pending.{in_order, IsName}
use Rattle.pie_value.specs.declared.task.Task.{Task}
use Rattle.pie_value.specs.declared.verdict.Verdict.TheVariants.{Accepted}
use Rattle.pie_incremental.specs.declared.base.Base.{Base}
use Rattle.pie_incremental.specs.Clean.{IsAfresh, IsAsClean}
use Rattle.pie_incremental.specs.Earlier.{AreSeparate, Earlier, GoesOnFrom, HasSpellings, IsStoreOfEarlier}
use Rattle.pie_incremental.specs.Kept.{is_builders, KeepsNames}
use Rattle.pie_incremental.specs.Own.{bytes_at}
use Rattle.pie_incremental.specs.Starts.{IsBase}

-- the store of a directory is that of an earlier build, and the pending names name all that changed since
pub record IsBasedOn (e : Earlier) (d : Directory) : Type 0 where
  pub stored : (b : Base) → IsBase d b → IsStoreOfEarlier e b.image
  pub pending : (b : Base) → IsBase d b → NamesAllChanges e.left d b.names.items

-- an edit between two builds: a list names each change, and the builder's own files stay
pub record IsEdit (left now : Directory) (list : List (List ℕ)) : Type 0 where
  pub named : NamesAllChanges left now list
  pub own : (q : List ℕ) → is_builders q ≡ true → bytes_at now q ≡ bytes_at left q

-- what an earlier build met and what a build of a directory meets is separate, with both pipelines, the spellings of their functions and the files
-- under `out` among it
pub record IsApart (e : Earlier) (d : Directory) : Type 0 where
  pub strings : List (List ℕ)
  pub out : (path bytes : List ℕ) → is_out path ≡ true → bytes_at d path ≡ Some bytes → among bytes strings ≡ true
  pub earlier : HasSpellings e.built e.found.functions strings
  pub now : (fs : List FunctionTree) (roots : List Task) → ProjectSays d (Ok (fs, roots)) → AreSeparate e strings d fs roots

-- a directory was built, and what was left is based on that build
pub record IsBaseOfNext (d left : Directory) : Type 0 where
  pub earlier : Earlier
  pub built : earlier.built ≡ d
  pub leaves : earlier.left ≡ left
  pub based : IsBasedOn earlier left

-- ---- the laws

-- after an edit that is told, a directory goes on from the build that it was based on before
abbrev pub EditsGoOn : Type 0
EditsGoOn =
    (e : Earlier) (left now : Directory) (list : List (List ℕ)) → IsBasedOn e left → IsEdit left now list → IsApart e now → GoesOnFrom e list now

-- an accepted build that is as the clean build is one that the next build can be based on
abbrev pub CleanBuildsAreBases : Type 0
CleanBuildsAreBases = (d left : Directory) (r : Report) → IsAsClean d r (Some left) → r.verdict ≡ Accepted → IsBaseOfNext d left

-- so is one that started afresh
abbrev pub AfreshBuildsAreBases : Type 0
AfreshBuildsAreBases = (d left : Directory) (r : Report) → IsAfresh d r (Some left) → r.verdict ≡ Accepted → IsBaseOfNext d left

-- a refused build that keeps its names leaves a directory that is based on the same build as before
abbrev pub RefusedBuildsKeepBases : Type 0
RefusedBuildsKeepBases =
    (e : Earlier) (d left : Directory) (list : List (List ℕ)) (b : Base) → GoesOnFrom e list d → IsBase d b → All IsName list
    → KeepsNames (in_order (list ++ b.names.items)) d (Some left) → IsBasedOn e left
