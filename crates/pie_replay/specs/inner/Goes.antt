-- What one step of a script says.
use Rattle.std.specs.Prelude.{◌≡◌, ◌⊎◌, ℕ, List, [], ◌∷◌, ◌++◌, Option, IfSome}
use Rattle.pie_commit.specs.Outcomes.{IsAtRest}
use Rattle.pie_files.specs.Directory.{Directory}
use Rattle.pie_files.specs.declared.files.Call.{Call}
use Rattle.pie_files.specs.Images.{MayLeave, MayRemove, MayWrite}
use Rattle.pie_files.specs.Reading.{Leaves}
use Rattle.pie_incremental.specs.Crashes.{MayStop}
use Rattle.pie_incremental.specs.Asked.{AsksRight}
use Rattle.pie_report.specs.declared.report.Report.{Report}
use Rattle.pie_script.specs.Steps.{Plain, PutFile, DelFile, Name, BuildNow}
use Rattle.pie_value.specs.declared.task.Task.{Task}
use Rattle.pie_replay.specs.Trace.{HasPut, HasDeleted, HasBuilt}

-- a step from these names, reports and tasks to those: one report and its tasks come of a build, which looked only where it may, and forgets the names; a name
-- comes of a change
abbrev pub Goes : {S : Type 0} → (S → Option Directory) → (S → Option (List Call)) → Plain → S → S → List (List ℕ) → List (List ℕ) → List Report → List Report
    → List Task → List Task → Type 0
Goes holds asked (PutFile path bytes) old new names then done more runs ran = HasPut holds path bytes old new × (then ≡ names) × (more ≡ done) × (ran ≡ runs)
Goes holds asked (DelFile path) old new names then done more runs ran = HasDeleted holds path old new × (then ≡ names) × (more ≡ done) × (ran ≡ runs)
Goes holds asked (Name path) old new names then done more runs ran = (new ≡ old) × (then ≡ names ++ path ∷ []) × (more ≡ done) × (ran ≡ runs)
Goes holds asked BuildNow old new names then done more runs ran =
    (report : Report) × HasBuilt holds names report old new × IfSome (holds old) (λ d. AsksRight names d report (asked old) (asked new))
    × (then ≡ []) × (more ≡ done ++ report ∷ []) × (ran ≡ runs ++ report.ran.items)

-- what a crash leaves of a step, done or not, where these names came before it: of a build what it could leave before, or what the build may leave of the
-- directory that it found
abbrev pub LeavesGoing : {S : Type 0} → (S → Option Directory) → (S → ℕ) → (S → ℕ → Directory → Type 0) → (S → Directory → Type 0) → Plain → List (List ℕ)
    → S → S → Type 0
LeavesGoing holds moment left_since images (PutFile path bytes) names old new = MayLeave holds moment left_since images (MayWrite path) old new
LeavesGoing holds moment left_since images (DelFile path) names old new = MayLeave holds moment left_since images (MayRemove path) old new
LeavesGoing holds moment left_since images (Name path) names old new = new ≡ old
LeavesGoing holds moment left_since images BuildNow names old new =
    IfSome (holds old) (λ d. Leaves moment left_since images (λ c. images old c ⊎ MayStop names d c) old new)

-- nothing is pending after a build
abbrev pub RestsAfter : {S : Type 0} → (S → Option Directory) → (S → Directory → Type 0) → Plain → S → S → Type 0
RestsAfter holds images (PutFile path bytes) old new = Unit {0}
RestsAfter holds images (DelFile path) old new = Unit {0}
RestsAfter holds images (Name path) old new = Unit {0}
RestsAfter holds images BuildNow old new = IfSome (holds old) (λ d. IsAtRest (holds new) (images new))
