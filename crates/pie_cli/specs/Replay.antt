-- What `replay` prints, the status that it ends with, and what it leaves of a directory.
use Rattle.std.specs.Prelude.{◌≡◌, ◌⊎◌, ◌+◌, ℕ, Bool, true, false, List, [], ◌∷◌, ◌++◌, codes, Option, Some, IfSome, Result}
use Rattle.std.specs.Fmt.{decimal}
use Rattle.pie_base.specs.declared.status.Status.{Status}
use Rattle.pie_base.specs.declared.status.Status.TheVariants as status
use Rattle.pie_files.specs.Directory.{Directory}
use Rattle.pie_files.specs.declared.files.Call.{Call}
use Rattle.pie_files.specs.Faults.{Rose}
use Rattle.pie_input.specs.Scripts.{AreSteps, IsBadScript}
use Rattle.pie_project.specs.declared.fault.BuildError.{BuildError}
use Rattle.pie_project.specs.declared.fault.BuildError.TheVariants as errors
use Rattle.pie_project.specs.Refusals.{Refusal, OfPipeline, OfRoots, plain}
use Rattle.pie_replay.specs.Crashes.{Survives}
use Rattle.pie_replay.specs.Looks.{LooksRight}
use Rattle.pie_replay.specs.Replays.{KeepsOthers, Stopped, SurvivesStop, Went, WentSurviving}
use Rattle.pie_replay.specs.Trace.{Trace}
use Rattle.pie_report.specs.declared.report.Report.{Report}
use Rattle.pie_report.specs.Refused.{bad_input_text, refusal_line}
use Rattle.pie_script.specs.Reading.{script_lines}
use Rattle.pie_script.specs.Steps.{steps, Plain}
use Rattle.pie_script.specs.declared.fault.InputFault.{InputFault}
use Rattle.pie_script_laws.specs.Played.{AreClean}
use Rattle.pie_cli.specs.Fresh.{IsPrinted, verdict_status}
use Rattle.pie_cli.specs.Run.{files_fault_text, input_fault_text, is_answer, Gains, GainsAtMost}

-- what stands before the report of the k-th build: its number, and nothing before a line of JSON
abbrev pub heading : Bool → ℕ → List ℕ
heading false k = codes "build " ++ (decimal k ++ codes "\n")
heading true k = []

-- a text is that of these reports one after another, the first of which is that of the k-th build
abbrev pub ArePrinted : Bool → ℕ → List Report → List ℕ → Type 0
ArePrinted json k [] text = text ≡ []
ArePrinted json k (report ∷ reports) text =
    (first : List ℕ) × (more : List ℕ) × IsPrinted json report first × ArePrinted json (k + 1) reports more × (text ≡ heading json k ++ (first ++ more))

-- the status of the last of some builds, 0 where there is none
abbrev pub last_status : List Report → Status
last_status [] = status.Ok
last_status (report ∷ []) = verdict_status report.verdict
last_status (report ∷ next ∷ reports) = last_status (next ∷ reports)

-- all steps were done, the builds were as clean builds and looked only where they may, and a crash leaves only what these steps may leave: the text is that of
-- the reports, and the status that of the last one
pub record HasDoneAll {S : Type 0} (holds : S → Option Directory) (moment : S → ℕ) (left_since : S → ℕ → Directory → Type 0) (images : S → Directory → Type 0)
    (asked : S → Option (List Call)) (json : Bool) (steps : List Plain) (old new : S) (text : List ℕ) (ended : Status) : Type 0 where
  pub reports : List Report
  pub names : List (List ℕ)
  pub trace : Trace holds old steps names reports new
  pub clean : IfSome (holds old) (λ d. AreClean d steps names reports (holds new))
  pub looks : LooksRight holds asked old trace
  pub crash : Survives holds moment left_since images old new trace
  pub printed : ArePrinted json 1 reports text
  pub status : ended ≡ last_status reports

-- what ended a script is the refusal of a project
abbrev pub IsRefusedBy : Refusal → BuildError → Type 0
IsRefusedBy r (errors.Pipeline fault) = r ≡ OfPipeline (plain fault)
IsRefusedBy r (errors.Roots reason) = r ≡ OfRoots reason
IsRefusedBy r errors.Files = ⊥
IsRefusedBy r errors.OutOfMemory = ⊥

-- a step failed with this, the builds before it were as clean builds and looked only where they may, and a crash leaves only what these steps and that one may
-- leave: the text is that of their reports, and then this line
pub record HasStopped {S : Type 0} (holds : S → Option Directory) (moment : S → ℕ) (left_since : S → ℕ → Directory → Type 0) (images : S → Directory → Type 0)
    (asked : S → Option (List Call)) (json : Bool) (steps : List Plain) (old new : S) (e : BuildError) (line text : List ℕ) : Type 0 where
  pub reports : List Report
  pub stopped : Stopped holds steps reports e old new
  pub clean : IfSome (holds old) (λ d. AreClean d stopped.front stopped.names reports (holds stopped.mid))
  pub looks : LooksRight holds asked old stopped.done
  pub crash : SurvivesStop holds moment left_since images steps reports e old new stopped
  pub earlier : List ℕ
  pub printed : ArePrinted json 1 reports earlier
  pub is : text ≡ earlier ++ line

-- a build found no project: the reports before it, and the line of the refusal
abbrev pub HasRefused : {S : Type 0} → (S → Option Directory) → (S → ℕ) → (S → ℕ → Directory → Type 0) → (S → Directory → Type 0)
    → (S → Option (List Call)) → Bool → List Plain → S → S → List ℕ → Status → Type 0
HasRefused holds moment left_since images asked json steps old new text ended = (e : BuildError) × (r : Refusal) × IsRefusedBy r e
    × HasStopped holds moment left_since images asked json steps old new e (refusal_line r) text × (ended ≡ status.Pipeline)

-- what the steps of a script say
abbrev pub ReplaySays : {S : Type 0} → (S → Option Directory) → (S → ℕ) → (S → ℕ → Directory → Type 0) → (S → Directory → Type 0)
    → (S → Option (List Call)) → Bool → List Plain → S → S → List ℕ → Status → Type 0
ReplaySays holds moment left_since images asked json steps old new text ended =
    HasDoneAll holds moment left_since images asked json steps old new text ended
    ⊎ HasRefused holds moment left_since images asked json steps old new text ended

-- a call on the files failed: the reports before it, and the line of the fault
abbrev pub HasFailed : {S : Type 0} → (S → Option Directory) → (S → ℕ) → (S → ℕ → Directory → Type 0) → (S → Directory → Type 0)
    → (S → Option (List Call)) → Bool → List Plain → S → S → List ℕ → Type 0
HasFailed holds moment left_since images asked json steps old new text =
    HasStopped holds moment left_since images asked json steps old new errors.Files files_fault_text text

-- an input was read to its end, and these are the steps of the script that it has
abbrev pub HasScript : Option (List ℕ) → Option (List ℕ) → List Plain → Type 0
HasScript left after found = IfSome left (λ bytes. AreSteps bytes found × (after ≡ Some []))

-- the script of an input is refused: the line tells why
abbrev pub IsBadSteps : Option (List ℕ) → List ℕ → Status → Type 0
IsBadSteps left text ended =
    (fault : InputFault) × IfSome left (λ bytes. IsBadScript bytes fault) × (text ≡ bad_input_text fault) × (ended ≡ status.BadInput)

-- what `replay` says: the script is refused, and nothing is asked of the files; or it was read, and the rest is that of its steps
abbrev pub ScriptSays : {S : Type 0} → (S → Option Directory) → (S → ℕ) → (S → ℕ → Directory → Type 0) → (S → Directory → Type 0)
    → (S → Option (List Call)) → Bool → S → S → Option (List ℕ) → Option (List ℕ) → List ℕ → Status → Type 0
ScriptSays holds moment left_since images asked json old new left after text ended = (IsBadSteps left text ended × (new ≡ old))
    ⊎ ((found : List Plain) × HasScript left after found × ReplaySays holds moment left_since images asked json found old new text ended)

-- a text that `replay` prints: what it says, that the input failed, or reports and that a call on the files failed
abbrev pub IsReplayText : {S : Type 0} → (S → Option Directory) → (S → ℕ) → (S → ℕ → Directory → Type 0) → (S → Directory → Type 0)
    → (S → Option (List Call)) → Bool → S → S → Option (List ℕ) → Option (List ℕ) → Type 0 → Type 0 → List ℕ → Type 0
IsReplayText holds moment left_since images asked json old new left after InputFailed FilesFailed text =
    ((ended : Status) × ScriptSays holds moment left_since images asked json old new left after text ended)
    ⊎ ((InputFailed × (text ≡ input_fault_text))
    ⊎ (FilesFailed × (found : List Plain) × HasScript left after found × HasFailed holds moment left_since images asked json found old new text))

-- the steps of a script were done, all or those before one that failed, and a crash leaves only what they may leave
abbrev pub StepsLeave : {S : Type 0} → (S → Option Directory) → (S → ℕ) → (S → ℕ → Directory → Type 0) → (S → Directory → Type 0) → List Plain → S → S
    → Type 0
StepsLeave holds moment left_since images steps old new = (result : Result (Unit {0}) BuildError) × (reports : List Report)
    × (went : Went holds steps reports old new result) × WentSurviving holds moment left_since images steps reports old new result went

-- what a crash leaves of `replay`: nothing was asked of the files, or the script was read, and it leaves what that of its steps does
abbrev pub ScriptLeaves : {S : Type 0} → (S → Option Directory) → (S → ℕ) → (S → ℕ → Directory → Type 0) → (S → Directory → Type 0) → S → S
    → Option (List ℕ) → Option (List ℕ) → Type 0
ScriptLeaves holds moment left_since images old new left after =
    (new ≡ old) ⊎ ((found : List Plain) × HasScript left after found × StepsLeave holds moment left_since images found old new)

-- what `replay` says, whatever it ended with: an answer; what was printed where a call on the files failed; what the output gained at most; that a script that
-- is refused, or an input that fails, leaves the files alone; that no path but those of its steps changes that no build may change; and what a crash leaves
pub record RunsReplay {S I : Type 0} (holds : S → Option Directory) (moment : S → ℕ) (left_since : S → ℕ → Directory → Type 0) (images : S → Directory → Type 0)
    (asked : S → Option (List Call)) (faults : S → ℕ) (left : I → Option (List ℕ)) (input_faults : I → ℕ) (json : Bool) (old new : S) (input after : I)
    (held gained : Option (List ℕ)) (ended : Status) : Type 0 where
  pub replayed : is_answer ended ≡ true
      → (text : List ℕ) × ScriptSays holds moment left_since images asked json old new (left input) (left after) text ended × Gains held gained text
  pub failed : ended ≡ status.Files → (text : List ℕ)
      × ((found : List Plain) × HasScript (left input) (left after) found × HasFailed holds moment left_since images asked json found old new text)
      × Gains held gained text
  pub printed : GainsAtMost (IsReplayText holds moment left_since images asked json old new (left input) (left after)
      (Rose (input_faults input) (input_faults after)) (Rose (faults old) (faults new))) ⊥ held gained ended
  pub bad : IfSome (left input) (λ bytes. (fault : InputFault) → IsBadScript bytes fault → new ≡ old)
  pub unread : ended ≡ status.Input → new ≡ old
  pub rest : IfSome (left input) (λ bytes. KeepsOthers (steps (script_lines bytes)) (holds old) (holds new))
  pub crash : ScriptLeaves holds moment left_since images old new (left input) (left after)
