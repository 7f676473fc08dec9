-- How a verdict is printed.
use Rattle.std.specs.Prelude.{ℕ, List, [], ◌∷◌, ◌++◌, codes}
use Rattle.pie_base.specs.declared.fault.FaultKind.{FaultKind}
use Rattle.pie_base.specs.declared.fault.FaultKind.TheVariants as kinds
use Rattle.pie_value.specs.declared.task.Task.{Task}
use Rattle.pie_value.specs.declared.verdict.Refusal.{Refusal}
use Rattle.pie_value.specs.declared.verdict.Refusal.TheVariants as refusals
use Rattle.pie_value.specs.declared.verdict.Verdict.{Verdict}
use Rattle.pie_value.specs.declared.verdict.Verdict.TheVariants as verdicts
use Rattle.pie_value.specs.Shown.{quoted, shown_task}

-- a kind of fault: its name, and what was said in quotes
abbrev pub kind_text : FaultKind → List ℕ
kind_text kinds.NotText = codes "NotText"
kind_text kinds.BadPath = codes "BadPath"
kind_text kinds.BadWrite = codes "BadWrite"
kind_text kinds.WroteTwice = codes "WroteTwice"
kind_text kinds.ReadThenWrite = codes "ReadThenWrite"
kind_text kinds.Clash = codes "Clash"
kind_text kinds.Budget = codes "Budget"
kind_text kinds.Big = codes "Big"
kind_text kinds.Overflow = codes "Overflow"
kind_text kinds.Zero = codes "Zero"
kind_text kinds.Null = codes "Null"
kind_text (kinds.Said text) = codes "Said " ++ quoted text
kind_text kinds.Range = codes "Range"
kind_text kinds.BadList = codes "BadList"
kind_text kinds.Unknown = codes "Unknown"

-- tasks that others stand before, each after an arrow
abbrev pub cycle_on : List Task → List ℕ
cycle_on [] = []
cycle_on (t ∷ ts) = codes " -> " ++ (shown_task t ++ cycle_on ts)

-- tasks with an arrow between them
abbrev pub cycle : List Task → List ℕ
cycle [] = []
cycle (t ∷ ts) = shown_task t ++ cycle_on ts

-- two tasks with a comma and a space between them
abbrev pub two_tasks : Task → Task → List ℕ
two_tasks t u = shown_task t ++ (codes ", " ++ shown_task u)

-- why a build is refused
abbrev pub refusal_text : Refusal → List ℕ
refusal_text (refusals.Fault fault) = codes "fault " ++ (shown_task fault.task ++ (codes ": " ++ kind_text fault.kind))
refusal_text (refusals.Cycle tasks) = codes "cycle " ++ cycle tasks
refusal_text refusals.Many = codes "many"
refusal_text (refusals.Overlap path t u) = codes "overlap " ++ (path ++ (codes ": " ++ two_tasks t u))
refusal_text (refusals.Nested path below) = codes "nested " ++ (path ++ (codes ", " ++ below))
refusal_text (refusals.Hidden path reader writer) = codes "hidden " ++ (path ++ (codes ": " ++ two_tasks reader writer))

-- whether a build is accepted, and else why not
abbrev pub verdict_text : Verdict → List ℕ
verdict_text verdicts.Accepted = codes "accepted"
verdict_text (verdicts.Refused refusal) = codes "refused " ++ refusal_text refusal
