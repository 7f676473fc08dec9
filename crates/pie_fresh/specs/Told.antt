-- What a build tells of: tasks and values that the program has, of which no two have the same canonical bytes.
use Rattle.std.specs.Prelude.{List, All}
use Rattle.pie_value.specs.declared.task.Task.{Task}
use Rattle.pie_value.specs.declared.value.Value.{Value}
use Rattle.pie_value.specs.declared.verdict.Refusal.{Refusal}
use Rattle.pie_value.specs.declared.verdict.Refusal.TheVariants as refusals
use Rattle.pie_value.specs.declared.verdict.Verdict.{Verdict}
use Rattle.pie_value.specs.declared.verdict.Verdict.TheVariants.{Accepted, Refused}
use Rattle.pie_value.specs.Values.{tree_of}
use Rattle.pie_value.specs.Canonical.{enc, enc_task, IsCanonical, IsCanonicalTask}

-- each number in a task has 64 bits, each text is UTF-8, each path is a path, and all parts are short enough to have canonical bytes
abbrev pub IsTrueTask : Task → Type 0
IsTrueTask t = IsCanonicalTask t (enc_task t)

-- so it is with a value
abbrev pub IsTrueValue : Value → Type 0
IsTrueValue v = IsCanonical (tree_of v) (enc (tree_of v))

-- with a task and the value that it ended with
abbrev pub IsTrueOutput : Task × Value → Type 0
IsTrueOutput o = IsTrueTask o.0 × IsTrueValue o.1

-- with each task of a refusal
abbrev pub IsTrueRefusal : Refusal → Type 0
IsTrueRefusal (refusals.Fault f) = IsTrueTask f.task
IsTrueRefusal (refusals.Cycle ts) = All IsTrueTask ts
IsTrueRefusal refusals.Many = Unit {0}
IsTrueRefusal (refusals.Overlap p t u) = IsTrueTask t × IsTrueTask u
IsTrueRefusal (refusals.Nested p q) = Unit {0}
IsTrueRefusal (refusals.Hidden p t u) = IsTrueTask t × IsTrueTask u

-- with those of a verdict
abbrev pub IsTrueVerdict : Verdict → Type 0
IsTrueVerdict Accepted = Unit {0}
IsTrueVerdict (Refused r) = IsTrueRefusal r

-- and with all that a build tells: the tasks that it started, its verdict and its outputs
pub record TellsTrue (started : List Task) (said : Verdict) (gave : List (Task × Value)) : Type 0 where
  pub ran : All IsTrueTask started
  pub verdict : IsTrueVerdict said
  pub outputs : All IsTrueOutput gave
