-- Records and verdicts of the language as the model has them.
use Rattle.std.specs.Prelude.{ℕ, List, map}
use Rattle.pie_value.specs.declared.stamp.Stamp.{Stamp}
use Rattle.pie_value.specs.declared.stamp.Stamp.TheVariants as stamps
use Rattle.pie_value.specs.declared.verdict.Refusal.{Refusal}
use Rattle.pie_value.specs.declared.verdict.Refusal.TheVariants as refusals
use Rattle.pie_value.specs.declared.verdict.Verdict.{Verdict}
use Rattle.pie_value.specs.declared.verdict.Verdict.TheVariants as verdicts
use Rattle.pie_value.specs.Values.{tree_of}
use Rattle.pie_value.specs.Canonical.{enc, enc_task}
use Rattle.pie_record.specs.declared.dep.Dep.{Dep}
use Rattle.pie_record.specs.declared.dep.DepKind.{DepKind}
use Rattle.pie_record.specs.declared.dep.DepKind.TheVariants as kinds
use Rattle.pie_record.specs.declared.dep.DepOn.{DepOn}
use Rattle.pie_record.specs.declared.dep.DepOn.TheVariants.{File, Called}
use Rattle.pie_record.specs.declared.task_record.Outcome.{Outcome}
use Rattle.pie_record.specs.declared.task_record.Outcome.TheVariants.{Done, Failed, Cycled}
use Rattle.pie_record.specs.declared.task_record.TaskRecord.{TaskRecord}
use Rattle.pie_model.specs.declared.words.Look.TheVariants as looks
use Rattle.pie_model.specs.declared.words.How.{How as ModelHow}
use Rattle.pie_model.specs.declared.words.How.TheVariants as hows
use Rattle.pie_model.specs.declared.words.Outcome.{Outcome as ModelOutcome}
use Rattle.pie_model.specs.declared.words.Outcome.TheVariants as ends
use Rattle.pie_model.specs.Records as records
use Rattle.pie_model.specs.declared.words.Verdict.{Verdict as ModelVerdict}
use Rattle.pie_model.specs.declared.words.Verdict.TheVariants as verdict
use Rattle.pie_model_pipeline.specs.Words.{fault_of}

-- a stamp
abbrev pub stamp_of : Stamp → records.Stamp
stamp_of stamps.Absent = records.Absent
stamp_of stamps.Present = records.Present
stamp_of (stamps.Hash hash) = records.Hash hash
stamp_of (stamps.Mark mark) = records.Mark mark
stamp_of (stamps.Whole v) = records.WholeValue (enc (tree_of v))
stamp_of stamps.Done = records.Success

-- what was asked of a path
abbrev pub asked_of : DepKind → List ℕ → records.Query
asked_of kinds.Exists p = records.Looked looks.Exists p
asked_of kinds.ReadHash p = records.Looked looks.ByHash p
asked_of kinds.ReadMark p = records.Looked looks.ByMark p
asked_of kinds.Digest p = records.Looked looks.Digest p
asked_of kinds.List p = records.Listed p
asked_of k p = records.Listed p

-- how a task was required
abbrev pub how_by : DepKind → ModelHow
how_by kinds.Require = hows.Whole
how_by kinds.RequireHash = hows.Hashed
how_by k = hows.Ran

-- what was asked
abbrev pub query_of : DepKind → DepOn → records.Query
query_of k (File p) = asked_of k p
query_of k (Called t) = records.Required (how_by k) (enc_task t)

-- an observation
abbrev pub observation_of : Dep → records.Observation
observation_of d = record { query = query_of d.kind d.what; stamp = stamp_of d.stamp }

-- how a task ended
abbrev pub outcome_of : Outcome → ModelOutcome
outcome_of (Done v) = ends.Ended (enc (tree_of v))
outcome_of (Failed f) = ends.Failed (enc_task f.task) (fault_of f.kind)
outcome_of (Cycled ts) = ends.Cycled (map enc_task ts)

-- what is kept of a task
abbrev pub record_of : TaskRecord → records.Record
record_of r = record { task = enc_task r.task; observations = map observation_of r.deps; writes = r.writes; outcome = outcome_of r.outcome }

-- a refusal
abbrev pub refusal_of : Refusal → ModelVerdict
refusal_of (refusals.Fault f) = verdict.Fault (enc_task f.task) (fault_of f.kind)
refusal_of (refusals.Cycle ts) = verdict.Cycle (map enc_task ts)
refusal_of refusals.Many = verdict.Many
refusal_of (refusals.Overlap p t u) = verdict.Overlap p (enc_task t) (enc_task u)
refusal_of (refusals.Nested p q) = verdict.Nested p q
refusal_of (refusals.Hidden p t u) = verdict.Hidden p (enc_task t) (enc_task u)

-- a verdict
abbrev pub verdict_of : Verdict → ModelVerdict
verdict_of verdicts.Accepted = verdict.Accepted
verdict_of (verdicts.Refused r) = refusal_of r
