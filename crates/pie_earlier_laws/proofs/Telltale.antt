-- A row comes back from the record of the model.
use Rattle.std.proofs.Common.{ℕ, ◌≡◌, List, [], ◌∷◌, map, All, IsTrue, Ok, Err, refl, sym, ap, ap₂, ◌∙◌}
use Rattle.std.proofs.lemmas.List.Elements.{All-head, All-tail}
use Rattle.pie_value.specs.declared.stamp.Stamp.{Stamp}
use Rattle.pie_value.specs.declared.stamp.Stamp.TheVariants as stamps
use Rattle.pie_value.specs.declared.task.Task.{Task}
use Rattle.pie_value.specs.declared.value.Value.{Value}
use Rattle.pie_value.specs.declared.value.Value.TheVariants.{Unit as UnitValue}
use Rattle.pie_value.specs.Values.{tree_of}
use Rattle.pie_value.specs.Canonical.{enc, enc_task, IsEncodable, IsEncodableTask, HasTrueLeaves}
use Rattle.pie_value.specs.Reading.{Parsed, task_prefix}
use Rattle.pie_value.proofs.Decoded.{task_whole_again}
use Rattle.pie_record.specs.declared.dep.Dep.{Dep}
use Rattle.pie_record.specs.declared.dep.DepKind.{DepKind}
use Rattle.pie_record.specs.declared.dep.DepKind.TheVariants as kinds
use Rattle.pie_record.specs.declared.dep.DepOn.{DepOn}
use Rattle.pie_record.specs.declared.dep.DepOn.TheVariants.{File, Called}
use Rattle.pie_record.specs.declared.task_record.Outcome.{Outcome}
use Rattle.pie_record.specs.declared.task_record.Outcome.TheVariants.{Done, Failed, Cycled}
use Rattle.pie_record.specs.declared.task_record.TaskRecord.{TaskRecord}
use Rattle.pie_record.specs.Kinds.{tag_of, allows}
use Rattle.pie_record.specs.Canonical.{IsStorableOn, IsStorableStamp, IsStorableDep, IsStorableOutcome}
use Rattle.pie_record.specs.Canonical.{IsTrueTask, IsTrueOn, IsTrueStamp, IsTrueDep, IsTrueOutcome}
use Rattle.pie_model.specs.declared.words.Look.TheVariants as looks
use Rattle.pie_model.specs.declared.words.How.{How as ModelHow}
use Rattle.pie_model.specs.declared.words.How.TheVariants as hows
use Rattle.pie_model.specs.declared.words.Outcome.{Outcome as ModelOutcome}
use Rattle.pie_model.specs.declared.words.Outcome.TheVariants as ends
use Rattle.pie_model.specs.Records as records
use Rattle.pie_model_pipeline.specs.Rows.{stamp_of, query_of, observation_of, outcome_of, record_of}
use Rattle.pie_model_pipeline.specs.Answers.{value_with}
use Rattle.pie_model_pipeline.proofs.Joining.{values_told}
use Rattle.pie_earlier_laws.specs.Told.{IsRow}

-- ---- tasks and values from their bytes

abbrev task_read : Parsed Task → Task
task_read (Ok p) = p.0
task_read (Err e) = record { func = []; args = [] }

abbrev task_with : List ℕ → Task
task_with bytes = task_read (task_prefix bytes)

task_back : (t : Task) → IsEncodableTask t → IsTrueTask t → task_with (enc_task t) ≡ t
task_back t e p = ap task_read (task_whole_again t (enc_task t) (record { encodable = e; name = p.0; leaves = p.1; bytes = refl }))

value_back : (v : Value) → IsEncodable (tree_of v) → HasTrueLeaves (tree_of v) → value_with (enc (tree_of v)) ≡ v
value_back v e p = values_told v (record { encodable = e; leaves = p; bytes = refl })

-- ---- stamps

abbrev stamp_with : records.Stamp → Stamp
stamp_with records.Absent = stamps.Absent
stamp_with records.Present = stamps.Present
stamp_with (records.Hash hash) = stamps.Hash hash
stamp_with (records.Mark mark) = stamps.Mark mark
stamp_with (records.WholeValue v) = stamps.Whole (value_with v)
stamp_with records.Success = stamps.Done

stamp_back : (s : Stamp) → IsStorableStamp s → IsTrueStamp s → stamp_with (stamp_of s) ≡ s
stamp_back stamps.Absent e p = refl
stamp_back stamps.Present e p = refl
stamp_back (stamps.Hash hash) e p = refl
stamp_back (stamps.Mark mark) e p = refl
stamp_back (stamps.Whole v) e p = ap stamps.Whole (value_back v e p)
stamp_back stamps.Done e p = refl

-- ---- what was asked

abbrev kind_by : ModelHow → DepKind
kind_by hows.Whole = kinds.Require
kind_by hows.Hashed = kinds.RequireHash
kind_by hows.Ran = kinds.Run

abbrev kind_with : records.Query → DepKind
kind_with (records.Looked looks.Exists p) = kinds.Exists
kind_with (records.Looked looks.ByHash p) = kinds.ReadHash
kind_with (records.Looked looks.ByMark p) = kinds.ReadMark
kind_with (records.Looked looks.Digest p) = kinds.Digest
kind_with (records.Listed p) = kinds.List
kind_with (records.Required h t) = kind_by h

abbrev what_with : records.Query → DepOn
what_with (records.Looked l p) = File p
what_with (records.Listed p) = File p
what_with (records.Required h t) = Called (task_with t)

kind_back : (k : DepKind) (w : DepOn) (s : Stamp) → IsTrue (allows k w (tag_of s)) → kind_with (query_of k w) ≡ k
kind_back kinds.Exists (File p) s h = refl
kind_back kinds.ReadHash (File p) s h = refl
kind_back kinds.ReadMark (File p) s h = refl
kind_back kinds.Digest (File p) s h = refl
kind_back kinds.List (File p) s h = refl
kind_back kinds.Require (File p) s h = cc
kind_back kinds.RequireHash (File p) s h = cc
kind_back kinds.Run (File p) s h = cc
kind_back kinds.Exists (Called t) s h = cc
kind_back kinds.ReadHash (Called t) s h = cc
kind_back kinds.ReadMark (Called t) s h = cc
kind_back kinds.Digest (Called t) s h = cc
kind_back kinds.List (Called t) s h = cc
kind_back kinds.Require (Called t) s h = refl
kind_back kinds.RequireHash (Called t) s h = refl
kind_back kinds.Run (Called t) s h = refl

what_back : (k : DepKind) (w : DepOn) → IsStorableOn w → IsTrueOn w → what_with (query_of k w) ≡ w
what_back kinds.Exists (File p) e q = refl
what_back kinds.ReadHash (File p) e q = refl
what_back kinds.ReadMark (File p) e q = refl
what_back kinds.Digest (File p) e q = refl
what_back kinds.List (File p) e q = refl
what_back kinds.Require (File p) e q = refl
what_back kinds.RequireHash (File p) e q = refl
what_back kinds.Run (File p) e q = refl
what_back k (Called t) e q = ap Called (task_back t e q)

-- ---- rows

abbrev dep_with : records.Observation → Dep
dep_with o = record { kind = kind_with o.query; what = what_with o.query; stamp = stamp_with o.stamp }

same_dep : (d e : Dep) → d.kind ≡ e.kind → d.what ≡ e.what → d.stamp ≡ e.stamp → d ≡ e
same_dep d e k w s = λ i. record { kind = k i; what = w i; stamp = s i }

dep_back : (d : Dep) → IsStorableDep d → IsTrueDep d → dep_with (observation_of d) ≡ d
dep_back d e p =
    same_dep (dep_with (observation_of d)) d (kind_back d.kind d.what d.stamp e.allowed) (what_back d.kind d.what e.what p.0)
    (stamp_back d.stamp e.stamp p.1)

deps_back : (ds : List Dep) → All IsStorableDep ds → All IsTrueDep ds → map dep_with (map observation_of ds) ≡ ds
deps_back [] e p = refl
deps_back (d ∷ ds) e p =
    ap₂ (λ x xs. x ∷ xs) (dep_back d (All-head IsStorableDep d ds e) (All-head IsTrueDep d ds p))
    (deps_back ds (All-tail IsStorableDep d ds e) (All-tail IsTrueDep d ds p))

abbrev outcome_with : ModelOutcome → Outcome
outcome_with (ends.Ended v) = Done (value_with v)
outcome_with e = Done UnitValue

outcome_back : (o : Outcome) → IsStorableOutcome o → IsTrueOutcome o → outcome_with (outcome_of o) ≡ o
outcome_back (Done v) e p = ap Done (value_back v e p)
outcome_back (Failed f) e p = absurd e
outcome_back (Cycled ts) e p = absurd e

abbrev row_with : records.Record → TaskRecord
row_with r = record { task = task_with r.task; deps = map dep_with r.observations; writes = r.writes; outcome = outcome_with r.outcome }

same_row : (r s : TaskRecord) → r.task ≡ s.task → r.deps ≡ s.deps → r.writes ≡ s.writes → r.outcome ≡ s.outcome → r ≡ s
same_row r s t d w o = λ i. record { task = t i; deps = d i; writes = w i; outcome = o i }

row_back : (r : TaskRecord) → IsRow r → row_with (record_of r) ≡ r
row_back r k =
    same_row (row_with (record_of r)) r (task_back r.task k.storable.task k.parts.task) (deps_back r.deps k.storable.deps k.parts.deps) refl
    (outcome_back r.outcome k.storable.outcome k.parts.outcome)

pub rows_told : (r s : TaskRecord) → IsRow r → IsRow s → record_of r ≡ record_of s → r ≡ s
rows_told r s k l e = sym (row_back r k) ∙ ap row_with e ∙ row_back s l

all_back : (rs : List TaskRecord) → All IsRow rs → map row_with (map record_of rs) ≡ rs
all_back [] k = refl
all_back (r ∷ rs) k = ap₂ (λ x xs. x ∷ xs) (row_back r (All-head IsRow r rs k)) (all_back rs (All-tail IsRow r rs k))

pub stores_told : (rs ss : List TaskRecord) → All IsRow rs → All IsRow ss → map record_of rs ≡ map record_of ss → rs ≡ ss
stores_told rs ss k l e = sym (all_back rs k) ∙ ap (map row_with) e ∙ all_back ss l
