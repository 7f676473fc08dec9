-- How the logic stores records: a map into plain data that is one to one.
use Rattle.std.proofs.Common.{◌≡◌, ℕ, List, [], refl, ap, arith, inl, inr}
use Rattle.std.specs.Prelude.{◌⊎◌}
use base.Stored.{coded_via}
use Rattle.std.specs.Coded.{Coded, code_by, coded×, coded⊎, coded_ℕ, coded_list}
use Rattle.pie_base.specs.declared.fault.FaultKind.{FaultKind}
use Rattle.pie_base.specs.declared.fault.FaultKind.TheVariants.{NotText, BadPath, BadWrite, WroteTwice, ReadThenWrite, Clash, Budget, Big}
use Rattle.pie_base.specs.declared.fault.FaultKind.TheVariants.{Overflow, Zero, Null, Said, Range, BadList, Unknown}
use Rattle.pie_value.specs.declared.value.Value.{Value}
use Rattle.pie_value.specs.declared.task.Task.{Task}
use Rattle.pie_value.specs.declared.verdict.Fault.{Fault}
use Rattle.pie_value.specs.inner.TaskCodes.{coded_task, coded_tasks}
use Rattle.pie_record.specs.declared.dep.Dep.{Dep}
use Rattle.pie_record.specs.declared.task_record.Outcome.{Outcome}
use Rattle.pie_record.specs.declared.task_record.Outcome.TheVariants.{Done, Failed, Cycled}
use Rattle.pie_record.specs.declared.task_record.TaskRecord.{TaskRecord}
use Rattle.pie_record.specs.inner.Codes.{coded_value, coded_deps}

-- the number of a fault, and its text if it has one
abbrev fault_parts : FaultKind → ℕ × List ℕ
fault_parts NotText = (1, [])
fault_parts BadPath = (2, [])
fault_parts BadWrite = (3, [])
fault_parts WroteTwice = (4, [])
fault_parts ReadThenWrite = (5, [])
fault_parts Clash = (6, [])
fault_parts Budget = (7, [])
fault_parts Big = (8, [])
fault_parts Overflow = (9, [])
fault_parts Zero = (10, [])
fault_parts Null = (11, [])
fault_parts (Said text) = (12, text)
fault_parts Range = (13, [])
fault_parts BadList = (14, [])
fault_parts Unknown = (15, [])

abbrev number_of : ℕ × List ℕ → ℕ
number_of p = p.0

-- faults with equal parts are one
pub fault_inj : (x y : FaultKind) → fault_parts x ≡ fault_parts y → x ≡ y
fault_inj NotText NotText e = refl
fault_inj BadPath BadPath e = refl
fault_inj BadWrite BadWrite e = refl
fault_inj WroteTwice WroteTwice e = refl
fault_inj ReadThenWrite ReadThenWrite e = refl
fault_inj Clash Clash e = refl
fault_inj Budget Budget e = refl
fault_inj Big Big e = refl
fault_inj Overflow Overflow e = refl
fault_inj Zero Zero e = refl
fault_inj Null Null e = refl
fault_inj (Said x) (Said y) e = ap (λ (p : ℕ × List ℕ). Said p.1) e
fault_inj Range Range e = refl
fault_inj BadList BadList e = refl
fault_inj Unknown Unknown e = refl
fault_inj x y e = absurd (omega (arith, ap number_of e))

abbrev pub coded_kind : Coded FaultKind
coded_kind = coded_via (coded× coded_ℕ (coded_list coded_ℕ)) fault_parts fault_inj

abbrev pub coded_fault : Coded Fault
coded_fault =
    code_by (Task × FaultKind) (coded× coded_task coded_kind) (λ f. (f.task, f.kind)) (λ p. record { task = p.0; kind = p.1 }) (λ _. refl)

abbrev Parts : Type 0
Parts = Value ⊎ (Fault ⊎ List Task)

abbrev outcome_parts : Outcome → Parts
outcome_parts (Done value) = inl value
outcome_parts (Failed fault) = inr (inl fault)
outcome_parts (Cycled tasks) = inr (inr tasks)

abbrev outcome_of : Parts → Outcome
outcome_of (inl value) = Done value
outcome_of (inr (inl fault)) = Failed fault
outcome_of (inr (inr tasks)) = Cycled tasks

pub outcome_back : (o : Outcome) → outcome_of (outcome_parts o) ≡ o
outcome_back (Done value) = refl
outcome_back (Failed fault) = refl
outcome_back (Cycled tasks) = refl

abbrev pub coded_outcome : Coded Outcome
coded_outcome = code_by Parts (coded⊎ coded_value (coded⊎ coded_fault coded_tasks)) outcome_parts outcome_of outcome_back

abbrev pub coded_record : Coded TaskRecord
coded_record =
    code_by (Task × (List Dep × (List (List ℕ × List ℕ) × Outcome)))
    (coded× coded_task (coded× coded_deps (coded× (coded_list (coded× (coded_list coded_ℕ) (coded_list coded_ℕ))) coded_outcome)))
    (λ r. (r.task, (r.deps, (r.writes, r.outcome))))
    (λ p. record { task = p.0; deps = p.1.0; writes = p.1.1.0; outcome = p.1.1.1 }) (λ _. refl)

abbrev pub coded_records : Coded (List TaskRecord)
coded_records = coded_list coded_record
