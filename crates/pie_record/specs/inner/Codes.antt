-- How the logic stores observations: a map into plain data that is one to one.
use Rattle.std.proofs.Common.{◌≡◌, ℕ, List, refl, arith, inl, inr}
use Rattle.std.specs.Prelude.{◌⊎◌}
use base.Stored.{coded_unit, coded_via}
use Rattle.std.specs.Coded.{Coded, code_by, coded×, coded⊎, coded_ℕ, coded_list}
use Rattle.pie_value.specs.declared.value.Value.{Value}
use Rattle.pie_value.specs.declared.task.Task.{Task}
use Rattle.pie_value.specs.declared.stamp.Stamp.{Stamp}
use Rattle.pie_value.specs.declared.stamp.Stamp.TheVariants.{Absent, Present, Hash, Mark, Whole, Done}
use Rattle.pie_value.specs.inner.Codes.{coded_tree}
use Rattle.pie_value.specs.inner.TaskCodes.{coded_task}
use Rattle.pie_value.specs.Values.{tree_of}
use Rattle.pie_value.proofs.Elements.{tree_inj}
use Rattle.pie_record.specs.declared.dep.Dep.{Dep}
use Rattle.pie_record.specs.declared.dep.DepKind.{DepKind}
use Rattle.pie_record.specs.declared.dep.DepKind.TheVariants.{Exists, ReadHash, ReadMark, Digest, List as Listed, Require, RequireHash, Run}
use Rattle.pie_record.specs.declared.dep.DepOn.{DepOn}
use Rattle.pie_record.specs.declared.dep.DepOn.TheVariants.{File, Called}
use Rattle.pie_record.specs.Kinds.{kind_byte}

abbrev pub coded_value : Coded Value
coded_value = coded_via coded_tree tree_of tree_inj

-- kinds with one number are one
pub kind_inj : (x y : DepKind) → kind_byte x ≡ kind_byte y → x ≡ y
kind_inj Exists Exists e = refl
kind_inj ReadHash ReadHash e = refl
kind_inj ReadMark ReadMark e = refl
kind_inj Digest Digest e = refl
kind_inj Listed Listed e = refl
kind_inj Require Require e = refl
kind_inj RequireHash RequireHash e = refl
kind_inj Run Run e = refl
kind_inj x y e = absurd (omega (arith, e))

abbrev pub coded_kind : Coded DepKind
coded_kind = coded_via coded_ℕ kind_byte kind_inj

abbrev on_parts : DepOn → List ℕ ⊎ Task
on_parts (File path) = inl path
on_parts (Called task) = inr task

abbrev on_of : List ℕ ⊎ Task → DepOn
on_of (inl path) = File path
on_of (inr task) = Called task

pub on_back : (w : DepOn) → on_of (on_parts w) ≡ w
on_back (File path) = refl
on_back (Called task) = refl

abbrev pub coded_on : Coded DepOn
coded_on = code_by (List ℕ ⊎ Task) (coded⊎ (coded_list coded_ℕ) coded_task) on_parts on_of on_back

abbrev Parts : Type 0
Parts = Unit {0} ⊎ (Unit {0} ⊎ (List ℕ ⊎ (ℕ ⊎ (Value ⊎ Unit {0}))))

abbrev stamp_parts : Stamp → Parts
stamp_parts Absent = inl tt
stamp_parts Present = inr (inl tt)
stamp_parts (Hash hash) = inr (inr (inl hash))
stamp_parts (Mark mark) = inr (inr (inr (inl mark)))
stamp_parts (Whole value) = inr (inr (inr (inr (inl value))))
stamp_parts Done = inr (inr (inr (inr (inr tt))))

abbrev stamp_of : Parts → Stamp
stamp_of (inl _) = Absent
stamp_of (inr (inl _)) = Present
stamp_of (inr (inr (inl hash))) = Hash hash
stamp_of (inr (inr (inr (inl mark)))) = Mark mark
stamp_of (inr (inr (inr (inr (inl value))))) = Whole value
stamp_of (inr (inr (inr (inr (inr _))))) = Done

pub stamp_back : (s : Stamp) → stamp_of (stamp_parts s) ≡ s
stamp_back Absent = refl
stamp_back Present = refl
stamp_back (Hash hash) = refl
stamp_back (Mark mark) = refl
stamp_back (Whole value) = refl
stamp_back Done = refl

abbrev pub coded_stamp : Coded Stamp
coded_stamp = code_by Parts (coded⊎ coded_unit (coded⊎ coded_unit
    (coded⊎ (coded_list coded_ℕ) (coded⊎ coded_ℕ (coded⊎ coded_value coded_unit))))) stamp_parts stamp_of stamp_back

abbrev pub coded_dep : Coded Dep
coded_dep =
    code_by (DepKind × (DepOn × Stamp)) (coded× coded_kind (coded× coded_on coded_stamp))
    (λ d. (d.kind, (d.what, d.stamp))) (λ p. record { kind = p.0; what = p.1.0; stamp = p.1.1 }) (λ _. refl)

abbrev pub coded_deps : Coded (List Dep)
coded_deps = coded_list coded_dep
