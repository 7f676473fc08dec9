-- When something that a record observed or wrote isn't there now as it was recorded.
use Rattle.std.specs.Prelude.{◌≡◌, ◌⊎◌, ◌↔◌, ℕ, ◌&&◌, Bool, true, false, List, All, Option, Some, Contains}
use Rattle.pie_base.specs.Path.{is_source}
use Rattle.pie_files.specs.Directory.{Directory}
use Rattle.pie_value.specs.declared.stamp.Stamp.{Stamp}
use Rattle.pie_value.specs.declared.stamp.Stamp.TheVariants as stamps
use Rattle.pie_record.specs.declared.dep.Dep.{Dep}
use Rattle.pie_record.specs.declared.dep.DepKind.{DepKind}
use Rattle.pie_record.specs.declared.dep.DepKind.TheVariants as kinds
use Rattle.pie_record.specs.declared.dep.DepOn.{DepOn}
use Rattle.pie_record.specs.declared.dep.DepOn.TheVariants.{File, Called}
use Rattle.pie_record.specs.declared.task_record.TaskRecord.{TaskRecord}
use Rattle.pie_named.specs.declared.named.Named.{Named}
use Rattle.pie_named.specs.inner.Names.{is_named, is_above}
use Rattle.pie_named.specs.inner.Stamped.{stamp_in, differs_from}
use Rattle.pie_named.specs.inner.Known.{IsTrueOf, StaysKnown, known_stamp, known_differs}

-- the names say that what was observed in this way may have changed: a file that is named, or a directory with a name below it
abbrev pub may_differ : Named → DepKind → List ℕ → Bool
may_differ n kinds.Exists path = is_named n path
may_differ n kinds.ReadHash path = is_named n path
may_differ n kinds.ReadMark path = is_named n path
may_differ n kinds.Digest path = is_named n path
may_differ n kinds.List path = is_above n path
may_differ n kind path = false

-- the files are asked of an observation: of a source of which the names say it
abbrev pub is_asked : Named → DepKind → List ℕ → Bool
is_asked n kind path = is_source path && may_differ n kind path

-- an observation would have another stamp now, and one is asked of it
abbrev pub sight_differs : Directory → Named → DepKind → List ℕ → Stamp → Bool
sight_differs d n kind path stamp = is_asked n kind path && differs_from (stamp_in d kind path) stamp

abbrev pub on_differs : Directory → Named → DepKind → DepOn → Stamp → Bool
on_differs d n kind (File path) stamp = sight_differs d n kind path stamp
on_differs d n kind (Called task) stamp = false

abbrev pub dep_differs : Directory → Named → Dep → Bool
dep_differs d n dep = on_differs d n dep.kind dep.what dep.stamp

-- what is at a written path isn't what was written, and one is asked of it
abbrev pub write_differs : Directory → Named → List ℕ → List ℕ → Bool
write_differs d n path hash = is_named n path && differs_from (stamp_in d kinds.ReadHash path) (stamps.Hash hash)

-- what is known stays true, and this is the answer
pub record Answers (d : Directory) (new : Named) (is answer : Bool) : Type 0 where
  pub known : IsTrueOf d new
  pub same : answer ≡ is

-- an answer by what the files hold
abbrev pub AnswersBy : Option Directory → Named → Named → (Directory → Named → Bool) → Bool → Type 0
AnswersBy held old new is answer = (d : Directory) → held ≡ Some d → IsTrueOf d old → Answers d new (is d old) answer

-- one of these things has a property
abbrev pub SomeOf : {A : Type 0} → (A → Type 0) → List A → Type 0
SomeOf {A} P xs = (x : A) × Contains xs x × P x

-- one of these observations, or of these writes, isn't as it was recorded
abbrev pub SomeSightDiffers : Directory → Named → List Dep → Type 0
SomeSightDiffers d n deps = SomeOf (λ dep. dep_differs d n dep ≡ true) deps

abbrev pub SomeWriteDiffers : Directory → Named → List (List ℕ × List ℕ) → Type 0
SomeWriteDiffers d n writes = SomeOf (λ w. write_differs d n w.0 w.1 ≡ true) writes

-- something that a record observed or wrote isn't there now as it was recorded
abbrev pub IsTouched : Directory → Named → TaskRecord → Type 0
IsTouched d n rec = SomeSightDiffers d n rec.deps ⊎ SomeWriteDiffers d n rec.writes

-- what is known stays true, and the answer is whether something is so
pub record Found (d : Directory) (new : Named) (P : Type 0) (found : Bool) : Type 0 where
  pub known : IsTrueOf d new
  pub is : found ≡ true ↔ P

abbrev pub FindsBy : Option Directory → Named → Named → (Directory → Named → Type 0) → Bool → Type 0
FindsBy held old new P found = (d : Directory) → held ≡ Some d → IsTrueOf d old → Found d new (P d old) found

-- what is known stays true, and none of these things has a property
pub record Passed {A : Type 0} (d : Directory) (new : Named) (is : A → Bool) (xs : List A) : Type 0 where
  pub known : IsTrueOf d new
  pub none : All (λ x. is x ≡ false) xs

abbrev pub Passes : {A : Type 0} → Option Directory → Named → Named → (Directory → Named → A → Bool) → List A → Type 0
Passes held first now is xs = (d : Directory) → held ≡ Some d → IsTrueOf d first → Passed d now (is d first) xs

-- ---- what is known of it

-- an observation of a source is known to have another stamp now
abbrev pub sight_known : Named → DepKind → List ℕ → Stamp → Bool
sight_known n kind path stamp = is_source path && known_differs (known_stamp n kind path) stamp

abbrev pub on_known : Named → DepKind → DepOn → Stamp → Bool
on_known n kind (File path) stamp = sight_known n kind path stamp
on_known n kind (Called task) stamp = false

abbrev pub dep_known : Named → Dep → Bool
dep_known n dep = on_known n dep.kind dep.what dep.stamp

-- it is known of a written path that something else is there
abbrev pub write_known : Named → List ℕ → List ℕ → Bool
write_known n path hash = known_differs (known_stamp n kinds.ReadHash path) (stamps.Hash hash)

-- of one of these observations, or of these writes, it is known that it isn't as it was recorded
abbrev pub SomeSightKnown : Named → List Dep → Type 0
SomeSightKnown n deps = SomeOf (λ dep. dep_known n dep ≡ true) deps

abbrev pub SomeWriteKnown : Named → List (List ℕ × List ℕ) → Type 0
SomeWriteKnown n writes = SomeOf (λ w. write_known n w.0 w.1 ≡ true) writes

-- of one of the observations or writes of a record it is known that it isn't as it was
abbrev pub IsKnownTouched : Named → TaskRecord → Type 0
IsKnownTouched n rec = SomeSightKnown n rec.deps ⊎ SomeWriteKnown n rec.writes

-- what is known stays known, and where the answer is yes, this is known
pub record Shows (old new : Named) (P : Type 0) (answer : Bool) : Type 0 where
  pub stays : StaysKnown old new
  pub known : answer ≡ true → P
