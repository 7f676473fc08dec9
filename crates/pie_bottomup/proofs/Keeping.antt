-- The tasks of a build keep their numbers, their records and their flags.
use Rattle.std.proofs.Common.{◌≡◌, ◌⊎◌, ℕ, ◌<◌, Bool, true, false, List, [], ◌∷◌, ◌++◌, Some, Result, Ok, Err, length, set, sym, ap, ◌∙◌, subst, inl, inr, arith}
use Rattle.std.specs.Prelude.{slice_get, is_some, IsSome, OnOk}
use Rattle.std.proofs.lemmas.List.{get_or-set_same, get_or-set_other}
use Rattle.pie_value.specs.declared.task.Task.{Task}
use Rattle.pie_graph.specs.Numbers.{IsMarked}
use Rattle.pie_record.specs.declared.records.Records.{Records}
use Rattle.pie_record.specs.declared.task_record.TaskRecord.{TaskRecord}
use Rattle.pie_record.specs.inner.Records.{record_of, Puts}
use Rattle.pie_tables.specs.declared.tables.Tables.{Tables}
use Rattle.pie_core_laws.proofs.Exactly.{same_or_not}
use Rattle.pie_walk.proofs.FlagSteps.{flag_kept}
use Rattle.pie_walk.proofs.HoldSteps.{default_more}
use Rattle.pie_bottomup.specs.declared.state.Core.{Core}
use Rattle.pie_bottomup.specs.inner.Ran.{RanAlone}
use Rattle.pie_bottomup.specs.inner.States.{KeepsTasks, Keeps, NoMoreRan}
use Rattle.pie_bottomup.proofs.Growing.{named_more, flag_more}
use Rattle.pie_bottomup.proofs.Settling.{put_at, put_other}

-- nothing changes
pub tasks_stay : (t : Tables) → KeepsTasks t t
tasks_stay t = record { names = λ n x is. is; recorded = λ n is. is; ran = λ n is. is }

-- one after another
pub tasks_then : (a b c : Tables) → KeepsTasks a b → KeepsTasks b c → KeepsTasks a c
tasks_then a b c one two = record {
  names = λ n x is. two.names n x (one.names n x is);
  recorded = λ n is. two.recorded n (one.recorded n is);
  ran = λ n is. two.ran n (one.ran n is);
}

pub keeps_then : (a b c : Core) → Keeps a b → Keeps b c → Keeps a c
keeps_then a b c one two = record {
  plan = two.plan ∙ one.plan;
  room = omega (arith, one.room, two.room);
  tasks = tasks_then a.tables b.tables c.tables one.tasks two.tasks;
  ran = λ n is. one.ran n (two.ran n is);
}

-- the same names
names_as : (old new : List Task) → new ≡ old → (n : ℕ) (t : Task) → slice_get old n ≡ Some t → slice_get new n ≡ Some t
names_as old new e n t is = ap (λ (ns : List Task). slice_get ns n) e ∙ is

records_as : (old new : Records) → new ≡ old → (n : ℕ) → IsSome (record_of old n) → IsSome (record_of new n)
records_as old new e n is = ap (λ (rs : Records). is_some (record_of rs n)) e ∙ is

flags_as : (old new : List Bool) → new ≡ old → (n : ℕ) → IsMarked old n → IsMarked new n
flags_as old new e n is = subst (λ (flags : List Bool). IsMarked flags n) (sym e) is

-- a task gets a number
pub tasks_added : (old new : Tables) (t : Task) → new.names ≡ old.names ++ t ∷ [] → new.records ≡ old.records → new.ran.items ≡ old.ran.items ++ false ∷ []
    → KeepsTasks old new
tasks_added old new t names records ran = record {
  names = λ n x is. ap (λ (ns : List Task). slice_get ns n) names ∙ named_more old.names t x n is;
  recorded = records_as old.records new.records records;
  ran = λ n is. flags_as (old.ran.items ++ false ∷ []) new.ran.items ran n (flag_more old.ran.items false n is);
}

-- a task gets a record
pub tasks_put : (old new : Tables) (k : ℕ) (rec : TaskRecord) → new.names ≡ old.names → Puts old.records new.records k rec → new.ran.items ≡ old.ran.items
    → KeepsTasks old new
tasks_put old new k rec names puts ran = record {
  names = names_as old.names new.names names;
  recorded = λ n is. by n is (same_or_not k n);
  ran = flags_as old.ran.items new.ran.items ran;
}
  where
    by : (n : ℕ) → IsSome (record_of old.records n) → (n ≡ k) ⊎ (n ≡ k → ⊥) → IsSome (record_of new.records n)
    by n is (inl e) = ap (λ (m : ℕ). is_some (record_of new.records m)) e ∙ ap is_some (put_at old.records new.records k rec puts)
    by n is (inr d) = ap is_some (put_other old.records new.records k rec puts n d) ∙ is

-- a task begins to run
pub tasks_run : (old new : Tables) (k : ℕ) → new.names ≡ old.names → new.records ≡ old.records → new.ran.items ≡ set old.ran.items k true
    → k < length old.ran.items → KeepsTasks old new
tasks_run old new k names records ran l = record {
  names = names_as old.names new.names names;
  recorded = records_as old.records new.records records;
  ran = λ n is. flags_as (set old.ran.items k true) new.ran.items ran n (flag_kept old.ran.items k n l is);
}

-- it is marked then
pub run_marked : (old new : Tables) (k : ℕ) → new.ran.items ≡ set old.ran.items k true → k < length old.ran.items → IsMarked new.ran.items k
run_marked old new k ran l = flags_as (set old.ran.items k true) new.ran.items ran k (get_or-set_same old.ran.items k true false l)

-- ---- who has run

-- no more tasks, where the flags are the same
pub none_ran_as : (old new : Tables) → new.ran.items ≡ old.ran.items → NoMoreRan old new
none_ran_as old new ran n is = subst (λ (flags : List Bool). IsMarked flags n) ran is

-- nor where one more came
pub none_ran_more : (old new : Tables) → new.ran.items ≡ old.ran.items ++ false ∷ [] → NoMoreRan old new
none_ran_more old new ran n is = sym (default_more old.ran.items false n) ∙ subst (λ (flags : List Bool). IsMarked flags n) ran is

-- one alone, where it begins to run
pub ran_alone : (old new : Tables) (k : ℕ) → new.ran.items ≡ set old.ran.items k true → RanAlone old new k
ran_alone old new k ran n is = by (same_or_not k n)
  where
    by : (n ≡ k) ⊎ (n ≡ k → ⊥) → IsMarked old.ran.items n ⊎ (n ≡ k)
    by (inl e) = inr e
    by (inr d) = inl (sym (get_or-set_other old.ran.items k n true false d) ∙ subst (λ (flags : List Bool). IsMarked flags n) ran is)

-- where a step keeps its tasks, nobody starts to run
pub none_starts : {A E : Type 0} (P : Type 0) (old new : Core) (r : Result A E) → OnOk r (Keeps old new) → (NoMoreRan old.tables new.tables → P) → OnOk r P
none_starts P old new (Ok a) keeps give = give keeps.ran
none_starts P old new (Err e) keeps give = tt
