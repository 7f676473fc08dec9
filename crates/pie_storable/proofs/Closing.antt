-- From the walks to what may be stored.
use Rattle.std.proofs.Common.{◌≡◌, ℕ, Bool, true, List, get_or, sym, subst, ◌∙◌, Result, Ok, Err, IfOk}
use Rattle.std.specs.Prelude.{All, Contains, Some}
use Rattle.pie_value.specs.declared.task.Task.{Task}
use Rattle.pie_record.specs.declared.task_record.TaskRecord.{TaskRecord}
use Rattle.pie_store.specs.Canonical.{names_of, tasks_in}
use Rattle.pie_store.specs.Ranks.{knows, IsStored}
use Rattle.pie_store.proofs.Admitted.{rank_contains}
use Rattle.pie_store.proofs.StoreTexts.{known_in_table}
use Rattle.pie_store.proofs.WholeAgain.{table_knows}
use Rattle.pie_storable.specs.declared.heights.Heights.{Heights}
use Rattle.pie_storable.specs.inner.Heights.{MayFollow, AreWalked, HasRank}
use Rattle.pie_storable.specs.inner.Together.{MayStandTogether}
use Rattle.pie_storable.proofs.Walking.{has_of}

pub if_ok : {A E : Type 0} (r : Result A E) (P Q : A → Type 0) → ((a : A) → P a → Q a) → IfOk r P → IfOk r Q
if_ok (Ok a) P Q k h = k a h
if_ok (Err e) P Q k h = h

-- a test answers as the table does
abbrev pub IsTest : (List ℕ → Bool) → List (List ℕ × List ℕ) → Type 0
IsTest test funcs = (name : List ℕ) → test name ≡ knows (Some funcs) name

pub all_known : (test : List ℕ → Bool) (funcs : List (List ℕ × List ℕ)) (rows : List TaskRecord) → IsTest test funcs
    → All (λ (r : TaskRecord). test r.task.func ≡ true) rows → All (λ (r : TaskRecord). Contains (names_of funcs) r.task.func) rows
all_known test funcs rows same h i r lt =
    let name = (get_or rows i r).task.func in known_in_table funcs name (sym (same name) ∙ h i r lt)

pub may_follow : (test : List ℕ → Bool) (funcs : List (List ℕ × List ℕ)) (roots : List Task) (rows : List TaskRecord) → IsTest test funcs
    → MayStandTogether funcs roots rows → MayFollow test rows
may_follow test funcs roots rows same m = record {
  order = m.order;
  known = λ i r lt. let name = (get_or rows i r).task.func in same name ∙ table_knows funcs name (m.known i r lt);
}

pub all_closed : (test : List ℕ → Bool) (rows : List TaskRecord) (h : Heights) (w : AreWalked test rows h) (roots : List Task)
    → All (HasRank w.ranked) roots → All (λ (t : Task). Contains (tasks_in rows) t) roots
all_closed test rows h w roots all i d lt =
    let t = get_or roots i d in
    let k = all i d lt in
    subst (λ (l : List TaskRecord). Contains (tasks_in l) t) w.same
    (rank_contains w.ranked t k.height (subst (λ (l : List TaskRecord). All IsStored (tasks_in l)) (sym w.same) w.stored) k.stored k.found)

pub all_ranked : (test : List ℕ → Bool) (rows : List TaskRecord) (h : Heights) (w : AreWalked test rows h) (roots : List Task)
    → All (λ (t : Task). Contains (tasks_in rows) t) roots → All (HasRank w.ranked) roots
all_ranked test rows h w roots all i d lt =
    let t = get_or roots i d in
    let c = all i d lt in
    has_of w.ranked t (subst IsStored c.2 (w.stored c.0 t c.1)) (subst (λ (l : List TaskRecord). Contains (tasks_in l) t) (sym w.same) c)
