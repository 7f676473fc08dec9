-- The notes of the task in hand.
use Rattle.std.proofs.Common.{◌≡◌, ℕ, List, [], ◌∷◌, ◌++◌, Option, Some, None, length, map, sym, ap, ◌∙◌, subst, refl, inl, inr, arith}
use Rattle.std.specs.Prelude.{slice_get}
use Rattle.std.specs.List.{All}
use Rattle.std.proofs.lemmas.List.{map-append, drop_all}
use Rattle.std.proofs.lemmas.List.Elements.{All-nil, All-push}
use Rattle.pie_value.specs.declared.task.Task.{Task}
use Rattle.pie_graph.specs.declared.edges.TaskNo.{TaskNo}
use Rattle.pie_graph.specs.Rows.{Row, row_at}
use Rattle.pie_record.specs.declared.dep.DepOn.TheVariants.{Called}
use Rattle.pie_record.specs.declared.task_record.TaskRecord.{TaskRecord}
use Rattle.pie_old.specs.inner.Rows.{tasks_at}
use Rattle.pie_running.specs.declared.frame.Told.{Told}
use Rattle.pie_running.specs.declared.frame.Told.TheVariants.{Goes, Fails}
use Rattle.pie_running.specs.inner.Noted.{Noted, begun, tasks_on, noted_in}
use Rattle.pie_running.specs.declared.page.NoteParts.{NoteParts}
use Rattle.pie_running.specs.inner.Steps.{Advanced, Answered, Given}
use Rattle.pie_frames.specs.declared.parked.Parked.{Parked}
use Rattle.pie_frames.specs.inner.Standing.{HasFrom, IsParked, number_of}
use Rattle.pie_walk.specs.Marks.{IsSettled}
use Rattle.pie_bottomup.specs.declared.state.Core.{Core}
use Rattle.pie_bottomup.specs.declared.state.InHand.{InHand}
use Rattle.pie_record.specs.declared.records.Records.{Records}
use Rattle.pie_tables.specs.declared.tables.Tables.{Tables}
use Rattle.pie_bottomup.specs.inner.Recorded.{HasOutput, HasEnded}
use Rattle.pie_bottomup.specs.inner.Running.{IsKnown, IsNoted, IsCaller, EndsSo}
use Rattle.pie_bottomup.specs.inner.States.{IsOwn, MayGo, MayEnd}

-- the same notes
pub same_own : (c : Core) (task : TaskNo) (from : ℕ) (n m : Noted) → m ≡ n → IsOwn c task from n → IsOwn c task from m
same_own c task from n m e own = subst (IsOwn c task from) (sym e) own

-- an answer that isn't of a required task
advanced_own : (c : Core) (task : TaskNo) (from : ℕ) (n m : Noted) → Advanced n m → IsOwn c task from n → IsOwn c task from m
advanced_own c task from n m more own = record {
  number = more.number ∙ own.number;
  row = subst (HasFrom (row_at c.frames.walk.rows task.0) from) (sym more.needs) own.row;
  noted = record {
    task = subst (λ (k : ℕ). slice_get c.tables.names k ≡ Some m.task) (sym more.number) (own.noted.task ∙ ap Some (sym more.task));
    known = subst (IsKnown c.plan) (sym more.task) own.noted.known;
    needs = ap (tasks_at c.tables.names) more.needs ∙ own.noted.needs ∙ ap (map Some) (sym more.tasks);
    ended = subst (All (HasEnded c.tables.records c.frames.walk.marks)) (sym more.needs) own.noted.ended;
  };
}

pub may_go : (c : Core) (task : TaskNo) (from : ℕ) (n : Noted) (t : Told) → Answered n t → IsOwn c task from n → MayGo c task from t
may_go c task from n (Goes f) told own = (told.0, advanced_own c task from n f.notes told.1 own)
may_go c task from n (Fails m k) told own = tt

-- the output of a task that it waited for
pub given_own : (c : Core) (task : TaskNo) (p : Parked) (new : Noted) (required : Task) (height : ℕ) → number_of p ≡ task.0 → IsParked c.frames.walk.rows p
    → IsCaller c.plan c.tables.names c.tables.records c.frames.walk.marks p → required ≡ p.caller.required
    → Given (Called required) p.callee.0 height p.caller.waiting.notes new → HasOutput c.tables.records p.callee.0
    → IsSettled c.frames.walk.marks p.callee.0 → IsOwn c task p.from new
given_own c task p new required height number parked caller same more output settled =
    let old = p.caller.waiting.notes in
    let row : Row = row_at c.frames.walk.rows task.0 in
    record {
      number = more.same ∙ number;
      row = subst (HasFrom row p.from) (sym more.needs)
          (subst (λ (k : ℕ). HasFrom (row_at c.frames.walk.rows k) p.from (old.needs ++ p.callee.0 ∷ [])) number parked.row);
      noted = record {
        task = subst (λ (k : ℕ). slice_get c.tables.names k ≡ Some new.task) (sym more.same) (caller.noted.task ∙ ap Some (sym more.task));
        known = subst (IsKnown c.plan) (sym more.task) caller.noted.known;
        needs = ap (tasks_at c.tables.names) more.needs ∙ map-append (slice_get c.tables.names) old.needs (p.callee.0 ∷ [])
            ∙ ap (λ (os : List (Option Task)). os ++ slice_get c.tables.names p.callee.0 ∷ []) caller.noted.needs
            ∙ ap (λ (o : Option Task). map Some (tasks_on old.deps) ++ o ∷ []) (caller.required ∙ ap Some (sym same))
            ∙ sym (map-append Some (tasks_on old.deps) (required ∷ [])) ∙ ap (map Some) (sym more.tasks);
        ended = subst (All (HasEnded c.tables.records c.frames.walk.marks)) (sym more.needs)
            (All-push (HasEnded c.tables.records c.frames.walk.marks) old.needs p.callee.0 caller.noted.ended
            (record { output = output; settled = settled }));
      };
    }

-- a task that starts has required nothing
pub started_own : (c : Core) (task : TaskNo) (from : ℕ) (t : Task) (n : Noted) → slice_get c.tables.names task.0 ≡ Some t → IsKnown c.plan t
    → from ≡ length (row_at c.frames.walk.rows task.0).needs → n ≡ begun t task.0 1000001 → IsOwn c task from n
started_own c task from t n named known e is = same_own c task from (begun t task.0 1000001) n is (record {
  number = refl;
  row = record {
    within = omega (arith, e);
    same = drop_all from (row_at c.frames.walk.rows task.0).needs (omega (arith, e));
  };
  noted = record { task = named; known = known; needs = refl; ended = All-nil (HasEnded c.tables.records c.frames.walk.marks) };
})

-- the tables have the same names and records
pub own_tables : (c : Core) (t : Tables) (task : TaskNo) (from : ℕ) (n : Noted) → t.names ≡ c.tables.names → t.records ≡ c.tables.records → (hand : Option InHand)
    → IsOwn c task from n → IsOwn (record c { tables = t; hand = hand }) task from n
own_tables c t task from n names records hand own = record {
  number = own.number;
  row = own.row;
  noted = subst (λ (ns : List Task). IsNoted c.plan ns t.records c.frames.walk.marks n) (sym names)
      (subst (λ (rs : Records). IsNoted c.plan c.tables.names rs c.frames.walk.marks n) (sym records) own.noted);
}

-- what was noted is what the record of a task that ends has
pub ends_so : (c : Core) (task : TaskNo) (from left : ℕ) (p : NoteParts) (r : TaskRecord) → MayEnd c task from (noted_in p left) r.outcome
    → slice_get c.tables.names task.0 ≡ Some r.task → r.deps ≡ p.deps.items
    → EndsSo c.plan c.tables.names c.tables.records c.frames.walk task.0 from r
ends_so c task from left p r (inl failed) named deps = inl failed
ends_so c task from left p r (inr full) named deps =
    let n = noted_in p left in
    let own = full.own in
    let same : n.task ≡ r.task =
    ap (the_task r.task) (sym own.noted.task ∙ ap (slice_get c.tables.names) own.number ∙ named) in
    inr (record {
      needs = ap (tasks_at c.tables.names) own.row.same ∙ own.noted.needs ∙ ap (λ ds. map Some (tasks_on ds)) (sym deps);
      ended = subst (All (HasEnded c.tables.records c.frames.walk.marks)) (sym own.row.same) own.noted.ended;
      known = subst (IsKnown c.plan) same own.noted.known;
      output = full.output;
    })
  where
    the_task : Task → Option Task → Task
    the_task d None = d
    the_task d (Some x) = x
