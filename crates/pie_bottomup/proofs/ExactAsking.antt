-- What a task was told, and that a build stays exact while it looks and writes.
use Rattle.std.proofs.Common.{◌≡◌, ℕ, Bool, true, false, List, [], ◌∷◌, ◌++◌, map, Option, None, Some, Result, Ok, Err, refl, sym, ap, ◌∙◌, subst}
use Rattle.std.specs.Prelude.{OnOk}
use Rattle.pie_base.specs.declared.fault.FaultKind.{FaultKind}
use Rattle.pie_value.specs.Limits.{is_small}
use Rattle.pie_value.specs.declared.stamp.Stamp.{Stamp}
use Rattle.pie_value.specs.declared.event.By.{By}
use Rattle.pie_value.specs.declared.event.Answer.{Answer}
use Rattle.pie_files.specs.Directory.{Directory}
use Rattle.pie_graph.specs.declared.edges.TaskNo.{TaskNo}
use Rattle.pie_record.specs.declared.dep.Dep.{Dep}
use Rattle.pie_record.specs.declared.dep.DepKind.{DepKind}
use Rattle.pie_record.specs.declared.dep.DepKind.TheVariants as kinds
use Rattle.pie_store.specs.Canonical.{required_on}
use Rattle.pie_view.specs.Content.{Staged, content}
use Rattle.pie_walk.proofs.StateSteps.{top_runs}
use Rattle.pie_running.specs.declared.frame.Told.{Told}
use Rattle.pie_running.specs.declared.frame.Told.TheVariants.{Goes, Fails}
use Rattle.pie_running.specs.declared.frame.Waiting.{Waiting}
use Rattle.pie_running.specs.declared.looking.Sight.{Sight}
use Rattle.pie_running.specs.declared.looking.Sight.TheVariants.{File, Long, Clash}
use Rattle.pie_running.specs.inner.Noted.{Noted, tasks_on, file_dep, absent_dep, observed, read_kind}
use Rattle.pie_running.specs.inner.Told.{HasFailed, IsToldOrFails, IsToldReading, told_reading, IsToldSmall, IsToldList, paths_list, StagesFirst, IsToldWrite}
use Rattle.pie_running.specs.inner.Sights.{found_in}
use Rattle.pie_frames.specs.inner.Standing.{Holds}
use Rattle.pie_core_laws.specs.Update.{Update}
use Rattle.pie_core_laws.specs.Exact.{runs}
use Rattle.pie_bottomup.specs.declared.state.Core.{Core}
use Rattle.pie_bottomup.specs.declared.state.First.{First}
use Rattle.pie_bottomup.specs.declared.state.First.TheVariants.{Tests, Done}
use Rattle.pie_bottomup.specs.inner.States.{IsOwn}
use Rattle.pie_bottomup.specs.inner.Exact.{IsExactCore}
use Rattle.pie_bottomup.specs.inner.Exact.{OwnsTold, FetchesExact, FilesExact, Lacks}
use Rattle.pie_bottomup.proofs.Owning.{same_own}
use Rattle.pie_bottomup.proofs.ExactEvents.{SameBeside, staged_exact, puts_beside, lacking_may}

-- ---- the notes of a task that fails

tasks_more : (ds : List Dep) (kind : DepKind) (path : List ℕ) (s : Stamp) → tasks_on (ds ++ file_dep kind path s ∷ []) ≡ tasks_on ds
tasks_more [] kind path s = refl
tasks_more (d ∷ ds) kind path s = ap (λ ts. required_on d.what ++ ts) (tasks_more ds kind path s)

-- one observation more
observed_own : (c : Core) (task : TaskNo) (from : ℕ) (n : Noted) (kind : DepKind) (path : List ℕ) (s : Stamp) → IsOwn c task from n
    → IsOwn c task from (observed (file_dep kind path s) n)
observed_own c task from n kind path s own = record {
  number = own.number;
  row = own.row;
  noted = record {
    task = own.noted.task;
    known = own.noted.known;
    needs = own.noted.needs ∙ ap (map Some) (sym (tasks_more n.deps kind path s));
    ended = own.noted.ended;
  };
}

-- it fails with these notes
failed_owns : (c : Core) (task : TaskNo) (from : ℕ) (n : Noted) (k : FaultKind) (t : Told) → HasFailed n k t → IsOwn c task from n → OwnsTold c task from t
failed_owns c task from n k (Goes f) failed own = tt
failed_owns c task from n k (Fails m j) failed own = same_own c task from n m failed.0 own

pub looked_owns : (c : Core) (task : TaskNo) (from : ℕ) (w : Waiting) (kind : DepKind) (path : List ℕ) (x : Option (Dep × Answer)) (t : Told)
    → IsToldOrFails w (absent_dep kind path) x t → IsOwn c task from w.notes → OwnsTold c task from t
looked_owns c task from w kind path (Some x) (Goes f) told own = tt
looked_owns c task from w kind path (Some x) (Fails n k) told own = absurd told
looked_owns c task from w kind path None (Goes f) told own = tt
looked_owns c task from w kind path None (Fails n k) told own =
    same_own c task from (observed (absent_dep kind path) w.notes) n told.0 (observed_own c task from w.notes kind path _ own)

pub read_owns : (c : Core) (task : TaskNo) (from : ℕ) (w : Waiting) (by : By) (path : List ℕ) (sight : Sight) (t : Told)
    → IsToldReading w by path sight t → IsOwn c task from w.notes → OwnsTold c task from t
read_owns c task from w by path (File found) t told own = looked_owns c task from w (read_kind by) path (Some (told_reading by path (found_in found))) t told own
read_owns c task from w by path (Long stamp) t told own =
    failed_owns c task from (observed (file_dep (read_kind by) path stamp) w.notes) _ t told (observed_own c task from w.notes (read_kind by) path stamp own)
read_owns c task from w by path Clash t told own = looked_owns c task from w (read_kind by) path None t told own

pub listed_owns : (c : Core) (task : TaskNo) (from : ℕ) (w : Waiting) (dir : List ℕ) (paths : Option (List (List ℕ))) (t : Told)
    → IsToldList w dir paths t → IsOwn c task from w.notes → OwnsTold c task from t
listed_owns c task from w dir None t told own = failed_owns c task from w.notes _ t told own
listed_owns c task from w dir (Some paths) t told own = small (is_small (paths_list paths)) t told
  where
    small : (b : Bool) (s : Told) → IsToldSmall b w dir paths s → OwnsTold c task from s
    small true (Goes f) is = tt
    small true (Fails n k) is = absurd is
    small false s is =
        failed_owns c task from (observed (absent_dep kinds.List dir) w.notes) _ s is (observed_own c task from w.notes kinds.List dir _ own)

-- ---- what a task was told

pub written_owns : (old : Core) (task : TaskNo) (from : ℕ) (later : Staged) (w : Waiting) (path bytes : List ℕ) (b : Bool) (t : Told)
    → IsOwn old task from w.notes → IsToldWrite b w old.stage later path bytes t → OwnsTold (record old { stage = later }) task from t
written_owns old task from later w path bytes true (Goes f) own h = tt
written_owns old task from later w path bytes true (Fails n k) own h = absurd h
written_owns old task from later w path bytes false (Goes f) own h = tt
written_owns old task from later w path bytes false (Fails n k) own h =
    let mine = same_own old task from w.notes n h.1.0 own in record { number = mine.number; row = mine.row; noted = mine.noted }

-- what a task writes is beside what the others staged
pub written_exact : (u : Update) (old : Core) (task : TaskNo) (from : ℕ) (later : Staged) (w : Waiting) (path bytes : List ℕ) (b : Bool) (t : Told)
    → Holds task old.frames → IsOwn old task from w.notes → IsToldWrite b w old.stage later path bytes t → IsExactCore u old
    → IsExactCore u (record old { stage = later })
written_exact u old task from later w path bytes b t holds own is e =
    staged_exact u old later task.0 (ap runs (top_runs old.frames.walk task holds.top holds.taken.stands.holds)) (beside b t is) e
  where
    all_same : later ≡ old.stage → SameBeside old.stage later task.0
    all_same same k p apart = ap (λ s. content s k p) same

    first : (o : Option (List ℕ)) → StagesFirst o old.stage later w.notes.number path bytes → SameBeside old.stage later task.0
    first (Some before) h = all_same h
    first None h = subst (SameBeside old.stage later) own.number (puts_beside old.stage later w.notes.number path bytes h)

    beside : (z : Bool) (s : Told) → IsToldWrite z w old.stage later path bytes s → SameBeside old.stage later task.0
    beside true (Goes f) h = first (content old.stage w.notes.number path) h.0
    beside true (Fails n k) h = absurd h
    beside false s h = all_same h.0

-- ---- steps

pub apart_firsts : (f : First) → f ≡ Tests → f ≡ Done → ⊥
apart_firsts f tests done = let clash : Tests ≡ Done = sym tests ∙ done in cc

-- ---- the file that a task is about to look at

pub fetches : {E : Type 0} (held : Option Directory) (c new : Core) (n from : ℕ) (path : List ℕ) (writer : ℕ) (r : Result (Unit {0}) E)
    → Lacks c.frames.walk.rows c.stage n from path writer → OnOk r (FilesExact held c writer path new) → OnOk r (FetchesExact held c n from new)
fetches held c new n from path writer (Ok x) lacks is = λ u site w settled e. is u site (lacking_may c n from path writer w settled lacks) e
fetches held c new n from path writer (Err x) lacks is = tt
