-- What waits stays as it is while a build goes on.
use Rattle.std.proofs.Common.{◌≡◌, ℕ, suc, true, Option, Some, None, List, [], ◌∷◌, ◌++◌, map, length, refl, sym, ap, subst, ◌∙◌}
use Rattle.std.specs.Prelude.{slice_get, take, option_map}
use Rattle.pie_value.specs.declared.task.Task.{Task}
use Rattle.pie_value.specs.Canonical.{enc_task}
use Rattle.pie_code.specs.declared.code.Code.{Code}
use Rattle.pie_vm.specs.Machines.{Standing}
use Rattle.pie_view.specs.Content.{Staged, content}
use Rattle.pie_record.specs.declared.records.Records.{Records}
use Rattle.pie_record.specs.declared.task_record.TaskRecord.{TaskRecord}
use Rattle.pie_record.specs.inner.Records.{record_of as kept_of}
use Rattle.pie_model.specs.Paths.{among}
use Rattle.pie_model.specs.Records.{Record}
use Rattle.pie_model.specs.inner.RecordLaws.{Passes}
use Rattle.pie_model.specs.inner.Consistent.{IsSettled}
use Rattle.pie_model.specs.inner.Stack.{Frame, tasks_of}
use Rattle.pie_model.proofs.Basics.{clash, among_here, among_there}
use Rattle.pie_step_laws.specs.Table.{IsTable}
use Rattle.pie_step_laws.specs.Frames.{set_aside}
use Rattle.pie_step_laws.proofs.Tables.{none_some}
use Rattle.pie_settle_laws.specs.Going.{before_wait}
use Rattle.pie_settle_laws.proofs.Goings.{still_going}
use Rattle.pie_model_pipeline.specs.Rows.{record_of}
use Rattle.pie_model_pipeline.specs.World.{world}
use Rattle.pie_builder_laws.specs.Names.{AreTasks, called_in}
use Rattle.pie_builder_laws.specs.Tables.{recorded}
use Rattle.pie_builder_laws.specs.Views.{AreNumbersOf}
use Rattle.pie_builder_laws.proofs.Tabled.{record_by_number}
use Rattle.pie_running.specs.declared.frame.Caller.{Caller}
use Rattle.pie_running.specs.inner.Noted.{Noted}
use Rattle.pie_core_laws.specs.Update.{present}
use Rattle.pie_task_laws.specs.Sites.{Site, Build}
use Rattle.pie_task_laws.specs.Frames.{IsFrame, IsCaller}
use Rattle.pie_task_laws.proofs.Frames.{frame_moves}
use Rattle.pie_topdown_laws.specs.Tables.{unrecorded, EndsIn}
use Rattle.pie_topdown_laws.specs.Running.{IsTop, RunsAbove}
use Rattle.pie_topdown_laws.specs.Whole.{Entry, IsCheckOf, WaitsAt, IsEntry, AreEntries, GoesBeside}
use Rattle.pie_topdown_laws.specs.Whole.Entry.{checks, waits}
use Rattle.pie_topdown_laws.proofs.Tabling.{no_record, settled_stays}
use Rattle.pie_topdown_laws.proofs.Changing.{named_more, records_kept}

-- ---- numbers

heads_same : {A : Type 0} (x y : A) (xs ys : List A) → x ∷ xs ≡ y ∷ ys → x ≡ y
heads_same x y xs ys h = cc

tails_same : {A : Type 0} (x y : A) (xs ys : List A) → x ∷ xs ≡ y ∷ ys → xs ≡ ys
tails_same x y xs ys h = cc

pub numbers_still : (names after : List Task) → ((n : ℕ) (t : Task) → slice_get names n ≡ Some t → slice_get after n ≡ Some t) → (ns : List ℕ) (ts : List Task)
    → AreNumbersOf names ns ts → AreNumbersOf after ns ts
numbers_still names after k [] [] e = refl
numbers_still names after k [] (t ∷ ts) e = cc
numbers_still names after k (n ∷ ns) [] e = cc
numbers_still names after k (n ∷ ns) (t ∷ ts) e =
    ap (λ z. z ∷ map (slice_get after) ns) (k n t (heads_same (slice_get names n) (Some t) (map (slice_get names) ns) (map Some ts) e))
    ∙ ap (λ z. Some t ∷ z) (numbers_still names after k ns ts (tails_same (slice_get names n) (Some t) (map (slice_get names) ns) (map Some ts) e))

module _ (x : Site) (b after : Build) (root : List ℕ) where
  -- ---- checks

  module _ (gs : List Frame) (S : GoesBeside b after gs) (fs : List Frame) (rec : TaskRecord) (at : ℕ) (required : List ℕ) where
    abbrev pub check_stays : IsCheckOf x b root fs rec at required → IsCheckOf x after root fs rec at required
    check_stays C = record {
      before = C.before;
      apart = C.apart;
      check = record {
        old = C.check.old;
        checked = record {
          frame = C.check.checked.frame;
          task = C.check.checked.task;
          seen = C.check.checked.seen;
          goes = still_going world (present x.update) (recorded b.names b.records) (recorded after.names after.records)
              (Passes (unrecorded (recorded b.names b.records))) (Passes (unrecorded (recorded after.names after.records))) root fs C.check.checked.frame
              S.settled C.check.checked.goes;
          beside = C.check.checked.beside;
          asks = C.check.checked.asks;
        };
        numbers = numbers_still b.names after.names S.named required (called_in (take at rec.deps)) C.check.numbers;
      };
    }

    waiting_stays : (g : Frame) → WaitsAt x b root fs rec at required g → WaitsAt x after root fs rec at required g
    waiting_stays g W = record { of_record = check_stays W.of_record; is = W.is }

  -- ---- frames of tasks that run

  frame_stays : (gs : List Frame) → GoesBeside b after gs → (code : Code) (m : Standing) (n : Noted) (left : ℕ) (g : Frame)
      → among g.task (tasks_of gs) ≡ true → IsFrame x b code m n left g → IsFrame x after code m n left g
  frame_stays gs S code m n left g i F =
      frame_moves x b code m n left g F after (S.named n.number n.task F.named)
      (numbers_still b.names after.names S.named n.needs (called_in n.deps) F.needs)
      (S.staged n.number n.task F.named (subst (λ z. among z (tasks_of gs) ≡ true) F.task i))

  caller_stays : (gs : List Frame) → GoesBeside b after gs → (g : Frame) (c : Caller) → among g.task (tasks_of gs) ≡ true → IsCaller x b g c
      → IsCaller x after g c
  caller_stays gs S g c i C = record {
    left = C.left;
    is_left = C.is_left;
    frame = frame_stays gs S c.waiting.code.now c.waiting.machine c.waiting.notes C.left g i C.frame;
    waits = C.waits;
    canonical = C.canonical;
  }

  entry_stays : (gs : List Frame) → GoesBeside b after gs → (fs : List Frame) (e : Entry) (g : Frame) → among g.task (tasks_of gs) ≡ true
      → IsEntry x b root fs e g → IsEntry x after root fs e g
  entry_stays gs S fs (checks rec at required) g i E = waiting_stays gs S fs rec at required g E
  entry_stays gs S fs (waits c) g i E = caller_stays gs S g c i E

  all_stay : (gs : List Frame) → GoesBeside b after gs → (es : List Entry) (fs : List Frame)
      → ((t : List ℕ) → among t (tasks_of fs) ≡ true → among t (tasks_of gs) ≡ true) → AreEntries x b root es fs → AreEntries x after root es fs
  all_stay gs S [] [] sub E = tt
  all_stay gs S [] (g ∷ fs) sub E = absurd E
  all_stay gs S (e ∷ es) [] sub E = absurd E
  all_stay gs S (e ∷ es) (g ∷ fs) sub E = (
    entry_stays gs S fs e g (sub g.task (among_here g.task (tasks_of fs))) E.0,
    all_stay gs S es fs (λ t i. sub t (among_there t g.task (tasks_of fs) i)) E.1,
  )

  pub entries_stay : (es : List Entry) (fs : List Frame) → GoesBeside b after fs → AreEntries x b root es fs → AreEntries x after root es fs
  entries_stay es fs S E = all_stay fs S es fs (λ t i. i) E

  pub runs_stay : (fs : List Frame) (code : Code) (m : Standing) (n : Noted) (R : RunsAbove x b root fs code m n) → GoesBeside b after (R.frame ∷ fs)
      → IsTop x after root fs R.frame → RunsAbove x after root fs code m n
  runs_stay fs code m n R S top = record {
    frame = R.frame;
    means = frame_stays (R.frame ∷ fs) S code m n n.left R.frame (among_here R.frame.task (tasks_of fs)) R.means;
    top = top;
  }

-- ---- how it goes on

pub new_goes : (b : Build) (t : Task) (fs : List Frame) → kept_of b.records (length b.names) ≡ None → GoesBeside b (record b { names = b.names ++ t ∷ [] }) fs
new_goes b t fs none = record {
  named = λ n v e. named_more b.names t v n e;
  settled = λ u s. subst (λ R. IsSettled R (Passes (unrecorded R)) u) (sym (records_kept b.names b.records t none)) s;
  staged = λ n v e i p. refl;
}

pub end_goes : (x : Site) (b : Build) (new : Records) (u : List ℕ) (r : Record) (fs : List Frame)
    → IsTable world (present x.update) (recorded b.names b.records) (map enc_task b.names)
    → EndsIn world (present x.update) (recorded b.names b.records) (recorded b.names new) (map enc_task b.names) u r
    → GoesBeside b (record b { records = new }) fs
end_goes x b new u r fs T E = record {
  named = λ n v e. e;
  settled = λ y s. settled_stays world (present x.update) (recorded b.names b.records) (recorded b.names new) (map enc_task b.names) u r T E y s;
  staged = λ n v e i p. refl;
}

some_same : {A : Type 0} (p q : A) → Some p ≡ Some q → p ≡ q
some_same p q h = cc

pub own_stages : (x : Site) (b : Build) (later : Staged) (root : List ℕ) (fs : List Frame) (f : Frame) (k : ℕ) (t : Task) → IsTop x b root fs f
    → f.task ≡ enc_task t → slice_get b.names k ≡ Some t → ((n : ℕ) → (n ≡ k → ⊥) → (p : List ℕ) → content later n p ≡ content b.stage n p)
    → GoesBeside b (record b { stage = later }) fs
own_stages x b later root fs f k t top is at same = record {
  named = λ n v e. e;
  settled = λ u s. s;
  staged = λ n v e i p. same n (other n v e i) p;
}
  where
    other : (n : ℕ) (v : Task) → slice_get b.names n ≡ Some v → among (enc_task v) (tasks_of fs) ≡ true → n ≡ k → ⊥
    other n v e i q =
        let one : v ≡ t = some_same v t (sym e ∙ ap (slice_get b.names) q ∙ at) in
        clash {A = ⊥} (among f.task (tasks_of fs)) (subst (λ z. among z (tasks_of fs) ≡ true) (ap enc_task one ∙ sym is) i) top.goes.once.0

pub fetches : (x : Site) (b : Build) (later : Staged) (root : List ℕ) (fs : List Frame) (f : Frame) → IsTop x b root fs f → AreTasks b.names
    → ((n : ℕ) → kept_of b.records n ≡ None → (p : List ℕ) → content later n p ≡ content b.stage n p)
    → GoesBeside b (record b { stage = later }) (f ∷ fs)
fetches x b later root fs f top tasks same = record {
  named = λ n v e. e;
  settled = λ u s. s;
  staged = λ n v e i p. same n (none n v e i) p;
}
  where
    none : (n : ℕ) (v : Task) → slice_get b.names n ≡ Some v → among (enc_task v) (tasks_of (f ∷ fs)) ≡ true → kept_of b.records n ≡ None
    none n v e i = go (kept_of b.records n) refl
      where
        go : (o : Option TaskRecord) → kept_of b.records n ≡ o → kept_of b.records n ≡ None
        go None q = q
        go (Some r) q =
            none_some (recorded b.names b.records (enc_task v)) (record_of r) (no_record (recorded b.names b.records) (enc_task v) (top.under_way.each (enc_task v) i))
            (record_by_number b.names b.records n v tasks e ∙ ap (option_map record_of) q)

-- ---- the newest goes on

pub check_is_back : (x : Site) (b : Build) (root : List ℕ) (fs : List Frame) (rec : TaskRecord) (at : ℕ) (required : List ℕ) (g : Frame)
    → (w : WaitsAt x b root fs rec at required g) → before_wait g ≡ w.of_record.check.checked.frame
check_is_back x b root fs rec at required g w =
    ap before_wait w.is ∙ back w.of_record.check.checked.frame w.of_record.check.checked.asks.left w.of_record.check.checked.asks.is_left
  where
    back : (f : Frame) (n : ℕ) → f.left ≡ suc n → before_wait (set_aside f n) ≡ f
    back f n e = ap (λ m. record { task = f.task; progress = f.progress; seen = f.seen; left = m }) (sym e)
