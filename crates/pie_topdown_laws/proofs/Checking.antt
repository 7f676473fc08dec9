-- Checks, from their begin to their end.
use Rattle.std.proofs.Common.{ℕ, zero, suc, ◌-◌, ◌≡◌, true, false, Some, List, [], ◌∷◌, ◌++◌, map, sym, ◌∙◌, ap, subst, refl, arith}
use Rattle.std.proofs.Common.{append_assoc, append-nil}
use Rattle.pie_model.specs.Paths.{among}
use Rattle.pie_model.specs.Tasks.{Task}
use Rattle.pie_model.specs.declared.words.How.{How}
use Rattle.pie_model.specs.Trees.{outcome_of, trace_of, is_done}
use Rattle.pie_model.specs.Evaluation.{World, Project, start, evaluation_with, evaluation}
use Rattle.pie_model.specs.Records.{Query, Looked, Listed, Required, Observation, observations_of, Record, needs_of, task_asked}
use Rattle.pie_model.specs.Running.{rest_of_run, IsRunning}
use Rattle.pie_model.specs.StampNow.{by_evaluation, asked_before, StampsAgree, stamp_now}
use Rattle.pie_model.specs.Separate.{AllMet, NeverWritesWhatItSaw}
use Rattle.pie_model.specs.inner.Stack.{Frame}
use Rattle.pie_model.proofs.Basics.{clash, among_here, among_left, among_right}
use Rattle.pie_model.proofs.MovedLemmas.{opened_apart}
use Rattle.pie_model.proofs.Rooms.{evaluation_room, room_of_none}
use Rattle.pie_model.proofs.RunningLemmas.{starts}
use Rattle.pie_step_laws.specs.Frames.{begun}
use Rattle.pie_step_laws.proofs.StepLemmas.{needs_of-append}
use Rattle.pie_topdown_laws.specs.Beside.{IsBeside}
use Rattle.pie_topdown_laws.specs.Checks.{Setting, MetIn, IsOldRecord}
use Rattle.pie_topdown_laws.specs.CheckLaws.{TellsApart, HasCome}
use Rattle.pie_topdown_laws.proofs.Beside.{past_writes}
use Rattle.pie_topdown_laws.proofs.Passing.{passes}
use Rattle.pie_topdown_laws.proofs.Along.{asks_for, runs_writing, runs_observing, kids_writing, kids_observing}

-- an evaluation that ended with a value had room
pub some_room : (w : World) (P : Project) (t : Task) → is_done (outcome_of (evaluation w P t)) ≡ true → w.most_tasks ≡ suc (w.most_tasks - 1)
some_room w P t d = go w.most_tasks (sym (ap (λ n. is_done (outcome_of n)) (evaluation_room w P t)) ∙ d)
  where
    go : (m : ℕ) → is_done (outcome_of (evaluation_with m w P [] t)) ≡ true → m ≡ suc (m - 1)
    go zero h = clash false h refl
    go (suc m) h = omega arith

module _ (w : World) (P : Project) (room : ℕ) (above : List Task) (t : Task) (apart : among t above ≡ false) where
  opened : trace_of (evaluation_with (suc room) w P above t) ≡ rest_of_run w P room above t w.most_events start
  opened = ap trace_of (opened_apart (suc room) w P above t apart)

  pub met_begun : (Met : List ℕ → Type 0) → AllMet w Met (trace_of (evaluation_with (suc room) w P above t))
      → AllMet w Met (rest_of_run w P room above t w.most_events start)
  met_begun Met m = subst (AllMet w Met) opened m

-- before the first event the two runs stand side by side
pub begun_beside : (x : Setting) (before : Project) (room : ℕ) (above : List Task) (t : Task) (r : Record) → IsOldRecord x before t r
    → AllMet x.world (MetIn x) (rest_of_run x.world x.now room above t x.world.most_events start)
    → IsBeside x.world before x.now (MetIn x) room above r (begun x.world t) r.observations
begun_beside x before room above t r O m = record {
  was = O.was;
  done = O.done;
  old_room = x.world.most_tasks - 1;
  is_old_room = room_is;
  progress = start;
  ran = starts x.world before (x.world.most_tasks - 1) [] t refl;
  comes = sym (ap (λ z. observations_of x.world z) (opened x.world before (x.world.most_tasks - 1) [] t refl))
      ∙ sym (ap (λ n. observations_of x.world (trace_of n)) whole) ∙ sym (ap (λ z. z.observations) O.was);
  answers = refl;
  own = refl;
  met_then = met_begun x.world before (x.world.most_tasks - 1) [] t refl (MetIn x) (subst (λ n. AllMet x.world (MetIn x) (trace_of n)) whole O.met);
  met_now = m;
}
  where
    room_is : x.world.most_tasks ≡ suc (x.world.most_tasks - 1)
    room_is = some_room x.world before t (sym (ap (λ z. is_done z.outcome) O.was) ∙ O.done)

    whole : evaluation x.world before t ≡ evaluation_with (suc (x.world.most_tasks - 1)) x.world before [] t
    whole = ap (λ n. evaluation_with n x.world before [] t) (room_of_none x.world ∙ room_is)

-- ---- in the model

module _ (x : Setting) (before : Project) (apart : TellsApart x before) (room : ℕ) (above : List Task) (t : Task) (r : Record)
    (O : IsOldRecord x before t r) where
  -- a frame of the task that has come so far
  record At (f : Frame) (passed rest : List Observation) : Type 0 where
    task : f.task ≡ t
    seen : f.seen ≡ passed
    runs : IsRunning x.world x.now room above f.task f.left f.progress f.seen
    kids : f.progress.kids ≡ map (evaluation x.world x.now) (needs_of f.seen)
    beside : IsBeside x.world before x.now (MetIn x) room above r f rest

  meaning_of : (f : Frame) → f.task ≡ t → before.next f.task ≡ x.now.next f.task
  meaning_of f e = subst (λ z. before.next z ≡ x.now.next z) (sym e) O.meaning

  polite_of : (f : Frame) → f.task ≡ t → NeverWritesWhatItSaw (before.next f.task)
  polite_of f e = subst (λ z. NeverWritesWhatItSaw (before.next z)) (sym e) O.polite

  arrive : (f : Frame) (passed rest : List Observation) → At f passed rest → HasCome x before room above t r passed rest
  arrive f passed rest A =
      let p = past_writes x.world before x.now (MetIn x) room above r f.left f rest refl (meaning_of f A.task) A.beside in
      record {
        frame = p.to;
        task = p.task ∙ A.task;
        seen = p.seen ∙ A.seen;
        runs = runs_writing x.world x.now room above p.to f p.writes A.runs;
        kids = kids_writing x.world x.now room above p.to f p.writes A.kids;
        beside = p.beside;
        asks = p.asks;
      }

  begins : among t above ≡ false → AllMet x.world (MetIn x) (trace_of (evaluation_with (suc room) x.world x.now above t))
      → HasCome x before room above t r [] r.observations
  begins i m = arrive (begun x.world t) [] r.observations (record {
    task = refl;
    seen = refl;
    runs = starts x.world x.now room above t i;
    kids = refl;
    beside = begun_beside x before room above t r O (met_begun x.world x.now room above t i (MetIn x) m);
  })

  one_more : (passed rest : List Observation) (o : Observation) → HasCome x before room above t r passed (o ∷ rest)
      → ((h : How) (u : Task) → o.query ≡ Required h u → evaluation_with room x.world x.now (t ∷ above) u ≡ evaluation x.world x.now u)
      → stamp_now x.world x.now (by_evaluation x.world x.now) r.writes (needs_of passed) o.query ≡ Some o.stamp
      → HasCome x before room above t r (passed ++ o ∷ []) rest
  one_more passed rest o C placed agree =
      let p = passes x.world before x.now (MetIn x) apart.stamps apart.listings room above r C.frame (meaning_of C.frame C.task) (polite_of C.frame C.task)
      C.kids C.asks.left C.asks.is_left o.stamp rest o.query C.beside C.asks.next here
      (subst (λ z. stamp_now x.world x.now (by_evaluation x.world x.now) r.writes (needs_of z) o.query ≡ Some o.stamp) (sym C.seen) agree) in
      arrive p.to (passed ++ o ∷ []) rest (record {
        task = p.task ∙ C.task;
        seen = p.seen ∙ ap (λ z. z ++ o ∷ []) C.seen;
        runs = runs_observing x.world x.now room above C.frame p.to (λ h u q. here h u (asks_for o.query h u (sym C.asks.next ∙ q))) p.observes C.runs;
        kids = kids_observing x.world x.now room above C.frame p.to p.observes C.kids;
        beside = p.beside;
      })
    where
      here : (h : How) (u : Task) → o.query ≡ Required h u
          → evaluation_with room x.world x.now (C.frame.task ∷ above) u ≡ evaluation x.world x.now u
      here h u e = subst (λ z. evaluation_with room x.world x.now (z ∷ above) u ≡ evaluation x.world x.now u) (sym C.task) (placed h u e)

  asked_next : (before_it : List Task) (o : Observation) → asked_before before_it o.query ≡ before_it ++ needs_of (o ∷ [])
  asked_next before_it o = go o.query
    where
      go : (q : Query) → asked_before before_it q ≡ before_it ++ (task_asked q ++ [])
      go (Looked l p) = sym (append-nil before_it)
      go (Listed d) = sym (append-nil before_it)
      go (Required h u) = refl

  pub along : (os so rest : List Observation) → HasCome x before room above t r so (os ++ rest)
      → StampsAgree x.world x.now (by_evaluation x.world x.now) r.writes (needs_of so) os
      → ((u : Task) → among u (needs_of os) ≡ true → evaluation_with room x.world x.now (t ∷ above) u ≡ evaluation x.world x.now u)
      → HasCome x before room above t r (so ++ os) rest
  along [] so rest C agree placed = subst (λ z. HasCome x before room above t r z rest) (sym (append-nil so)) C
  along (o ∷ os) so rest C agree placed =
      subst (λ z. HasCome x before room above t r z rest) (append_assoc so (o ∷ []) os)
      (along os (so ++ o ∷ []) rest
      (one_more so (os ++ rest) o C (λ h u e. placed u (among_left u (task_asked o.query) (needs_of os)
      (subst (λ q. among u (task_asked q) ≡ true) (sym e) (among_here u [])))) agree.0)
      (subst (λ z. StampsAgree x.world x.now (by_evaluation x.world x.now) r.writes z os)
      (asked_next (needs_of so) o ∙ sym (needs_of-append so (o ∷ []))) agree.1)
      (λ u i. placed u (among_right u (task_asked o.query) (needs_of os) i)))

  pub begin_alike : (passed rest : List Observation) → among t above ≡ false
      → AllMet x.world (MetIn x) (trace_of (evaluation_with (suc room) x.world x.now above t)) → r.observations ≡ passed ++ rest
      → StampsAgree x.world x.now (by_evaluation x.world x.now) r.writes [] passed
      → ((u : Task) → among u (needs_of passed) ≡ true → evaluation_with room x.world x.now (t ∷ above) u ≡ evaluation x.world x.now u)
      → HasCome x before room above t r passed rest
  begin_alike passed rest i m e agree placed =
      along passed [] rest (subst (λ z. HasCome x before room above t r [] z) e (begins i m)) agree placed
