-- Events of the task that runs, in the words of the model.
use Rattle.std.proofs.Common.{◌≡◌, ℕ, ◌<◌, true, false, Bool, List, ◌∷◌, Option, None, Some, Result, Ok, Err, refl, sym, ap, subst, ◌∙◌}
use Rattle.std.specs.Prelude.{slice_get, slice_index_or, IfOk, All}
use Rattle.std.proofs.lemmas.List.Elements.{All-contains}
use Rattle.pie_base.specs.Path.{is_out}
use Rattle.pie_base.specs.declared.fault.FaultKind.{FaultKind}
use Rattle.pie_value.specs.declared.task.Task.{Task}
use Rattle.pie_value.specs.declared.value.Value.{Value}
use Rattle.pie_value.specs.declared.event.Event.{Event}
use Rattle.pie_value.specs.declared.event.Event.TheVariants as events
use Rattle.pie_value.specs.declared.event.By.{By}
use Rattle.pie_value.specs.Canonical.{enc_task}
use Rattle.pie_files.specs.Directory.{Directory}
use Rattle.pie_graph.specs.Numbers.{IsMarked}
use Rattle.pie_graph.specs.Rows.{Row}
use Rattle.pie_record.specs.declared.task_record.Outcome.{Outcome}
use Rattle.pie_record.specs.declared.task_record.Outcome.TheVariants as ends
use Rattle.pie_record.specs.declared.task_record.TaskRecord.{TaskRecord}
use Rattle.pie_record.specs.inner.Records.{record_of as kept_of}
use Rattle.pie_results.specs.inner.Failures.{is_done}
use Rattle.pie_view.specs.Content.{Staged, content}
use Rattle.pie_view.specs.Seen.{Visible, IsOnly}
use Rattle.pie_view.specs.declared.seen.Seen.{Seen}
use Rattle.pie_view.specs.declared.seen.Seen.TheVariants.{Absent, By as OneBy, Clash}
use Rattle.pie_running.specs.declared.frame.RunningTask.{RunningTask}
use Rattle.pie_running.specs.declared.frame.Waiting.{Waiting}
use Rattle.pie_running.specs.declared.frame.Paused.TheVariants as pauses
use Rattle.pie_running.specs.declared.frame.Told.{Told}
use Rattle.pie_running.specs.declared.frame.Told.TheVariants as tolds
use Rattle.pie_running.specs.declared.looking.Sight.{Sight}
use Rattle.pie_running.specs.declared.looking.Sight.TheVariants as sights
use Rattle.pie_running.specs.inner.Looks.{IsToldPresence, IsToldSight, IsToldDigest}
use Rattle.pie_running.specs.inner.Noted.{Noted}
use Rattle.pie_running.specs.inner.Sights.{Sighted, Sees, SightSays, found_in, listing_in}
use Rattle.pie_running.specs.inner.Steps.{Answered}
use Rattle.pie_running.specs.inner.Told.{IsToldList, IsToldWrite, StagesFirst}
use Rattle.pie_model.specs.Trees.{is_done as ends_well}
use Rattle.pie_model.specs.inner.Stack.{Frame as ModelFrame, tasks_of}
use Rattle.pie_model.proofs.Basics.{among_there}
use Rattle.pie_model_pipeline.specs.Rows.{outcome_of}
use Rattle.pie_builder_laws.specs.Names.{called_in}
use Rattle.pie_builder_laws.specs.Views.{AreNumbersOf}
use Rattle.pie_core_laws.specs.Update.{Update}
use Rattle.pie_core_laws.specs.Seeing.{written_now, IsStagedFor}
use Rattle.pie_task_laws.specs.Sites.{IsSound, HaveOutputs}
use Rattle.pie_task_laws.specs.Sights.{OwnFirst, SeesOthers, SeesOut}
use Rattle.pie_task_laws.specs.Coming.{Gives}
use Rattle.pie_task_laws.proofs.Frames.{frame_moves}
use Rattle.pie_topdown_laws.specs.Running.{GoesOrFails, LooksAbove}
use Rattle.pie_topdown_laws.proofs.Acting.{pauses_above, exists_told, reading_told, digest_told, list_told, write_told}
use Rattle.pie_topdown_laws.proofs.Remaining.{fetches}
use Rattle.pie_topdown.specs.declared.builder.Builder.{Builder}
use Rattle.pie_topdown.specs.declared.hand.Hand.TheVariants as hands
use Rattle.pie_topdown.specs.declared.hand.Turn.{Turn}
use Rattle.pie_topdown.specs.declared.hand.Turn.TheVariants.{Goes}
use Rattle.pie_topdown.specs.inner.Asking.{AsksRight, ActsSo, AsksSo, LooksSo, RunsSo, FetchesSo, IsOf, IsToldRight, ToldSo, EndsSo}
use Rattle.pie_topdown.specs.inner.Frames.{IsSite}
use Rattle.pie_topdown.specs.inner.Ledgers.{HasOutput}
use Rattle.pie_topdown.specs.inner.Right.{site_of, build_of, IsPlanNow, IsRightSite, AreTheBusy, FailsSo}
use Rattle.pie_topdown.specs.inner.Sights.{ShowsOthers, ShowsOut, IsStaged, SeenIsStaged}
use Rattle.pie_topdown.proofs.Fetched.{exact_now, settled_now, reached_kept, puts_beside}
use Rattle.pie_topdown.proofs.Topmost.{one_some, own_unkept, own_site, own_waiting}
use Rattle.pie_topdown.proofs.Touched.{IsSameBut, StaysOf, touched_waiting}

-- nothing changed but what is staged
pub stage_same : (b : Builder) (later : Staged) → IsSameBut b (record b { stage = later })
stage_same b later = record { plan = refl; names = refl; records = refl; rows = refl; places = refl; stack = refl; known = refl; failure = refl }

-- ---- it was told something

-- it goes on
pub told_goes : (b : Builder) (n : ℕ) (f : RunningTask) → ToldSo b n (tolds.Goes f) b (Goes (hands.Runs f))
told_goes b n f = λ u done root fs s waiting h.
    let same : f.notes.task ≡ h.task =
    one_some f.notes.task h.task (sym h.goes.means.named ∙ ap (slice_get b.ledger.tables.names) h.same ∙ h.named) in
    record {
      site = s;
      fs = fs;
      waiting = waiting;
      hand = record {
        runs = h.goes;
        ran = subst (IsMarked b.ledger.tables.ran.items) (sym h.same) h.ran;
        busy = subst (λ (t : Task). AreTheBusy b (enc_task t ∷ tasks_of fs)) (sym same) h.busy;
      };
    }

-- it fails
pub told_fails : {E : Type 0} (b new : Builder) (n : ℕ) (m : Noted) (k : FaultKind) (r : Result Turn E) → IfOk r (FailsSo b n k new)
    → IfOk r (ToldSo b n (tolds.Fails m k) new)
told_fails b new n m k (Ok t) fails = λ u done root fs s waiting h. fails u done root fs h.task s waiting h.named h.goes h.ran h.busy
told_fails b new n m k (Err e) fails = tt

is_of : (n : Noted) (t : Told) → Answered n t → IsOf n.number t
is_of n (tolds.Goes f) a = a.1.number
is_of n (tolds.Fails m k) a = tt

told_right : (u : Update) (b : Builder) (root : List ℕ) (fs : List ModelFrame) (w : Waiting) (e : Event) (n : ℕ) (t : Told) → n ≡ w.notes.number
    → AsksRight u b root fs w e → Answered w.notes t → GoesOrFails (site_of u b) (build_of b) root fs w.notes.task t → IsToldRight u b root fs n t
told_right u b root fs w e n t number a answered goes =
    subst (λ k. IsToldRight u b root fs k t) (sym number) (record {
      task = w.notes.task;
      named = a.asks.runs.means.named;
      goes = goes;
      same = is_of w.notes t answered;
      ran = a.ran;
      busy = a.busy;
    })

-- ---- it lists

pub list_right : (held : Option Directory) (b new : Builder) (n : ℕ) (w : Waiting) (dir : List ℕ) (t : Told) (turn : Turn) → n ≡ w.notes.number → 0 < w.notes.left
    → Answered w.notes t → ((d : Directory) → held ≡ Some d → IsToldList w dir (listing_in d dir) t) → ToldSo b n t new turn
    → AsksSo held b w (events.List dir) new turn
list_right held b new n w dir t turn number left answered tells told = λ u done root fs holds plan s waiting a.
    told u done root fs s waiting
    (told_right u b root fs w (events.List dir) n t number a answered
    (list_told (site_of u b) (build_of b) root fs w dir t a.asks left (tells u.directory holds)))

-- ---- it writes

write_beside : (o : Bool) (w : Waiting) (old later : Staged) (path bytes : List ℕ) (t : Told) → IsToldWrite o w old later path bytes t → (k : ℕ)
    → (k ≡ w.notes.number → ⊥) → (p : List ℕ) → content later k p ≡ content old k p
write_beside true w old later path bytes (tolds.Goes f) h k apart p = first (content old w.notes.number path) h.0
  where
    first : (o : Option (List ℕ)) → StagesFirst o old later w.notes.number path bytes → content later k p ≡ content old k p
    first (Some x) e = ap (λ st. content st k p) e
    first None puts = puts_beside old later w.notes.number path bytes puts k apart p
write_beside true w old later path bytes (tolds.Fails m j) h k apart p = absurd h
write_beside false w old later path bytes t h k apart p = ap (λ st. content st k p) h.0

write_turn : (b : Builder) (later : Staged) (new : Builder) (n : ℕ) (w : Waiting) (path bytes : List ℕ) (t : Told) (turn : Turn) → IsSite b
    → n ≡ w.notes.number → 0 < w.notes.left → Answered w.notes t → IsToldWrite (is_out path) w b.stage later path bytes t
    → ToldSo (record b { stage = later }) n t new turn → ActsSo b w (events.Write path bytes) new turn
write_turn b later new n w path bytes t turn is number left answered wrote told = λ u done root fs plan s waiting a.
    let c : Builder = record b { stage = later } in
    let R = a.asks.runs in
    let stays : (k : ℕ) → (k ≡ w.notes.number → ⊥) → StaysOf b c k =
    λ k apart. record { content = λ p. write_beside (is_out path) w b.stage later path bytes t wrote k apart p; flag = refl } in
    told u done root fs
    (own_site u done root b fs R.frame w.notes.number w.notes.task s R.top R.means.task R.means.named c (stage_same b later) stays
    (s.written.due w.notes.number))
    (own_waiting u done root b fs R.frame w.notes.number w.notes.task s R.top R.means.task R.means.named c (stage_same b later) stays
    (s.written.due w.notes.number) is waiting)
    (subst (λ k. IsToldRight u c root fs k t) (sym number) (record {
      task = w.notes.task;
      named = R.means.named;
      goes = write_told (site_of u b) (build_of b) root fs w path bytes later t a.asks left wrote;
      same = is_of w.notes t answered;
      ran = a.ran;
      busy = a.busy;
    }))

pub write_right : {E : Type 0} (b : Builder) (later : Staged) (new : Builder) (n : ℕ) (w : Waiting) (path bytes : List ℕ) (t : Told) (r : Result Turn E)
    → IsSite b → n ≡ w.notes.number → 0 < w.notes.left → Answered w.notes t → IsToldWrite (is_out path) w b.stage later path bytes t
    → IfOk r (ToldSo (record b { stage = later }) n t new) → IfOk r (ActsSo b w (events.Write path bytes) new)
write_right b later new n w path bytes t (Err x) is number left answered wrote told = tt
write_right b later new n w path bytes t (Ok turn) is number left answered wrote told =
    write_turn b later new n w path bytes t turn is number left answered wrote told

-- ---- it looks

done_well : (o : Outcome) → is_done o ≡ true → ends_well (outcome_of o) ≡ true
done_well (ends.Done v) is = is
done_well (ends.Failed f) is = is
done_well (ends.Cycled ts) is = is

-- what is staged of a task with a record is what its evaluation wrote first
staged_now : (u : Update) (done : List (List ℕ)) (root : List ℕ) (b : Builder) (n : ℕ) (path : List ℕ) (t : Task) → IsRightSite u done root b
    → (rec : TaskRecord) → kept_of b.ledger.tables.records n ≡ Some rec → IsStaged b.stage n path → slice_get b.ledger.tables.names n ≡ Some t
    → content b.stage n path ≡ written_now u t path
staged_now u done root b n path t s rec kept staged named = by (slice_index_or b.ledger.tables.ran.items n false) refl
  where
    same : rec.task ≡ t
    same = one_some rec.task t (sym (s.ledger.named n rec kept) ∙ named)

    by : (z : Bool) → slice_index_or b.ledger.tables.ran.items n false ≡ z → content b.stage n path ≡ written_now u t path
    by true flag = s.written.ran n rec path flag kept ∙ ap (λ (x : Task). written_now u x path) same
    by false flag = staged.1 ∙ sym (s.written.fetched n rec path staged.0 flag kept staged.1) ∙ ap (λ (x : Task). written_now u x path) same

module _ (u : Update) (done : List (List ℕ)) (root : List ℕ) (b : Builder) (fs : List ModelFrame) (w : Waiting) (e : Event) (path : List ℕ)
    (plan : IsPlanNow u b.plan) (s : IsRightSite u done root b) (a : AsksRight u b root fs w e) (left : 0 < w.notes.left)
    (ended : All (HasOutput b.ledger.tables.records) w.notes.needs)
    (there : is_out path ≡ true → SeenIsStaged b.ledger.rows b.stage w.notes.number w.notes.needs path) where
  sound : IsSound (site_of u b) (build_of b)
  sound = record { exact = (exact_now u done root b s).exact; stands = (exact_now u done root b s).stands; apart = plan.apart }

  outputs : HaveOutputs (build_of b) w.notes.needs
  outputs k h =
      let out = All-contains (HasOutput b.ledger.tables.records) w.notes.needs k ended h in
      record { settled = settled_now u done root b s k out.rec out.kept; rec = out.rec; kept = out.kept; gave = done_well out.rec.outcome out.done }

  looks : LooksAbove (site_of u b) (build_of b) root fs w e
  looks = record { there = plan.compiled; sound = sound; asking = a.asks; left = left; outputs = outputs }

  staged_for : (seen : Seen) → is_out path ≡ true → content b.stage w.notes.number path ≡ None → IsOnly (Visible b.ledger.rows w.notes.needs path) seen
      → IsStagedFor u b.ledger.tables.names (content b.stage) path seen
  staged_for Absent out none only = tt
  staged_for (OneBy one) out none only = λ t named.
      let kept = reached_kept u done root b s w.notes.needs path one.0 ended only.0 in
      staged_now u done root b one.0 path t s kept.0 kept.1 (there out none one only) named
  staged_for Clash out none only = tt

  shown_out : is_out path ≡ true → (o : Sighted) → ShowsOut b.ledger.rows b.stage w.notes.number w.notes.needs path o
      → SeesOut (site_of u b) (build_of b) w.notes path o
  shown_out out o = by (content b.stage w.notes.number path) refl
    where
      by : (x : Option (List ℕ)) → content b.stage w.notes.number path ≡ x → OwnFirst x (ShowsOthers b.ledger.rows b.stage w.notes.needs path o) o
          → OwnFirst x (SeesOthers (site_of u b) (build_of b) w.notes.needs path o) o
      by (Some bytes) is h = h
      by None is h = record { seen = h.seen; only = h.only; staged = staged_for h.seen out is h.only; is = h.is }

  -- what is shown is seen
  sees_out : (shown : Sighted → Type 0) → ((o : Sighted) → shown o → ShowsOut b.ledger.rows b.stage w.notes.number w.notes.needs path o) → (o : Sighted)
      → Sees u.directory path shown o → Sees u.directory path (SeesOut (site_of u b) (build_of b) w.notes path) o
  sees_out shown is o h = record { out = λ out. shown_out out o (is o (h.out out)); source = h.source; kept = h.kept }

-- by the rows and contents of the build
pub shown_here : (b : Builder) (rows : List Row) (staged : Staged) (n : Noted) (path : List ℕ) (o : Sighted) → rows ≡ b.ledger.rows → staged ≡ b.stage
    → ShowsOut rows staged n.number n.needs path o → ShowsOut b.ledger.rows b.stage n.number n.needs path o
shown_here b rows staged n path o rs st shows =
    subst (λ (x : List Row). ShowsOut x b.stage n.number n.needs path o) rs
    (subst (λ (x : Staged). ShowsOut rows x n.number n.needs path o) st shows)

-- what holds of each sight holds of what a task sees that reads
sight_more : (by : By) (path : List ℕ) (P Q : Sighted → Type 0) → ((o : Sighted) → P o → Q o) → (s : Sight) → SightSays by path s P → SightSays by path s Q
sight_more by path P Q f (sights.File found) h = f (Some (found_in found)) h
sight_more by path P Q f (sights.Long stamp) h = (h.0, f (Some (Some h.0)) h.1, h.2)
sight_more by path P Q f sights.Clash h = f None h

module _ (held : Option Directory) (b new : Builder) (n : ℕ) (w : Waiting) (path : List ℕ) (shown : Sighted → Type 0) (t : Told) (turn : Turn)
    (number : n ≡ w.notes.number) (left : 0 < w.notes.left) (ended : All (HasOutput b.ledger.tables.records) w.notes.needs) (answered : Answered w.notes t)
    (shows : (o : Sighted) → shown o → ShowsOut b.ledger.rows b.stage w.notes.number w.notes.needs path o) (told : ToldSo b n t new turn) where
  pub exists_right : ((d : Directory) → held ≡ Some d → IsToldPresence d shown w path t) → LooksSo held b w (events.Exists path) path new turn
  exists_right tells = λ there u done root fs holds plan s waiting a.
      let h = tells u.directory holds in
      told u done root fs s waiting
      (told_right u b root fs w (events.Exists path) n t number a answered
      (exists_told (site_of u b) (build_of b) root fs w path t (looks u done root b fs w (events.Exists path) path plan s a left ended there) (record {
        presence = h.presence;
        sees = record {
          sight = h.sees.sight;
          sees = sees_out u done root b fs w (events.Exists path) path plan s a left ended there shown shows h.sees.sight h.sees.sees;
          is = h.sees.is;
        };
        told = h.told;
      })))

  pub digest_right : ((d : Directory) → held ≡ Some d → IsToldDigest d shown w path t) → LooksSo held b w (events.Digest path) path new turn
  digest_right tells = λ there u done root fs holds plan s waiting a.
      let h = tells u.directory holds in
      told u done root fs s waiting
      (told_right u b root fs w (events.Digest path) n t number a answered
      (digest_told (site_of u b) (build_of b) root fs w path t (looks u done root b fs w (events.Digest path) path plan s a left ended there) (record {
        hash = h.hash;
        sees = record {
          sight = h.sees.sight;
          sees = sees_out u done root b fs w (events.Digest path) path plan s a left ended there shown shows h.sees.sight h.sees.sees;
          is = h.sees.is;
        };
        told = h.told;
      })))

  pub read_right : (by : By) → ((d : Directory) → held ≡ Some d → IsToldSight d shown w path by t) → LooksSo held b w (events.Read path by) path new turn
  read_right by tells = λ there u done root fs holds plan s waiting a.
      let h = tells u.directory holds in
      told u done root fs s waiting
      (told_right u b root fs w (events.Read path by) n t number a answered
      (reading_told (site_of u b) (build_of b) root fs w path by t (looks u done root b fs w (events.Read path by) path plan s a left ended there) (record {
        sight = h.sight;
        sees = sight_more by path (Sees u.directory path shown) (Sees u.directory path (SeesOut (site_of u b) (build_of b) w.notes path))
            (sees_out u done root b fs w (events.Read path by) path plan s a left ended there shown shows) h.sight h.sees;
        told = h.told;
      })))

-- ---- the file that it is about to look at was staged before

pub fetched_looks : {E : Type 0} (held now : Option Directory) (old mid new : Builder) (w : Waiting) (e : Event) (path : List ℕ) (r : Result Turn E) → now ≡ held
    → mid ≡ record old { stage = mid.stage } → IsSite old → All (HasOutput old.ledger.tables.records) w.notes.needs → FetchesSo held old w.notes path mid
    → IfOk r (LooksSo now mid w e path new) → IfOk r (AsksSo held old w e new)
fetched_looks {E} held now old mid new w e path r here same is ended fetched = by r
  where
    of_later : (later : Staged) → FetchesSo held old w.notes path (record old { stage = later }) → (turn : Turn)
        → LooksSo now (record old { stage = later }) w e path new turn → AsksSo held old w e new turn
    of_later later fetch turn looked = λ u done root fs holds plan s waiting a.
        let has = fetch u done root holds plan s ended in
        let c : Builder = record old { stage = later } in
        let R = a.asks.runs in
        let beside =
        fetches (site_of u old) (build_of old) later root fs R.frame R.top s.ledger.tasks (λ k none p. has.beside k none p) in
        looked has.seen u done root fs (here ∙ holds) plan has.site
        (touched_waiting old c (stage_same old later) u root fs is
        (λ k v at on. record { content = λ p. beside.staged k v at (among_there (enc_task v) R.frame.task (tasks_of fs) on) p; flag = refl })
        waiting)
        (record {
          asks = record {
            runs = record {
              frame = R.frame;
              means = frame_moves (site_of u old) (build_of old) w.code.now w.machine w.notes w.notes.left R.frame R.means (build_of c) R.means.named R.means.needs
                  (λ p.
                  has.beside w.notes.number (own_unkept u done root old fs R.frame w.notes.number w.notes.task s R.top R.means.task R.means.named) p);
              top = R.top;
            };
            asks = a.asks.asks;
            came = a.asks.came;
          };
          effect = a.effect;
          ran = a.ran;
          busy = a.busy;
        })

    by : (q : Result Turn E) → IfOk q (LooksSo now mid w e path new) → IfOk q (AsksSo held old w e new)
    by (Err x) looked = tt
    by (Ok turn) looked =
        of_later mid.stage (subst (FetchesSo held old w.notes path) same fetched) turn (subst (λ z. LooksSo now z w e path new turn) same looked)

-- ---- what its machine gives

pub hand_asks : {E : Type 0} (held : Option Directory) (b new : Builder) (f : RunningTask) (w : Waiting) (e : Event) (r : Result Turn E)
    → Gives f (pauses.Asks w e) → IfOk r (AsksSo held b w e new) → IfOk r (RunsSo held b f new)
hand_asks held b new f w e (Err x) gives asks = tt
hand_asks held b new f w e (Ok turn) gives asks = λ u done root fs holds plan s waiting h.
    asks u done root fs holds plan s waiting (record {
      asks = pauses_above (site_of u b) (build_of b) root fs plan.compiled s.ledger.tasks f (pauses.Asks w e) s.listed h.runs gives;
      effect = gives.comes.2;
      ran = subst (λ (n : Noted). IsMarked b.ledger.tables.ran.items n.number) (sym gives.comes.1) h.ran;
      busy = subst (λ (n : Noted). AreTheBusy b (enc_task n.task ∷ tasks_of fs)) (sym gives.comes.1) h.busy;
    })

pub hand_fails : {E : Type 0} (held : Option Directory) (b new : Builder) (f : RunningTask) (at : ℕ) (n : Noted) (k : FaultKind) (r : Result Turn E)
    → at ≡ f.notes.number → Gives f (pauses.Fails n k) → IfOk r (FailsSo b at k new) → IfOk r (RunsSo held b f new)
hand_fails held b new f at n k (Err x) number gives fails = tt
hand_fails held b new f at n k (Ok turn) number gives fails = λ u done root fs holds plan s waiting h.
    fails u done root fs n.task s waiting
    (subst (λ i. slice_get b.ledger.tables.names i ≡ Some n.task) (sym number)
    (subst (λ (m : Noted). slice_get b.ledger.tables.names f.notes.number ≡ Some m.task) (sym gives.comes) h.runs.means.named))
    (pauses_above (site_of u b) (build_of b) root fs plan.compiled s.ledger.tasks f (pauses.Fails n k) s.listed h.runs gives)
    (subst (IsMarked b.ledger.tables.ran.items) (sym number) h.ran)
    (subst (λ (m : Noted). AreTheBusy b (enc_task m.task ∷ tasks_of fs)) (sym gives.comes) h.busy)

pub hand_ends : {E : Type 0} (held : Option Directory) (b new : Builder) (f : RunningTask) (n : Noted) (v : Value) (r : Result Turn E)
    → Gives f (pauses.Ends n v) → IfOk r (EndsSo b n v new) → IfOk r (RunsSo held b f new)
hand_ends held b new f n v (Err x) gives ends = tt
hand_ends held b new f n v (Ok turn) gives ends = λ u done root fs holds plan s waiting h.
    ends u done root fs s waiting (record {
      frame = h.runs.frame;
      task = h.runs.means.task ∙ ap (λ (m : Noted). enc_task m.task) (sym gives.comes);
      top = h.runs.top;
      numbers = subst (λ (m : Noted). AreNumbersOf b.ledger.tables.names m.needs (called_in m.deps)) (sym gives.comes) h.runs.means.needs;
      ends = pauses_above (site_of u b) (build_of b) root fs plan.compiled s.ledger.tasks f (pauses.Ends n v) s.listed h.runs gives;
      ran = subst (λ (m : Noted). IsMarked b.ledger.tables.ran.items m.number) (sym gives.comes) h.ran;
      busy = subst (λ (m : Noted). AreTheBusy b (enc_task m.task ∷ tasks_of fs)) (sym gives.comes) h.busy;
    })

-- ---- without files

pub acts_asks : {E : Type 0} (held : Option Directory) (b new : Builder) (w : Waiting) (e : Event) (r : Result Turn E) → IfOk r (ActsSo b w e new)
    → IfOk r (AsksSo held b w e new)
acts_asks held b new w e (Err x) acts = tt
acts_asks held b new w e (Ok turn) acts = λ u done root fs holds plan s waiting a. acts u done root fs plan s waiting a

-- an event that asks nothing doesn't come
pub asks_none : {E : Type 0} (held : Option Directory) (b new : Builder) (w : Waiting) (e : Event) (r : Result Turn E)
    → ((u : Update) (root : List ℕ) (fs : List ModelFrame) → AsksRight u b root fs w e → ⊥) → IfOk r (AsksSo held b w e new)
asks_none held b new w e (Err x) none = tt
asks_none held b new w e (Ok turn) none = λ u done root fs holds plan s waiting a. absurd (none u root fs a)
