-- A task that looks at a path goes on as in the model.
use Rattle.std.proofs.Common.{◌≡◌, ℕ, ◌<◌, true, List, Option, None, Some, Result, subst, ◌∙◌}
use Rattle.std.specs.Prelude.{IfOk, option_map, drop}
use Rattle.std.specs.List.{Contains}
use Rattle.std.proofs.lemmas.List.Elements.{All-contains}
use Rattle.pie_value.specs.declared.event.By.{By}
use Rattle.pie_value.specs.declared.event.Event.{Event}
use Rattle.pie_value.specs.declared.event.Event.TheVariants as events
use Rattle.pie_files.specs.Directory.{Directory}
use Rattle.pie_graph.specs.declared.edges.TaskNo.{TaskNo}
use Rattle.pie_graph.specs.Rows.{row_at}
use Rattle.pie_record.specs.declared.dep.DepKind.TheVariants as kinds
use Rattle.pie_view.specs.Content.{Staged, content}
use Rattle.pie_walk.specs.Marks.{mark_of, IsSettled}
use Rattle.pie_running.specs.declared.frame.Waiting.{Waiting}
use Rattle.pie_running.specs.declared.frame.Told.{Told}
use Rattle.pie_running.specs.declared.looking.Sight.{Sight}
use Rattle.pie_running.specs.declared.looking.Sight.TheVariants as sights
use Rattle.pie_running.specs.inner.Looks.{IsToldPresence, IsToldSight, IsToldDigest}
use Rattle.pie_running.specs.inner.Sights.{Sighted, Sees, SightSays, found_in}
use Rattle.pie_running.specs.inner.Told.{told_flag, told_hash}
use Rattle.pie_frames.specs.inner.Standing.{Holds}
use Rattle.pie_core_laws.specs.Update.{Update}
use Rattle.pie_core_laws.specs.Exact.{runs}
use Rattle.pie_task_laws.specs.Sights.{SeesOut}
use Rattle.pie_task_laws.proofs.Keeping.{asking_stay, stagings_step}
use Rattle.pie_task_laws.proofs.Told.{exists_told, reading_told, digest_told}
use Rattle.pie_bottomup.specs.declared.state.Core.{Core}
use Rattle.pie_bottomup.specs.declared.state.Turn.{Turn}
use Rattle.pie_bottomup.specs.inner.Exact.{IsExactCore, FetchesExact}
use Rattle.pie_bottomup.specs.inner.Fetched.{Fetches}
use Rattle.pie_bottomup.specs.inner.Going.{site_of, build_of, callers_up, IsAskingNow, ToldWhole, AsksWhole, LooksWhole}
use Rattle.pie_bottomup.specs.inner.Recorded.{HasEnded}
use Rattle.pie_bottomup.specs.inner.Sights.{ShowsOut}
use Rattle.pie_bottomup.specs.inner.States.{IsOwn}
use Rattle.pie_bottomup.proofs.ExactAsking.{looked_owns, read_owns}
use Rattle.pie_bottomup.proofs.ExactSteps.{if_ok_more}
use Rattle.pie_bottomup.proofs.GoingEvents.{told_on}
use Rattle.pie_bottomup.proofs.Shown.{looks, sees_out}

-- ---- the file that it is about to look at was staged before

-- it asks the same still
asking_then : (u : Update) (c : Core) (w : Waiting) (e : Event) (later : Staged) → IsExactCore u c
    → ((k : ℕ) → runs (mark_of c.frames.walk.marks k) ≡ true → (p : List ℕ) → content later k p ≡ content c.stage k p) → IsAskingNow u c w e
    → IsAskingNow u (record c { stage = later }) w e
asking_then u c w e later ex beside asks = record {
  asking =
      let x = site_of u c in
      let b = build_of c in
      asking_stay x b (record b { stage = later }) (callers_up c.frames.parked.items) w e ex.are.tables
      (stagings_step x b later ex.are.tables beside) asks.asking;
  effect = asks.effect;
  none = λ n is. asks.none n (record { task = is.task; named = is.named; unrecorded = is.unrecorded; idle = is.idle });
  marked = asks.marked;
}

pub fetched_looks : {E : Type 0} (held now : Option Directory) (old mid new : Core) (task : TaskNo) (from : ℕ) (w : Waiting) (e : Event) (path : List ℕ)
    (r : Result Turn E) → now ≡ held → mid ≡ record old { stage = mid.stage } → Holds task old.frames → IsOwn old task from w.notes
    → FetchesExact held old task.0 from mid → Fetches held old task.0 from path mid → IfOk r (LooksWhole now mid task from w e path new)
    → IfOk r (AsksWhole held old task from w e new)
fetched_looks held now old mid new task from w e path r here same holds own exact fetches =
    if_ok_more (LooksWhole now mid task from w e path new) (AsksWhole held old task from w e new)
    (λ turn looks u build site ex begins asks.
    let fetched = fetches u site holds.taken.stands settled ex in
    subst (λ (z : Core). LooksWhole now z task from w e path new turn) same looks fetched.seen u build
    (record { holds = here ∙ site.holds; apart = site.apart; besides = site.besides })
    (subst (IsExactCore u) same (exact u site holds.taken.stands settled ex)) begins (asking_then u old w e mid.stage ex fetched.beside asks)) r
  where
    settled : (k : ℕ) → Contains (drop from (row_at old.frames.walk.rows task.0).needs) k → IsSettled old.frames.walk.marks k
    settled k h =
        (All-contains (HasEnded old.tables.records old.frames.walk.marks) w.notes.needs k own.noted.ended
        (subst (λ (ns : List ℕ). Contains ns k) own.row.same h)).settled

-- ---- what it is told

-- what holds of each sight holds of what a task sees that reads
sight_more : (by : By) (path : List ℕ) (P Q : Sighted → Type 0) → ((o : Sighted) → P o → Q o) → (s : Sight) → SightSays by path s P → SightSays by path s Q
sight_more by path P Q f (sights.File found) h = f (Some (found_in found)) h
sight_more by path P Q f (sights.Long stamp) h = (h.0, f (Some (Some h.0)) h.1, h.2)
sight_more by path P Q f sights.Clash h = f None h

module _ {E : Type 0} (held : Option Directory) (c new : Core) (task : TaskNo) (from : ℕ) (w : Waiting) (path : List ℕ) (shown : Sighted → Type 0) (t : Told)
    (r : Result Turn E) (holds : Holds task c.frames) (left : 0 < w.notes.left) (own : IsOwn c task from w.notes)
    (shows : (o : Sighted) → shown o → ShowsOut c.frames.walk.rows c.stage w.notes.number w.notes.needs path o) where
  pub exists_goes : ((d : Directory) → held ≡ Some d → IsToldPresence d shown w path t) → IfOk r (ToldWhole c task from t new)
      → IfOk r (LooksWhole held c task from w (events.Exists path) path new)
  exists_goes tells =
      if_ok_more (ToldWhole c task from t new) (LooksWhole held c task from w (events.Exists path) path new)
      (λ turn told there u now site ex begins asks.
      let h = tells u.directory site.holds in
      let x = site_of u c in
      let b = build_of c in
      let sees = sees_out u c task from w (events.Exists path) path holds left own now ex asks there shown shows h.sees.sight h.sees.sees in
      told u now ex begins (looked_owns c task from w kinds.Exists path (option_map (told_flag path) h.presence) t h.told own)
      (told_on u c task w (events.Exists path) t holds own.number asks
      (exists_told x b (callers_up c.frames.parked.items) w path (SeesOut x b w.notes path) t
      (looks u c task from w (events.Exists path) path holds left own now ex asks there) (λ o is. is)
      (record { presence = h.presence; sees = record { sight = h.sees.sight; sees = sees; is = h.sees.is }; told = h.told })))) r

  pub digest_goes : ((d : Directory) → held ≡ Some d → IsToldDigest d shown w path t) → IfOk r (ToldWhole c task from t new)
      → IfOk r (LooksWhole held c task from w (events.Digest path) path new)
  digest_goes tells =
      if_ok_more (ToldWhole c task from t new) (LooksWhole held c task from w (events.Digest path) path new)
      (λ turn told there u now site ex begins asks.
      let h = tells u.directory site.holds in
      let x = site_of u c in
      let b = build_of c in
      let sees = sees_out u c task from w (events.Digest path) path holds left own now ex asks there shown shows h.sees.sight h.sees.sees in
      told u now ex begins (looked_owns c task from w kinds.Digest path (option_map (told_hash path) h.hash) t h.told own)
      (told_on u c task w (events.Digest path) t holds own.number asks
      (digest_told x b (callers_up c.frames.parked.items) w path (SeesOut x b w.notes path) t
      (looks u c task from w (events.Digest path) path holds left own now ex asks there) (λ o is. is)
      (record { hash = h.hash; sees = record { sight = h.sees.sight; sees = sees; is = h.sees.is }; told = h.told })))) r

  pub read_goes : (by : By) → ((d : Directory) → held ≡ Some d → IsToldSight d shown w path by t) → IfOk r (ToldWhole c task from t new)
      → IfOk r (LooksWhole held c task from w (events.Read path by) path new)
  read_goes by tells =
      if_ok_more (ToldWhole c task from t new) (LooksWhole held c task from w (events.Read path by) path new)
      (λ turn told there u now site ex begins asks.
      let h = tells u.directory site.holds in
      let x = site_of u c in
      let b = build_of c in
      let sees = sees_out u c task from w (events.Read path by) path holds left own now ex asks there shown shows in
      told u now ex begins (read_owns c task from w by path h.sight t h.told own)
      (told_on u c task w (events.Read path by) t holds own.number asks
      (reading_told x b (callers_up c.frames.parked.items) w path by (SeesOut x b w.notes path) t now.plan.compiled
      (looks u c task from w (events.Read path by) path holds left own now ex asks there) (λ o is. is)
      (record {
        sight = h.sight;
        sees = sight_more by path (Sees u.directory path shown) (Sees u.directory path (SeesOut x b w.notes path)) sees h.sight h.sees;
        told = h.told;
      })))) r
