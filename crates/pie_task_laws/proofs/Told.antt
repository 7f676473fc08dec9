-- A task that was told something goes on as in the model, or fails with a right record.
use Rattle.std.proofs.Common.{◌≡◌, ℕ, suc, ◌-◌, ◌<◌, Bool, true, false, cond, Some, None, List, [], ◌∷◌, ◌++◌, map, take, refl, sym, ap, subst, ◌∙◌}
use Rattle.std.specs.Prelude.{is_some}
use Rattle.std.specs.Option.{option_map}
use Rattle.pie_base.specs.declared.fault.FaultKind.{FaultKind}
use Rattle.pie_base.specs.declared.fault.FaultKind.TheVariants as faults
use Rattle.pie_base.specs.Path.{is_source}
use Rattle.pie_value.specs.declared.event.Answer.{Answer}
use Rattle.pie_value.specs.declared.event.Answer.TheVariants as answers
use Rattle.pie_value.specs.declared.event.By.{By}
use Rattle.pie_value.specs.declared.event.By.TheVariants as stamped
use Rattle.pie_value.specs.declared.event.Event.TheVariants as events
use Rattle.pie_value.specs.declared.stamp.Stamp.{Stamp}
use Rattle.pie_value.specs.Tree.{TPath}
use Rattle.pie_value.specs.Limits.{is_small}
use Rattle.pie_files.specs.Directory.{file_at, entries_of}
use Rattle.pie_record.specs.declared.dep.Dep.{Dep}
use Rattle.pie_record.specs.declared.dep.DepKind.TheVariants as kinds
use Rattle.pie_model.specs.declared.words.Look.{Look}
use Rattle.pie_model.specs.declared.words.Look.TheVariants as looks
use Rattle.pie_model.specs.declared.words.Answer.{Answer as ModelAnswer}
use Rattle.pie_model.specs.declared.words.Answer.TheVariants.{Entries}
use Rattle.pie_model.specs.declared.words.Event.TheVariants.{LookAt, ListOf, Fail}
use Rattle.pie_model.specs.declared.words.FaultKind.TheVariants as model_faults
use Rattle.pie_model.specs.Seen.{seen_file, visible_at}
use Rattle.pie_model.specs.Evaluation.{answered, absent_answer, present_answer}
use Rattle.pie_model.specs.Records.{Observation, Absent, Hash, Looked, Listed, observed as observation, contents_stamp}
use Rattle.pie_model.specs.inner.RecordLaws.{Passes}
use Rattle.pie_step_laws.specs.Frames.{gone_on}
use Rattle.pie_settle_laws.specs.Going.Ends.{clashing, listing_too_much}
use Rattle.pie_settle_laws.proofs.Goings.{absent_look, present_look, listing_made}
use Rattle.pie_model_pipeline.specs.Words.{look_by}
use Rattle.pie_model_pipeline.specs.Answers.{answer_of}
use Rattle.pie_model_pipeline.specs.Rows.{observation_of}
use Rattle.pie_model_pipeline.specs.World.{world, next}
use Rattle.pie_builder_laws.specs.Names.{called_on}
use Rattle.pie_builder_laws.specs.Looks.{IsLook, Sight}
use Rattle.pie_builder_laws.specs.Tables.{recorded}
use Rattle.pie_builder_laws.proofs.Lookings.{listing_is, limit_is}
use Rattle.pie_running.specs.declared.frame.RunningTask.{RunningTask}
use Rattle.pie_running.specs.declared.frame.Waiting.{Waiting}
use Rattle.pie_running.specs.declared.frame.Caller.{Caller}
use Rattle.pie_running.specs.declared.frame.Told.{Told}
use Rattle.pie_running.specs.declared.frame.Told.TheVariants as told
use Rattle.pie_running.specs.inner.Noted.{Noted, absent_dep, file_dep, observed, read_kind}
use Rattle.pie_running.specs.inner.Sights.{Sighted, found_in, hash_in, IsLong, Sees, SightSays, listing_in}
use Rattle.pie_running.specs.inner.Told.{HasFailed, IsTold, IsToldOrFails, IsToldReading, IsToldSmall, IsToldList, listed_dep, paths_list}
use Rattle.pie_running.specs.inner.Told.{told_flag, told_reading, told_hash, too_much}
use Rattle.pie_running.specs.declared.looking.Sight.{Sight as Found}
use Rattle.pie_running.specs.declared.looking.Sight.TheVariants.{File, Long, Clash as Clashes}
use Rattle.pie_running.specs.inner.Looks.{IsToldPresence, IsToldSight, IsToldDigest}
use Rattle.pie_running.proofs.Sighting.{map_twice, flag_is, reading_as, hash_is, same_sight}
use Rattle.pie_core_laws.specs.Update.{present}
use Rattle.pie_core_laws.specs.Exact.{busy_by}
use Rattle.pie_task_laws.specs.Sites.{Site, Build, IsThere}
use Rattle.pie_task_laws.specs.Going.{GoesAbove, Runs}
use Rattle.pie_task_laws.specs.Coming.{IsAsking, EndsRight, failed_by}
use Rattle.pie_task_laws.specs.Sights.{SeesOut}
use Rattle.pie_task_laws.specs.Telling.{GoesAs, Looks}
use Rattle.pie_task_laws.proofs.Frames.{told_frame}
use Rattle.pie_task_laws.proofs.Ending.{adds_one, fails_right, some_left, fails_own}
use Rattle.pie_task_laws.proofs.Seeing.{seen_by, seen_visible}
use Rattle.pie_task_laws.proofs.Lengthy.{long_ends}

module _ (x : Site) (b : Build) (cs : List Caller) (w : Waiting) (R : Runs x b cs w.code.now w.machine w.notes)
    (left : 0 < w.notes.left) where
  one_more : R.frame.left ≡ suc (w.notes.left - 1)
  one_more = some_left x b cs w.code.now w.machine w.notes R left

  -- a task that observed something and was told what it is
  told_runs : (f : RunningTask) (d : Dep) (a : Answer) (y : ModelAnswer) (o : Observation)
      → IsTold w f (observed d w.notes) a → called_on d.what ≡ [] → a ≡ answer_of y → observation_of d ≡ o
      → GoesAbove x b R.below (gone_on R.frame (answered R.frame.progress y) (R.frame.seen ++ o ∷ []) (w.notes.left - 1))
      → Runs x b cs f.code.now f.machine f.notes
  told_runs f d a y o t none same note goes =
      subst (λ c. Runs x b cs c f.machine f.notes) (sym t.code) (subst (λ n. Runs x b cs w.code.now f.machine n) (sym t.notes) (record {
        below = R.below;
        frame = gone_on R.frame (answered R.frame.progress y) (R.frame.seen ++ o ∷ []) (w.notes.left - 1);
        mean = R.mean;
        means = told_frame x b w.code.now w.machine w.notes w.notes.left R.frame R.means (w.notes.left - 1) f.machine d a y o t.follows none same note;
        go = R.go;
        goes = goes;
        taken = record { running = R.taken.running; once = R.taken.once };
      }))

  -- it has failed with these notes
  pub failed_as : (n : Noted) (k : FaultKind) → EndsRight x b n (failed_by n k) → (t : Told) → HasFailed n k t → GoesAs x b cs t
  failed_as n k r (told.Goes f) h = absurd h
  failed_as n k r (told.Fails m j) h =
      subst (λ (y : Noted). EndsRight x b y (failed_by y j)) (sym h.0) (subst (λ i. EndsRight x b n (failed_by n i)) (sym h.1) r)

  look_goes : (l : Look) (p : List ℕ) → next x.update.functions R.frame.task R.frame.progress.answers ≡ LookAt l p → (seen : Sight)
      → visible_at (file_at x.update.directory) R.frame.progress.own R.frame.progress.kids p ≡ seen_file seen → (f : RunningTask) (y : Dep × Answer)
      → IsLook l p seen y.0 y.1 → called_on y.0.what ≡ [] → IsTold w f (observed y.0 w.notes) y.1 → Runs x b cs f.code.now f.machine f.notes
  look_goes l p q None v f y i none t =
      told_runs f y.0 y.1 (absent_answer l) (observation (Looked l p) Absent) t none i.answer i.observation (record {
        base = R.goes.base;
        is_base = R.goes.is_base;
        depth = R.goes.depth;
        goes = absent_look world (present x.update) (recorded b.names b.records) (Passes (busy_by b.names b.walk)) R.goes.base
            (take R.goes.depth R.below) R.frame R.goes.goes (w.notes.left - 1) l p one_more q v;
      })
  look_goes l p q (Some z) v f y i none t =
      told_runs f y.0 y.1 (present_answer world z.0 l) (observation (Looked l p) (contents_stamp world p z.0 z.1 l)) t none i.answer i.observation (record {
        base = R.goes.base;
        is_base = R.goes.is_base;
        depth = R.goes.depth;
        goes = present_look world (present x.update) (recorded b.names b.records) (Passes (busy_by b.names b.walk)) R.goes.base
            (take R.goes.depth R.below) R.frame R.goes.goes (w.notes.left - 1) l p z.0 z.1 one_more q v;
      })

  -- a look: the task goes on with what it sees, or fails for a clash
  look_told : (l : Look) (p : List ℕ) → next x.update.functions R.frame.task R.frame.progress.answers ≡ LookAt l p → (o : Sighted)
      → visible_at (file_at x.update.directory) R.frame.progress.own R.frame.progress.kids p ≡ seen_by o → (tells : Sight → Dep × Answer)
      → ((seen : Sight) → o ≡ Some seen → IsLook l p seen (tells seen).0 (tells seen).1) → ((seen : Sight) → called_on (tells seen).0.what ≡ [])
      → (missed : Dep) → observation_of missed ≡ observation (Looked l p) Absent → (t : Told)
      → IsToldOrFails w missed (option_map tells o) t → GoesAs x b cs t
  look_told l p q (Some seen) v tells is none missed lost (told.Goes f) h =
      look_goes l p q seen v f (tells seen) (is seen refl) (none seen) h
  look_told l p q (Some seen) v tells is none missed lost (told.Fails n k) h = absurd h
  look_told l p q None v tells is none missed lost t h =
      failed_as (observed missed w.notes) faults.Clash
      (fails_right x b cs w.code.now w.machine w.notes R (observed missed w.notes) (missed ∷ []) (observation (Looked l p) Absent ∷ []) faults.Clash
      (clashing (w.notes.left - 1) l p one_more q v) (adds_one w.notes missed) (ap (λ y. y ∷ []) lost))
      t h

  -- a listing: the task goes on with the entries, or fails where they are too many
  list_goes : (d : List ℕ) → next x.update.functions R.frame.task R.frame.progress.answers ≡ ListOf d
      → (small : Bool)
      → is_small (paths_list (entries_of x.update.directory d)) ≡ small → (t : Told) → IsToldSmall small w d (entries_of x.update.directory d) t
      → GoesAs x b cs t
  list_goes d q true e (told.Goes f) h =
      let es : List (List ℕ) = entries_of x.update.directory d in
      told_runs f (listed_dep d es) (answers.Entries (map TPath es)) (Entries es) (observation (Listed d) (Hash (world.hash (world.listing_bytes es))))
      h refl (listing_is d es).answer (listing_is d es).observation (record {
        base = R.goes.base;
        is_base = R.goes.is_base;
        depth = R.goes.depth;
        goes = listing_made world (present x.update) (recorded b.names b.records) (Passes (busy_by b.names b.walk)) R.goes.base
            (take R.goes.depth R.below) R.frame R.goes.goes (w.notes.left - 1) d es one_more q
            (limit_is x.update.functions x.update.directory d ∙ ap (λ z. cond z (Some es) None) e);
      })
  list_goes d q true e (told.Fails n k) h = absurd h
  list_goes d q false e t h =
      failed_as (observed (absent_dep kinds.List d) w.notes) faults.Big
      (fails_right x b cs w.code.now w.machine w.notes R (observed (absent_dep kinds.List d) w.notes) (absent_dep kinds.List d ∷ [])
      (observation (Listed d) Absent ∷ []) faults.Big
      (listing_too_much (w.notes.left - 1) d one_more q
      (limit_is x.update.functions x.update.directory d ∙ ap (λ z. cond z (Some (entries_of x.update.directory d)) None) e))
      (adds_one w.notes (absent_dep kinds.List d)) refl)
      t h

-- ---- the events that look

read_lost : (by : By) (path : List ℕ) → observation_of (absent_dep (read_kind by) path) ≡ observation (Looked (look_by by) path) Absent
read_lost stamped.Hash path = refl
read_lost stamped.Mark path = refl
read_lost stamped.Raw path = refl

pub exists_told : (x : Site) (b : Build) (cs : List Caller) (w : Waiting) (path : List ℕ) (shown : Sighted → Type 0) (t : Told)
    → Looks x b cs w (events.Exists path) → ((o : Sighted) → shown o → SeesOut x b w.notes path o)
    → IsToldPresence x.update.directory shown w path t → GoesAs x b cs t
exists_told x b cs w path shown t L sees h =
    look_told x b cs w L.asking.runs L.left looks.Exists path L.asking.asks h.sees.sight
    (seen_visible x b cs w.code.now w.machine w.notes L.asking.runs L.sound L.outputs shown path h.sees.sight sees h.sees.sees)
    (λ seen. told_flag path (is_some seen)) (λ seen _. flag_is path seen) (λ seen. refl)
    (absent_dep kinds.Exists path) refl t
    (subst (λ o. IsToldOrFails w (absent_dep kinds.Exists path) o t) (ap (option_map (told_flag path)) h.sees.is
    ∙ map_twice is_some (told_flag path) h.sees.sight) h.told)

pub read_told : (x : Site) (b : Build) (cs : List Caller) (w : Waiting) (path : List ℕ) (by : By) (shown : Sighted → Type 0) (sight : Sighted) (t : Told)
    → Looks x b cs w (events.Read path by) → ((o : Sighted) → shown o → SeesOut x b w.notes path o) → Sees x.update.directory path shown sight
    → IsToldOrFails w (absent_dep (read_kind by) path) (option_map (told_reading by path) sight) t → GoesAs x b cs t
read_told x b cs w path by shown sight t L sees p h =
    look_told x b cs w L.asking.runs L.left (look_by by) path L.asking.asks sight
    (seen_visible x b cs w.code.now w.machine w.notes L.asking.runs L.sound L.outputs shown path sight sees p)
    (told_reading by path) (λ seen e. reading_as by path seen (λ f g. same_sight sight seen e (p.kept f g))) (λ seen. refl)
    (absent_dep (read_kind by) path) (read_lost by path) t h

-- too many bytes: the task fails, and what it noted is the stamp of the file
long_told : (x : Site) (b : Build) (cs : List Caller) (w : Waiting) (path : List ℕ) (by : By) (shown : Sighted → Type 0) (f : List ℕ × ℕ) (stamp : Stamp)
    (t : Told) → IsThere x → Looks x b cs w (events.Read path by) → ((o : Sighted) → shown o → SeesOut x b w.notes path o)
    → Sees x.update.directory path shown (Some (Some f)) → IsLong by path stamp f → IsToldReading w by path (Long stamp) t → GoesAs x b cs t
long_told x b cs w path by shown f stamp t there L sees p long d =
    failed_as x b cs w L.asking.runs L.left (observed (file_dep (read_kind by) path stamp) w.notes) (too_much w.notes.left)
    (subst (λ s. EndsRight x b (observed (file_dep (read_kind by) path s) w.notes) (failed_by w.notes (too_much w.notes.left))) (sym long.stamp_is)
    (long_ends x b cs w path by f there L (record { out = λ o. sees (Some (Some f)) (p.out o); source = p.source; kept = p.kept }) long.long))
    t d

pub reading_told : (x : Site) (b : Build) (cs : List Caller) (w : Waiting) (path : List ℕ) (by : By) (shown : Sighted → Type 0) (t : Told) → IsThere x
    → Looks x b cs w (events.Read path by) → ((o : Sighted) → shown o → SeesOut x b w.notes path o)
    → IsToldSight x.update.directory shown w path by t → GoesAs x b cs t
reading_told x b cs w path by shown t there L sees h = each h.sight h.sees h.told
  where
    each : (s : Found) → SightSays by path s (Sees x.update.directory path shown) → IsToldReading w by path s t → GoesAs x b cs t
    each (File found) p d = read_told x b cs w path by shown (Some (found_in found)) t L sees p d
    each (Long stamp) p d = long_told x b cs w path by shown p.0 stamp t there L sees p.1 p.2 d
    each Clashes p d = read_told x b cs w path by shown None t L sees p d

pub digest_told : (x : Site) (b : Build) (cs : List Caller) (w : Waiting) (path : List ℕ) (shown : Sighted → Type 0) (t : Told)
    → Looks x b cs w (events.Digest path) → ((o : Sighted) → shown o → SeesOut x b w.notes path o)
    → IsToldDigest x.update.directory shown w path t → GoesAs x b cs t
digest_told x b cs w path shown t L sees h =
    look_told x b cs w L.asking.runs L.left looks.Digest path L.asking.asks h.sees.sight
    (seen_visible x b cs w.code.now w.machine w.notes L.asking.runs L.sound L.outputs shown path h.sees.sight sees h.sees.sees)
    (λ seen. told_hash path (hash_in seen)) (λ seen _. hash_is path seen) (λ seen. refl)
    (absent_dep kinds.Digest path) refl t
    (subst (λ o. IsToldOrFails w (absent_dep kinds.Digest path) o t) (ap (option_map (told_hash path)) h.sees.is
    ∙ map_twice hash_in (told_hash path) h.sees.sight) h.told)

pub list_told : (x : Site) (b : Build) (cs : List Caller) (w : Waiting) (dir : List ℕ) (t : Told) → IsAsking x b cs w (events.List dir)
    → 0 < w.notes.left → IsToldList w dir (listing_in x.update.directory dir) t → GoesAs x b cs t
list_told x b cs w dir t A left h = by (is_source dir) refl t h
  where
    by : (z : Bool) → is_source dir ≡ z → (u : Told) → IsToldList w dir (cond z (Some (entries_of x.update.directory dir)) None) u → GoesAs x b cs u
    by true f u k =
        list_goes x b cs w A.runs left dir (A.asks ∙ ap (λ z. cond z (ListOf dir) (Fail model_faults.BadList)) f)
        (is_small (paths_list (entries_of x.update.directory dir))) refl u k
    by false f u k =
        failed_as x b cs w A.runs left w.notes faults.BadList
        (fails_own x b cs w.code.now w.machine w.notes A.runs faults.BadList left
        (A.asks ∙ ap (λ z. cond z (ListOf dir) (Fail model_faults.BadList)) f)) u k
