-- A running task stays at the front of its evaluation, event by event.
use Rattle.std.proofs.Common.{ℕ, suc, ◌≡◌, true, false, Some, None, List, [], ◌∷◌, ◌++◌, inl, inr, sym, ◌∙◌, ap, subst, refl, append_assoc, append-nil}
use Rattle.pie_model.specs.Paths.{Path, among}
use Rattle.pie_model.specs.Tasks.{Task, Value, Look, How, FaultKind, Clash, Big, Entries, Event, Done, Fail, LookAt, ListOf, Write, Require}
use Rattle.pie_model.specs.Trees.{Node, Trace, ends, needs, Nothing, Holds, Clashing, Outcome, Ended, Failed, Cycled, Many, outcome_of, end_of, trace_of}
use Rattle.pie_model.specs.Trees.{writes_of, is_done, StandsIn, StandsBelow, entered, entered_below, enter}
use Rattle.pie_model.specs.Seen.{visible_at}
use Rattle.pie_model.specs.Evaluation.{World, Project, Progress, start, answered, wrote, required, absent_answer, present_answer, output_answer, listing}
use Rattle.pie_model.specs.Evaluation.{on_seen, on_listing, on_outcome, on_event, round, evaluation_with}
use Rattle.pie_model.specs.Records.{Absent, Hash, Looked, Listed, Required, Observation, observed, observations_of, contents_stamp, outcome_stamp, value_stamp}
use Rattle.pie_model.specs.Records.{hashed, record_of}
use Rattle.pie_model.specs.Running.{rest_of_run, entered_all, IsRunning}
use Rattle.pie_model.proofs.Basics.{clash}
use Rattle.pie_model.proofs.MovedLemmas.{opened_apart, opened_among}
use Rattle.pie_model.proofs.Ways.{task_of-evaluation_with, stands_itself}

pub entered_all-end : (ns : List Node) (n : Node) (all : List Task) → entered_all (ns ++ n ∷ []) all ≡ entered n (entered_all ns all)
entered_all-end [] n all = refl
entered_all-end (x ∷ ns) n all = entered_all-end ns n (entered x all)

module _ (w : World) (P : Project) (room : ℕ) (above : List Task) (t : Task) where
  pub starts : among t above ≡ false → IsRunning w P room above t w.most_events start []
  starts h =
      let e = opened_apart (suc room) w P above t h in
      record {
        observations = ap (λ z. observations_of w (trace_of z)) e;
        written = ap (λ z. writes_of (trace_of z)) e;
        end = ap outcome_of e;
        stands = λ m s. subst (λ z. StandsIn m z) (sym e) (inr s);
        enters = λ all. ap (λ z. entered z all) e;
      }

  -- what the rest is at an event
  rest_at : (n : ℕ) (g : Progress) (e : Event) → P.next t g.answers ≡ e
      → rest_of_run w P room above t (suc n) g ≡ on_event w P (evaluation_with room w P (t ∷ above)) t g (rest_of_run w P room above t n) e
  rest_at n g e h = ap (on_event w P (evaluation_with room w P (t ∷ above)) t g (rest_of_run w P room above t n)) h

  -- the same facts with a rest in another form
  record At (T : Trace) (g : Progress) (seen : List Observation) : Type 0 where
    observations : observations_of w (trace_of (evaluation_with (suc room) w P above t)) ≡ seen ++ observations_of w T
    written : writes_of (trace_of (evaluation_with (suc room) w P above t)) ≡ g.own ++ writes_of T
    end : outcome_of (evaluation_with (suc room) w P above t) ≡ end_of T
    stands : (m : Node) → StandsBelow m T → StandsIn m (evaluation_with (suc room) w P above t)
    enters : (all : List Task) → entered (evaluation_with (suc room) w P above t) all ≡ entered_below T (entered_all g.kids (enter t all))

  from : {n : ℕ} {g : Progress} {seen : List Observation} → IsRunning w P room above t n g seen → At (rest_of_run w P room above t n g) g seen
  from r = record { observations = r.observations; written = r.written; end = r.end; stands = r.stands; enters = r.enters }

  at_event : (n : ℕ) (g : Progress) (seen : List Observation) (e : Event) → P.next t g.answers ≡ e → IsRunning w P room above t (suc n) g seen
      → At (on_event w P (evaluation_with room w P (t ∷ above)) t g (rest_of_run w P room above t n) e) g seen
  at_event n g seen e h r = subst (λ T. At T g seen) (rest_at n g e h) (from r)

  one_more : (seen : List Observation) (o : Observation) (os : List Observation) → seen ++ o ∷ os ≡ (seen ++ o ∷ []) ++ os
  one_more seen o os = sym (append_assoc seen (o ∷ []) os)

  -- after a look
  pub sees_nothing : (n : ℕ) (g : Progress) (seen : List Observation) (l : Look) (p : Path) → P.next t g.answers ≡ LookAt l p
      → visible_at P.file g.own g.kids p ≡ Nothing → IsRunning w P room above t (suc n) g seen
      → IsRunning w P room above t n (answered g (absent_answer l)) (seen ++ observed (Looked l p) Absent ∷ [])
  sees_nothing n g seen l p h v r =
      let a = subst (λ s. At (on_seen w t l p g (rest_of_run w P room above t n) s) g seen) v (at_event n g seen (LookAt l p) h r) in
      record {
        observations = a.observations ∙ one_more seen (observed (Looked l p) Absent) _;
        written = a.written;
        end = a.end;
        stands = a.stands;
        enters = a.enters;
      }

  pub sees_contents : (n : ℕ) (g : Progress) (seen : List Observation) (l : Look) (p : Path) (b : List ℕ) (m : ℕ) → P.next t g.answers ≡ LookAt l p
      → visible_at P.file g.own g.kids p ≡ Holds b m → IsRunning w P room above t (suc n) g seen
      → IsRunning w P room above t n (answered g (present_answer w b l)) (seen ++ observed (Looked l p) (contents_stamp w p b m l) ∷ [])
  sees_contents n g seen l p b m h v r =
      let a = subst (λ s. At (on_seen w t l p g (rest_of_run w P room above t n) s) g seen) v (at_event n g seen (LookAt l p) h r) in
      record {
        observations = a.observations ∙ one_more seen (observed (Looked l p) (contents_stamp w p b m l)) _;
        written = a.written;
        end = a.end;
        stands = a.stands;
        enters = a.enters;
      }

  pub lists_entries : (n : ℕ) (g : Progress) (seen : List Observation) (d : Path) (es : List Path) → P.next t g.answers ≡ ListOf d
      → listing w P d ≡ Some es → IsRunning w P room above t (suc n) g seen
      → IsRunning w P room above t n (answered g (Entries es)) (seen ++ observed (Listed d) (Hash (w.hash (w.listing_bytes es))) ∷ [])
  lists_entries n g seen d es h v r =
      let a = subst (λ s. At (on_listing t d g (rest_of_run w P room above t n) s) g seen) v (at_event n g seen (ListOf d) h r) in
      record {
        observations = a.observations ∙ one_more seen (observed (Listed d) (Hash (w.hash (w.listing_bytes es)))) _;
        written = a.written;
        end = a.end;
        stands = a.stands;
        enters = a.enters;
      }

  pub writes_contents : (n : ℕ) (g : Progress) (seen : List Observation) (p : Path) (b : List ℕ) → P.next t g.answers ≡ Write p b
      → IsRunning w P room above t (suc n) g seen → IsRunning w P room above t n (wrote g p b) seen
  writes_contents n g seen p b h r =
      let a = at_event n g seen (Write p b) h r in
      record {
        observations = a.observations;
        written = a.written ∙ sym (append_assoc g.own ((p, b) ∷ []) (writes_of (rest_of_run w P room above t n (wrote g p b))));
        end = a.end;
        stands = a.stands;
        enters = a.enters;
      }

  -- a required task's evaluation stands in the requirer's
  pub required_stands : (n : ℕ) (g : Progress) (seen : List Observation) (k : How) (u : Task) → P.next t g.answers ≡ Require k u
      → IsRunning w P room above t (suc n) g seen
      → StandsIn (evaluation_with room w P (t ∷ above) u) (evaluation_with (suc room) w P above t)
  required_stands n g seen k u h r =
      let a = at_event n g seen (Require k u) h r in
      a.stands (evaluation_with room w P (t ∷ above) u) (inl (stands_itself (evaluation_with room w P (t ∷ above) u)))

  -- a required task that ended with a value
  pub is_answered : (n : ℕ) (g : Progress) (seen : List Observation) (k : How) (u : Task) (v : Value) → P.next t g.answers ≡ Require k u
      → outcome_of (evaluation_with room w P (t ∷ above) u) ≡ Ended v → IsRunning w P room above t (suc n) g seen
      → IsRunning w P room above t n (required g (evaluation_with room w P (t ∷ above) u) (output_answer v k))
      (seen ++ observed (Required k u) (value_stamp w v k) ∷ [])
  is_answered n g seen k u v h e r =
      let child = evaluation_with room w P (t ∷ above) u in
      let a = subst (λ o. At (needs k u (evaluation_with room w P (t ∷ above) u)
      (on_outcome k g (evaluation_with room w P (t ∷ above) u) (rest_of_run w P room above t n) o)) g seen) e (at_event n g seen (Require k u) h r) in
      record {
        observations = a.observations ∙ ap (λ o. seen ++ observed (Required k u) (outcome_stamp w k o) ∷
            observations_of w (rest_of_run w P room above t n (required g (evaluation_with room w P (t ∷ above) u) (output_answer v k)))) e
            ∙ one_more seen (observed (Required k u) (value_stamp w v k)) _;
        written = a.written;
        end = a.end;
        stands = λ m s. a.stands m (inr s);
        enters = λ all. a.enters all ∙ ap (entered_below
            (rest_of_run w P room above t n (required g (evaluation_with room w P (t ∷ above) u) (output_answer v k))))
            (sym (entered_all-end g.kids (evaluation_with room w P (t ∷ above) u) (enter t all)));
      }

  -- ---- how a run ends

  record_by : (g : Progress) (seen : List Observation) (e : Outcome) → At (ends e) g seen
      → record_of w (evaluation_with (suc room) w P above t) ≡ record { task = t; observations = seen; writes = hashed w g.own; outcome = e }
  record_by g seen e a =
      λ i. record {
        task = task_of-evaluation_with (suc room) w P above t i;
        observations = (a.observations ∙ append-nil seen) i;
        writes = hashed w ((a.written ∙ append-nil g.own) i);
        outcome = a.end i;
      }

  pub ends_done : (n : ℕ) (g : Progress) (seen : List Observation) (v : Value) → P.next t g.answers ≡ Done v
      → IsRunning w P room above t (suc n) g seen
      → record_of w (evaluation_with (suc room) w P above t) ≡ record { task = t; observations = seen; writes = hashed w g.own; outcome = Ended v }
  ends_done n g seen v h r = record_by g seen (Ended v) (at_event n g seen (Done v) h r)

  pub ends_failed : (n : ℕ) (g : Progress) (seen : List Observation) (k : FaultKind) → P.next t g.answers ≡ Fail k
      → IsRunning w P room above t (suc n) g seen
      → record_of w (evaluation_with (suc room) w P above t) ≡ record { task = t; observations = seen; writes = hashed w g.own; outcome = Failed t k }
  ends_failed n g seen k h r = record_by g seen (Failed t k) (at_event n g seen (Fail k) h r)

  last_more : (g : Progress) (seen : List Observation) (o : Observation) (T : Trace) (e : Outcome) → At T g seen
      → observations_of w T ≡ o ∷ [] → writes_of T ≡ [] → end_of T ≡ e
      → record_of w (evaluation_with (suc room) w P above t)
      ≡ record { task = t; observations = seen ++ o ∷ []; writes = hashed w g.own; outcome = e }
  last_more g seen o T e a os ws es =
      λ i. record {
        task = task_of-evaluation_with (suc room) w P above t i;
        observations = (a.observations ∙ ap (λ z. seen ++ z) os) i;
        writes = hashed w ((a.written ∙ ap (λ z. g.own ++ z) ws ∙ append-nil g.own) i);
        outcome = (a.end ∙ es) i;
      }

  pub ends_clashing : (n : ℕ) (g : Progress) (seen : List Observation) (l : Look) (p : Path) → P.next t g.answers ≡ LookAt l p
      → visible_at P.file g.own g.kids p ≡ Clashing → IsRunning w P room above t (suc n) g seen
      → record_of w (evaluation_with (suc room) w P above t)
      ≡ record { task = t; observations = seen ++ observed (Looked l p) Absent ∷ []; writes = hashed w g.own; outcome = Failed t Clash }
  ends_clashing n g seen l p h v r =
      last_more g seen _ _ (Failed t Clash) (subst (λ s. At (on_seen w t l p g (rest_of_run w P room above t n) s) g seen) v
      (at_event n g seen (LookAt l p) h r)) refl refl refl

  pub ends_too_big : (n : ℕ) (g : Progress) (seen : List Observation) (d : Path) → P.next t g.answers ≡ ListOf d
      → listing w P d ≡ None → IsRunning w P room above t (suc n) g seen
      → record_of w (evaluation_with (suc room) w P above t)
      ≡ record { task = t; observations = seen ++ observed (Listed d) Absent ∷ []; writes = hashed w g.own; outcome = Failed t Big }
  ends_too_big n g seen d h v r =
      last_more g seen _ _ (Failed t Big) (subst (λ s. At (on_listing t d g (rest_of_run w P room above t n) s) g seen) v
      (at_event n g seen (ListOf d) h r)) refl refl refl

  stopped : (k : How) (u : Task) (g : Progress) (go : Progress → Trace) (n : Node) (e : Outcome) → outcome_of n ≡ e → is_done e ≡ false
      → (observations_of w (needs k u n (on_outcome k g n go e)) ≡ observed (Required k u) Absent ∷ [])
      × (writes_of (needs k u n (on_outcome k g n go e)) ≡ [])
      × (end_of (needs k u n (on_outcome k g n go e)) ≡ e)
  stopped k u g go n (Ended v) e h = clash true refl h
  stopped k u g go n (Failed x f) e h = (ap (λ o. observed (Required k u) (outcome_stamp w k o) ∷ []) e, refl, refl)
  stopped k u g go n (Cycled ts) e h = (ap (λ o. observed (Required k u) (outcome_stamp w k o) ∷ []) e, refl, refl)
  stopped k u g go n Many e h = (ap (λ o. observed (Required k u) (outcome_stamp w k o) ∷ []) e, refl, refl)

  -- a required task that did not end with a value gives its outcome
  pub ends_as_required : (n : ℕ) (g : Progress) (seen : List Observation) (k : How) (u : Task) (e : Outcome) → P.next t g.answers ≡ Require k u
      → outcome_of (evaluation_with room w P (t ∷ above) u) ≡ e → is_done e ≡ false → IsRunning w P room above t (suc n) g seen
      → record_of w (evaluation_with (suc room) w P above t)
      ≡ record { task = t; observations = seen ++ observed (Required k u) Absent ∷ []; writes = hashed w g.own; outcome = e }
  ends_as_required n g seen k u e h q d r =
      let s = stopped k u g (rest_of_run w P room above t n) (evaluation_with room w P (t ∷ above) u) e q d in
      last_more g seen _ _ e
      (subst (λ o. At (needs k u (evaluation_with room w P (t ∷ above) u)
      (on_outcome k g (evaluation_with room w P (t ∷ above) u) (rest_of_run w P room above t n) o)) g seen) q (at_event n g seen (Require k u) h r))
      s.0 s.1 s.2

  -- a required task that stands above ends in the cycle
  pub ends_in_cycle : (n : ℕ) (g : Progress) (seen : List Observation) (k : How) (u : Task) → P.next t g.answers ≡ Require k u
      → among u (t ∷ above) ≡ true → IsRunning w P room above t (suc n) g seen
      → outcome_of (evaluation_with (suc room) w P above t) ≡ Cycled (round u (t ∷ above) [])
  ends_in_cycle n g seen k u h i r =
      ap (λ z. z.outcome) (ends_as_required n g seen k u (Cycled (round u (t ∷ above) [])) h
      (ap outcome_of (opened_among room w P (t ∷ above) u i)) refl r)

  -- ---- what it has entered

  -- the rest of a run that has ended enters nothing more
  pub enters_ended : (n : ℕ) (g : Progress) (seen : List Observation) (e : Event) (o : Outcome) → P.next t g.answers ≡ e
      → on_event w P (evaluation_with room w P (t ∷ above)) t g (rest_of_run w P room above t n) e ≡ ends o
      → IsRunning w P room above t (suc n) g seen → (all : List Task)
      → entered (evaluation_with (suc room) w P above t) all ≡ entered_all g.kids (enter t all)
  enters_ended n g seen e o h q r all =
      (at_event n g seen e h r).enters all ∙ ap (λ T. entered_below T (entered_all g.kids (enter t all))) q

  -- at a require the required task is entered next
  pub enters_required : (n : ℕ) (g : Progress) (seen : List Observation) (k : How) (u : Task) → P.next t g.answers ≡ Require k u
      → IsRunning w P room above t (suc n) g seen → (all : List Task)
      → entered (evaluation_with (suc room) w P above t) all
      ≡ entered_below (on_outcome k g (evaluation_with room w P (t ∷ above) u) (rest_of_run w P room above t n)
      (outcome_of (evaluation_with room w P (t ∷ above) u)))
      (entered (evaluation_with room w P (t ∷ above) u) (entered_all g.kids (enter t all)))
  enters_required n g seen k u h r all = (at_event n g seen (Require k u) h r).enters all

  enters_nothing : (k : How) (g : Progress) (n : Node) (go : Progress → Trace) (e : Outcome) → is_done e ≡ false → (all : List Task)
      → entered_below (on_outcome k g n go e) all ≡ all
  enters_nothing k g n go (Ended v) d all = clash true refl d
  enters_nothing k g n go (Failed x f) d all = refl
  enters_nothing k g n go (Cycled ts) d all = refl
  enters_nothing k g n go Many d all = refl

  pub enters_stopped : (n : ℕ) (g : Progress) (seen : List Observation) (k : How) (u : Task) (e : Outcome) → P.next t g.answers ≡ Require k u
      → outcome_of (evaluation_with room w P (t ∷ above) u) ≡ e → is_done e ≡ false → IsRunning w P room above t (suc n) g seen → (all : List Task)
      → entered (evaluation_with (suc room) w P above t) all ≡ entered (evaluation_with room w P (t ∷ above) u) (entered_all g.kids (enter t all))
  enters_stopped n g seen k u e h q d r all =
      enters_required n g seen k u h r all
      ∙ ap (λ o. entered_below (on_outcome k g (evaluation_with room w P (t ∷ above) u) (rest_of_run w P room above t n) o)
      (entered (evaluation_with room w P (t ∷ above) u) (entered_all g.kids (enter t all)))) q
      ∙ enters_nothing k g (evaluation_with room w P (t ∷ above) u) (rest_of_run w P room above t n) e d _
