-- A ring that the task in hand closes: that task is one of it, so each of them is reached from a root.
use Rattle.std.proofs.Common.{◌≡◌, ◌∙◌, ◌⊎◌, ℕ, ◌<◌, true, List, [], ◌∷◌, ◌++◌, None, Some, slice_index, sym, ap, subst, inl, inr, arith}
use Rattle.std.specs.Prelude.{slice_get, All, drop, take}
use Rattle.std.specs.List.{Contains}
use Rattle.std.proofs.lemmas.List.{take-append-drop}
use Rattle.std.proofs.lemmas.List.Elements.{All-cons, All-nil, Contains-append_cases, Contains-append_left, Contains-append_right}
use Rattle.pie_value.specs.declared.task.Task.{Task}
use Rattle.pie_value.specs.Canonical.{enc_task}
use Rattle.pie_graph.specs.declared.edges.TaskNo.{TaskNo}
use Rattle.pie_graph.specs.Rows.{Row}
use Rattle.pie_order.specs.Cycles.{IsCycle, WouldCall}
use Rattle.pie_order.specs.Places.{PlacesAgree}
use Rattle.pie_running.specs.declared.frame.Caller.{Caller}
use Rattle.pie_walk.specs.declared.stack.Entry.TheVariants.{Waits}
use Rattle.pie_walk.specs.Standing.{AreEntries}
use Rattle.pie_walk.proofs.StateSteps.{top_runs}
use Rattle.pie_frames.specs.inner.Standing.{Holds}
use Rattle.pie_model.specs.Paths.{among}
use Rattle.pie_check_laws.proofs.Members.{only_one, here, there, here_or_there}
use Rattle.pie_builder_laws.proofs.Naming.{named_back}
use Rattle.pie_compare_laws.proofs.Ways.{one_some, task_of}
use Rattle.pie_core_laws.specs.Update.{Update}
use Rattle.pie_core_laws.specs.Exact.{runs}
use Rattle.pie_bottomup.specs.declared.state.Core.{Core}
use Rattle.pie_bottomup.specs.inner.Causes.{Leads, IsRing, AreTurned, HasUnionEdge, IsReached, ClosesRing}
use Rattle.pie_bottomup.specs.inner.Exact.{IsExactCore, BeginsAsOld}
use Rattle.pie_bottomup.specs.inner.Going.{callers_up, IsBuildNow, MayMeet}
use Rattle.pie_bottomup.specs.inner.States.{IsBased, IsOwn, IsSite}
use Rattle.pie_bottomup.proofs.Edging.{calls_edge, would_edge}
use Rattle.pie_bottomup.proofs.Leading.{reached_next, stack_reached}
use Rattle.pie_bottomup.proofs.Rings.{ring_numbers, ring_turned}

-- ---- what goes along the edges

module _ {A : Type 0} (goes : A → A → Type 0) (P : A → Type 0) (on : (x y : A) → P x → goes x y → P y) where
  -- from one to those by which it leads, and to the last
  along : (x : A) (xs : List A) (y : A) → Leads goes x xs y → P x → All P xs × P y
  along x [] y leads is = (All-nil P, on x y is leads)
  along x (z ∷ zs) y leads is =
      let next = on x z is leads.0 in
      let rest = along z zs y leads.1 next in (All-cons P z zs next rest.0, rest.1)

  -- from one of these to the last
  onward : (x : A) (xs : List A) (y t : A) → Leads goes x xs y → Contains (x ∷ xs) t → P t → P y
  onward x [] y t leads within is = on x y (subst P (sym (only_one x t within)) is) leads
  onward x (z ∷ zs) y t leads within is = by (λ later. onward z zs y t leads.1 later is) (here_or_there x t (z ∷ zs) within)
    where
      by : (Contains (z ∷ zs) t → P y) → (x ≡ t) ⊎ Contains (z ∷ zs) t → P y
      by further (inl same) = (along x (z ∷ zs) y leads (subst P (sym same) is)).1
      by further (inr later) = further later

  -- to all of a ring
  all_round : (xs : List A) (t : A) → IsRing goes xs → Contains xs t → P t → All P xs
  all_round [] t ring within is = absurd ring
  all_round (x ∷ xs) t ring within is =
      let first = onward x xs x t ring within is in All-cons P x xs first (along x xs x ring first).0

-- ---- the new edge

-- rows go down in the order, so a ring goes through the new edge
module _ (rows : List Row) (places : List ℕ) (agrees : PlacesAgree rows places) (from to : ℕ) where
  abbrev FallsOrPasses : ℕ → List ℕ → ℕ → Type 0
  FallsOrPasses x xs y = (slice_index places y < slice_index places x) ⊎ Contains (x ∷ xs) from

  falls : (x : ℕ) (xs : List ℕ) (y : ℕ) → Leads (WouldCall rows from to) x xs y → FallsOrPasses x xs y
  falls x [] y (inl calls) = inl (agrees.each x y calls)
  falls x [] y (inr is) = inr (subst (Contains (x ∷ [])) is.0 (here x []))
  falls x (z ∷ zs) y leads = by leads.0 (falls z zs y leads.1)
    where
      by : WouldCall rows from to x z → FallsOrPasses z zs y → FallsOrPasses x (z ∷ zs) y
      by (inr is) rest = inr (subst (Contains (x ∷ z ∷ zs)) is.0 (here x (z ∷ zs)))
      by (inl calls) (inl less) = inl (omega (arith, agrees.each x z calls, less))
      by (inl calls) (inr within) = inr (there x from (z ∷ zs) within)

  in_ring : (ns : List ℕ) → IsRing (WouldCall rows from to) ns → Contains ns from
  in_ring [] ring = absurd ring
  in_ring (n ∷ ns) ring = by (falls n ns n ring)
    where
      by : FallsOrPasses n ns n → Contains (n ∷ ns) from
      by (inl less) = absurd (omega (arith, less))
      by (inr within) = within

-- ---- tasks

-- one of the same ring from another place on
turned_has : (names : List Task) (ns : List ℕ) (ts : List Task) (n : ℕ) (t : Task) → AreTurned names ns ts → Contains ns n → slice_get names n ≡ Some t
    → Contains ts t
turned_has names ns ts n t is within named =
    subst (λ xs. Contains xs t) (sym is.turns.is)
    (turned
    (Contains-append_cases (take is.turns.at is.tasks) (drop is.turns.at is.tasks) t
    (subst (λ xs. Contains xs t) (sym (take-append-drop is.turns.at is.tasks)) listed)))
  where
    listed : Contains is.tasks t
    listed =
        let m = task_of names ns is.tasks n is.named within in
        subst (Contains is.tasks) (one_some m.task t (sym m.named ∙ named)) m.listed

    turned : Contains (take is.turns.at is.tasks) t ⊎ Contains (drop is.turns.at is.tasks) t
        → Contains (drop is.turns.at is.tasks ++ take is.turns.at is.tasks) t
    turned (inl front) = Contains-append_right (drop is.turns.at is.tasks) (take is.turns.at is.tasks) t front
    turned (inr back) = Contains-append_left (drop is.turns.at is.tasks) (take is.turns.at is.tasks) t back

module _ (u : Update) (c : Core) (no : TaskNo) (from : ℕ) (w : Caller) (callee : ℕ) (now : IsBuildNow u c.plan) (e : IsExactCore u c) (site : IsSite c)
    (holds : Holds no c.frames) (own : IsOwn c no from w.waiting.notes) (begins : BeginsAsOld c.tables c.frames.walk.rows no.0 from)
    (may : MayMeet u c (w ∷ callers_up c.frames.parked.items) callee) (required : slice_get c.tables.names callee ≡ Some w.required) where
  -- the task in hand
  hand_named : slice_get c.tables.names no.0 ≡ Some w.waiting.notes.task
  hand_named = subst (λ (m : ℕ). slice_get c.tables.names m ≡ Some w.waiting.notes.task) own.number own.noted.task

  hand_reached : IsReached u w.waiting.notes.task
  hand_reached =
      let top = holds.top in
      stack_reached u c.plan.roots.items c.tables.names c.frames.walk.rows c.frames.walk.marks None (Waits no) top.0 site.sized
      (λ r h. subst (λ bs. among (enc_task r) bs ≡ true) (sym now.roots) (named_back c.plan.roots.items r h))
      (subst (IsBased c.plan.roots.items c.tables.names) top.1 site.based)
      (calls_edge u c no from w callee e now.apart site holds own begins may)
      (subst (AreEntries c.frames.walk.rows c.frames.walk.marks None) top.1 holds.taken.stands.holds.entries) w.waiting.notes.task hand_named

  pub closes_ring : (ns : List ℕ) (ts : List Task) → AreTurned c.tables.names ns ts → IsCycle (WouldCall c.frames.walk.rows no.0 callee) ns
      → ClosesRing u c.tables ts
  closes_ring ns ts is cycle =
      let within =
      in_ring c.frames.walk.rows c.frames.walk.places holds.taken.stands.holds.agrees no.0 callee ns
      (ring_numbers (WouldCall c.frames.walk.rows no.0 callee) ns cycle.ring) in
      let listed = turned_has c.tables.names ns ts no.0 w.waiting.notes.task is within hand_named in
      let ring : IsRing (HasUnionEdge u) ts =
      ring_turned c.tables.names (WouldCall c.frames.walk.rows no.0 callee) (HasUnionEdge u)
      (would_edge u c no from w callee e now.apart site holds own begins may required) ns ts is cycle in
      record {
        ring = ring;
        reached = all_round (HasUnionEdge u) (IsReached u) (λ t v is edge. reached_next u t v is edge) ts w.waiting.notes.task ring listed hand_reached;
        ran = record {
          task = w.waiting.notes.task;
          listed = listed;
          has = record {
            number = no.0;
            named = hand_named;
            ran = may.marked no.0 (ap runs (top_runs c.frames.walk no holds.top holds.taken.stands.holds));
          };
        };
      }
