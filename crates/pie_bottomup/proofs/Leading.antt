-- A task that the walk takes is reached from a root: each task on the stack requires the one above it, and what a row requires is a union edge.
use Rattle.std.proofs.Common.{◌≡◌, ◌⊎◌, ℕ, Bool, true, false, List, [], ◌∷◌, ◌++◌, map, length, get_or, Option, None, Some, refl, sym, ap, ◌∙◌, subst, inl, inr, arith}
use Rattle.std.specs.Prelude.{slice_get, drop}
use Rattle.std.specs.List.{Contains}
use Rattle.std.proofs.lemmas.List.{get_or_default}
use Rattle.std.proofs.lemmas.List.Elements.{All-contains, Contains-append_cases}
use Rattle.std.proofs.lemmas.Option.{slice_get-get_or}
use Rattle.pie_value.specs.declared.task.Task.{Task}
use Rattle.pie_value.specs.Canonical.{enc_task}
use Rattle.pie_graph.specs.declared.edges.TaskNo.{TaskNo}
use Rattle.pie_graph.specs.Rows.{Row, row_at, Calls}
use Rattle.pie_record.specs.declared.task_record.TaskRecord.{TaskRecord}
use Rattle.pie_record.specs.inner.Records.{record_of as kept_of}
use Rattle.pie_walk.specs.declared.marks.Mark.{Mark}
use Rattle.pie_walk.specs.declared.stack.Entry.{Entry}
use Rattle.pie_walk.specs.declared.stack.Entry.TheVariants.{Visit, Waits}
use Rattle.pie_walk.specs.Marks.{mark_of}
use Rattle.pie_walk.specs.States.{WalkState, no_of}
use Rattle.pie_walk.specs.Standing.{AreEntries, HasCome, needs_at}
use Rattle.pie_frames.specs.declared.frames.Frames.{Frames}
use Rattle.pie_frames.specs.declared.parked.Parked.{Parked}
use Rattle.pie_frames.specs.inner.Standing.{Rests, IsParked, number_of, numbers_up}
use Rattle.pie_frames.specs.inner.Turns.{HasTaken}
use Rattle.pie_model.specs.Paths.{among}
use Rattle.pie_check_laws.proofs.Members.{none_in, only_one, into_map, from_map}
use Rattle.pie_builder_laws.proofs.Naming.{named_back}
use Rattle.pie_compare_laws.proofs.Ways.{one_some}
use Rattle.pie_core_laws.specs.Update.{Update}
use Rattle.pie_core_laws.specs.Exact.{runs}
use Rattle.pie_core_laws.specs.Keeping.{Separates}
use Rattle.pie_core_laws.proofs.Moved.{runs_waits}
use Rattle.pie_bottomup.specs.declared.state.Core.{Core}
use Rattle.pie_bottomup.specs.inner.Causes.{Leads, HasUnionEdge, IsReached}
use Rattle.pie_bottomup.specs.inner.Exact.{IsExactCore, BeginsAsOld, WaitsAsOld}
use Rattle.pie_bottomup.specs.inner.Going.{site_of, build_of, callers_up, IsBuildNow, IsResting}
use Rattle.pie_bottomup.specs.inner.Ran.{IsReachedAt}
use Rattle.pie_bottomup.specs.inner.Running.{IsCaller as IsCallerOf}
use Rattle.pie_bottomup.specs.inner.States.{IsSite, IsBased}
use Rattle.pie_bottomup.proofs.Edging.{HasFrame, has_frame, within_reversed, from_reversed, resting_edge, waits_edge}
use Rattle.pie_bottomup.proofs.Rings.{leads_on}
use Rattle.pie_bottomup.proofs.Sites.{site_taken}

-- ---- one edge more

pub reached_next : (u : Update) (t v : Task) → IsReached u t → HasUnionEdge u t v → IsReached u v
reached_next u t v is edge = record { root = is.root; listed = is.listed; leads = inr (by is.leads) }
  where
    by : (is.root ≡ t) ⊎ ((between : List Task) × Leads (HasUnionEdge u) is.root between t)
        → (between : List Task) × Leads (HasUnionEdge u) is.root between v
    by (inl e) = ([], subst (λ (x : Task). HasUnionEdge u x v) (sym e) edge)
    by (inr l) = (l.0 ++ t ∷ [], leads_on (HasUnionEdge u) is.root l.0 t v l.1 edge)

-- ---- what rows require where no task is in hand

module _ (u : Update) (c : Core) (e : IsExactCore u c) (apart : Separates u) (site : IsSite c) (rests : Rests c.frames) (going : IsResting u c) where
  -- one that waits
  parked_edge : (p : Parked) → Contains c.frames.parked.items p → (a b : ℕ) (t v : Task) → number_of p ≡ a → runs (mark_of c.frames.walk.marks a) ≡ true
      → slice_get c.tables.names a ≡ Some t → slice_get c.tables.names b ≡ Some v → Calls c.frames.walk.rows a b → HasUnionEdge u t v
  parked_edge p h a b t v is run named to calls =
      waits_edge u c p.caller frame e a p.from is run
      (subst (λ k. BeginsAsOld c.tables c.frames.walk.rows k p.from) is (All-contains (WaitsAsOld c.tables c.frames.walk.rows) c.frames.parked.items p e.parked h)) b t v named to
      (λ k. after (Contains-append_cases p.caller.waiting.notes.needs (p.callee.0 ∷ []) b (subst (λ ns. Contains ns b) row k))) calls
    where
      frame : HasFrame (site_of u c) (build_of c) p.caller
      frame =
          has_frame (site_of u c) (build_of c) going.rest.wait.frames (callers_up c.frames.parked.items) going.rest.wait.mean going.rest.wait.go p.caller
          (within_reversed (map (λ (q : Parked). q.caller) c.frames.parked.items) p.caller
          (into_map (λ (q : Parked). q.caller) c.frames.parked.items p h))

      row : drop p.from (row_at c.frames.walk.rows a).needs ≡ p.caller.waiting.notes.needs ++ p.callee.0 ∷ []
      row =
          ap (λ k. drop p.from (row_at c.frames.walk.rows k).needs) (sym is)
          ∙ (All-contains (IsParked c.frames.walk.rows) c.frames.parked.items p rests.each h).row.same

      required : slice_get c.tables.names p.callee.0 ≡ Some p.caller.required
      required =
          (All-contains (IsCallerOf c.plan c.tables.names c.tables.records c.frames.walk.marks) c.frames.parked.items p site.agree.callers h).required

      after : Contains p.caller.waiting.notes.needs b ⊎ Contains (p.callee.0 ∷ []) b → Contains p.caller.waiting.notes.needs b ⊎ (p.caller.required ≡ v)
      after (inl noted) = inl noted
      after (inr one) =
          inr (one_some p.caller.required v (sym required ∙ ap (slice_get c.tables.names) (only_one p.callee.0 b one) ∙ to))

  pub rest_edge : (a b : ℕ) (t v : Task) → slice_get c.tables.names a ≡ Some t → slice_get c.tables.names b ≡ Some v → Calls c.frames.walk.rows a b
      → HasUnionEdge u t v
  rest_edge a b t v named to calls = by (runs (mark_of c.frames.walk.marks a)) refl
    where
      rested : runs (mark_of c.frames.walk.marks a) ≡ false → (o : Option TaskRecord) → kept_of c.tables.records a ≡ o → HasUnionEdge u t v
      rested idle None none =
          absurd (none_in b (subst (λ ns. Contains ns b)
          (going.bare a (record { task = t; named = named; unrecorded = none; idle = idle })).alone calls))
      rested idle (Some rec) kept = resting_edge u c e apart rests.stands a b t v rec kept idle named to calls

      waits : runs (mark_of c.frames.walk.marks a) ≡ true → Contains (numbers_up c.frames.parked.items) a → HasUnionEdge u t v
      waits run up =
          let m = from_map number_of c.frames.parked.items a (from_reversed (map number_of c.frames.parked.items) a up) in
          parked_edge m.0 m.1 a b t v m.2 run named to calls

      by : (r : Bool) → runs (mark_of c.frames.walk.marks a) ≡ r → HasUnionEdge u t v
      by false idle = rested idle (kept_of c.tables.records a) refl
      by true run =
          waits run (subst (λ ns. Contains ns a) (sym rests.tied) (runs_waits c.frames.walk rests.stands a run))

-- ---- the stack

-- a task requires the one above it
calls_above : (needs : List ℕ) (marks : List Mark) (u : ℕ) (e : Entry) → HasCome needs marks (Some u) e → Contains needs u
calls_above needs marks u (Visit task next) come = let at = come.here u refl in (next, at.0, get_or_default needs next u 0 at.0 ∙ at.1)
calls_above needs marks u (Waits task) come = come.here u refl

-- the top of a stack, where its base is a root, and calls are union edges
pub stack_reached : (u : Update) (roots names : List Task) (rows : List Row) (marks : List Mark) (above : Option ℕ) (e : Entry) (es : List Entry)
    → length names ≡ length rows → ((r : Task) → Contains roots r → among (enc_task r) u.roots ≡ true) → IsBased roots names (e ∷ es)
    → ((a b : ℕ) (t v : Task) → slice_get names a ≡ Some t → slice_get names b ≡ Some v → Calls rows a b → HasUnionEdge u t v)
    → AreEntries rows marks above (e ∷ es) → (t : Task) → slice_get names (no_of e) ≡ Some t → IsReached u t
stack_reached u roots names rows marks above e [] sized listed based edges are t named =
    let at = based (no_of e) refl in
    record { root = at.root; listed = listed at.root at.listed; leads = inl (one_some at.root t (sym at.named ∙ named)) }
stack_reached u roots names rows marks above e (f ∷ fs) sized listed based edges are t named =
    let under = are.2 in
    let v : Task = get_or names (no_of f) t in
    let there : slice_get names (no_of f) ≡ Some v = slice_get-get_or names (no_of f) t (omega (arith, sized, under.0.inside)) in
    reached_next u v t (stack_reached u roots names rows marks (Some (no_of e)) f fs sized listed based edges under v there)
    (edges (no_of f) (no_of e) v t there named (calls_above (needs_at rows (no_of f)) marks (no_of e) f under.0.come))

-- a task that was taken is on top
pub taken_reached : (u : Update) (c : Core) (f : Frames) (task : TaskNo) → IsBuildNow u c.plan → IsExactCore u c → IsSite c → Rests c.frames
    → IsResting u c → HasTaken c.frames f task → IsReachedAt u (record c { frames = f }) task.0
taken_reached u c f task now e site rests going has t named =
    let after = site_taken c f task site has in
    let top = has.holds.top in
    let rows : f.walk.rows ≡ c.frames.walk.rows = ap (λ (s : WalkState). s.rows) has.taken.same in
    stack_reached u c.plan.roots.items c.tables.names f.walk.rows f.walk.marks None (Waits task) top.0 after.sized
    (λ r h. subst (λ bs. among (enc_task r) bs ≡ true) (sym now.roots) (named_back c.plan.roots.items r h))
    (subst (IsBased c.plan.roots.items c.tables.names) top.1 after.based)
    (λ a b x v from to calls.
    rest_edge u c e now.apart site rests going a b x v from to (subst (λ (rs : List Row). Calls rs a b) rows calls))
    (subst (AreEntries f.walk.rows f.walk.marks None) top.1 has.holds.taken.stands.holds.entries) t named
