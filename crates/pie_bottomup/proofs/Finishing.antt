-- What a settled build makes may be stored.
use Rattle.std.proofs.Common.{◌≡◌, ◌≢◌, ℕ, ◌<◌, ◌≤◌, true, List, [], ◌∷◌, Option, None, Some, length, get_or, sym, ap, ◌∙◌, subst, refl, inl, inr, arith}
use Rattle.std.specs.Prelude.{slice_get, IfSome, IsSome}
use Rattle.std.specs.List.{All, Contains}
use Rattle.std.proofs.lemmas.List.{take_all}
use Rattle.std.proofs.lemmas.List.Elements.{All-contains, Contains-get_or}
use Rattle.std.proofs.lemmas.Option.{slice_get_within, get_or_from_slice_get}
use Rattle.pie_check_laws.proofs.Members.{none_in, here_or_there}
use Rattle.pie_value.specs.declared.task.Task.{Task}
use Rattle.pie_value.specs.declared.verdict.Refusal.{Refusal}
use Rattle.pie_value.specs.declared.verdict.Verdict.{Verdict}
use Rattle.pie_value.specs.declared.verdict.Verdict.TheVariants.{Refused}
use Rattle.pie_reach.specs.inner.Reaches.{Reaches}
use Rattle.pie_reach.specs.inner.Reaches.Leads.{itself, step}
use Rattle.pie_record.specs.declared.records.Records.{Records}
use Rattle.pie_record.specs.declared.task_record.Outcome.{Outcome}
use Rattle.pie_record.specs.declared.task_record.Outcome.TheVariants as ends
use Rattle.pie_record.specs.declared.task_record.TaskRecord.{TaskRecord}
use Rattle.pie_record.specs.inner.Names.{AreDistinct}
use Rattle.pie_record.specs.inner.Records.{record_of}
use Rattle.pie_tables.specs.Tabled.{IsRecordAt}
use Rattle.pie_walk.specs.declared.marks.Mark.TheVariants.{New}
use Rattle.pie_walk.specs.declared.stack.Entry.{Entry}
use Rattle.pie_walk.specs.Marks.{mark_of, IsSettled}
use Rattle.pie_walk.specs.States.{waiting}
use Rattle.pie_walk.proofs.MarkSteps.{Stage, stage_of, idle_is_open}
use Rattle.pie_walk.proofs.MarkSteps.Stage.{is_new, is_settled, is_open}
use Rattle.pie_view.specs.Content.{Staged}
use Rattle.pie_checks.specs.declared.built.Built.{Built}
use Rattle.pie_results.specs.inner.Failures.{is_done, refusal_in, refusal_by, Fails, FailsFirst}
use Rattle.pie_results.specs.inner.Live.{AreLive}
use Rattle.pie_results.specs.inner.Made.{Makes, GoesOn, Checks, EndsAs, Collects}
use Rattle.pie_results.specs.inner.Ordered.{IsOfLive}
use Rattle.pie_results.specs.inner.Stored.{HaveEnded, CanBeStored, StoredWhere}
use Rattle.pie_bottomup.specs.declared.state.Core.{Core}
use Rattle.pie_bottomup.specs.inner.Ended.{StoredIf}
use Rattle.pie_bottomup.specs.inner.Recorded.{HasEnded, IsStill, IsMet}
use Rattle.pie_bottomup.specs.inner.Running.{IsKnown}
use Rattle.pie_bottomup.specs.inner.States.{HasSettled, RootFailed}
use Rattle.pie_bottomup.proofs.Settling.{one_number}

-- ---- roots

-- no root failed
none_failed : (names : List Task) (records : Records) (roots : List Task) → FailsFirst names records roots None → (t : Task) → Contains roots t
    → Fails names records t None
none_failed names records [] first t h = absurd (none_in t h)
none_failed names records (u ∷ us) first t h = elim first [
  | inl one ↦ absurd (let clash = one.1 in cc)
  | inr on ↦ elim (here_or_there u t us h) [
    | inl e ↦ subst (λ (x : Task). Fails names records x None) e on.0
    | inr later ↦ none_failed names records us on.1 t later
  ]
]

-- the record of its number refuses nothing
unrefused : (names : List Task) (records : Records) → AreDistinct names → (t : Task) (n : ℕ) → slice_get names n ≡ Some t → Fails names records t None
    → refusal_by (record_of records n) ≡ None
unrefused names records distinct t n named fails = elim fails [
  | inl at ↦ subst (λ (k : ℕ). refusal_by (record_of records k) ≡ None) (one_number names distinct at.0 n t at.1 named) (sym at.2)
  | inr none ↦ absurd (none.0 (n, slice_get_within names n t named, get_or_from_slice_get names n t t named))
]

done_of : (o : Outcome) → refusal_in o ≡ None → is_done o ≡ true
done_of (ends.Done v) e = refl
done_of (ends.Failed fault) e = absurd (cc)
done_of (ends.Cycled tasks) e = absurd (cc)

-- ---- a settled build

module _ (c : Core) (over : HasSettled c) (distinct : AreDistinct c.tables.names) where
  -- a settled task neither runs nor has to
  settled_still : (n : ℕ) → IsSettled c.frames.walk.marks n → IsStill c.frames.walk n
  settled_still n is = record {
    calm = λ flag. idle_is_open c.frames.walk.marks n (over.rests.stands.holds.calm n flag) is;
    free = λ taken. none_in n (subst (λ (es : List Entry). Contains (waiting es) n) over.empty taken);
  }

  -- a task that was met is settled
  met_settled : (n : ℕ) → mark_of c.frames.walk.marks n ≢ New → IsSettled c.frames.walk.marks n
  met_settled n met = by (stage_of (mark_of c.frames.walk.marks n))
    where
      by : Stage (mark_of c.frames.walk.marks n) → IsSettled c.frames.walk.marks n
      by (is_new e) = absurd (met e)
      by (is_settled e) = e
      by (is_open a b) = let at = over.rests.stands.holds.stands n a b in absurd (none_in at.0 (subst (λ (es : List Entry). Contains es at.0) over.empty at.1))

  -- what a settled task that is done requires is so too
  reached : (n k : ℕ) → Reaches c.frames.walk.rows n k → HasEnded c.tables.records c.frames.walk.marks n → HasEnded c.tables.records c.frames.walk.marks k
  reached n k itself is = is
  reached n k (step {b = m} calls on) is = reached m k on (record {
    output = over.site.agree.recorded.done n m is.output (settled_still n is.settled) calls;
    settled = over.rests.stands.holds.closed n m is.settled calls;
  })

  module _ (all : length c.plan.roots.items ≤ c.at) (first : FailsFirst c.tables.names c.tables.records c.plan.roots.items None) where
    root_met : (t : Task) → Contains c.plan.roots.items t → IsMet c.tables.names c.frames.walk.marks t
    root_met t h =
        All-contains (IsMet c.tables.names c.frames.walk.marks) c.plan.roots.items t
        (subst (All (IsMet c.tables.names c.frames.walk.marks)) (take_all c.at c.plan.roots.items all) over.site.agree.met) h

    root_ended : (t : Task) (n : ℕ) → Contains c.plan.roots.items t → slice_get c.tables.names n ≡ Some t → HasEnded c.tables.records c.frames.walk.marks n
    root_ended t n h named =
        let met = root_met t h in
        let settled : IsSettled c.frames.walk.marks n =
        subst (IsSettled c.frames.walk.marks) (one_number c.tables.names distinct met.number n t met.named named) (met_settled met.number met.met) in
        let inside : n < length c.frames.walk.rows = omega (arith, slice_get_within c.tables.names n t named, over.site.sized) in
        let r = over.site.agree.recorded.each n inside (settled_still n settled) in
        let unfailed = unrefused c.tables.names c.tables.records distinct t n named (none_failed c.tables.names c.tables.records c.plan.roots.items first t h) in
        record {
          output = record { rec = r.0; kept = r.1; done = done_of r.0.outcome (sym (ap refusal_by r.1) ∙ unfailed) };
          settled = settled;
        }

    live_ended : (live : List ℕ) → AreLive c.tables.names c.plan.roots.items c.frames.walk.rows live → (n : ℕ) → Contains live n
        → HasEnded c.tables.records c.frames.walk.marks n
    live_ended live are n h =
        let from = are.exactly.only n h in
        let root = are.are.only from.0 from.1 in
        reached from.0 n from.2 (root_ended root.0 from.0 root.1 root.2)

    none_taken : (n : ℕ) → IsSettled c.frames.walk.marks n → Contains (waiting c.frames.walk.stack) n → ⊥
    none_taken n is = (settled_still n is).free

    pub have_ended : HaveEnded c.tables.names c.tables.records c.frames.walk.rows c.plan.roots.items
    have_ended = record {
      named = λ k d l.
          let t = get_or c.plan.roots.items k d in
          let met = root_met t (Contains-get_or c.plan.roots.items k d l) in
          (met.number, slice_get_within c.tables.names met.number t met.named, get_or_from_slice_get c.tables.names met.number t t met.named);
      ended = λ live are n h.
          let is = live_ended live are n h in
          let r = is.output in
          record {
            rec = r.rec;
            kept = r.kept;
            done = r.done;
            needs = (over.site.agree.recorded.rows n r.rec r.kept r.done (none_taken n is.settled)).needs;
          };
    }

    pub live_known : (live : List ℕ) → AreLive c.tables.names c.plan.roots.items c.frames.walk.rows live → (r : TaskRecord) → IsOfLive c.tables.records live r
        → IsKnown c.plan r.task
    live_known live are r o =
        let is = live_ended live are o.number o.is_live in
        let at : IsRecordAt c.tables.names o.number r = subst (λ x. IfSome x (IsRecordAt c.tables.names o.number)) o.found (over.site.tables.records o.number) in
        over.site.agree.known o.number r.task at.named is.output (settled_still o.number is.settled)

-- ---- what it makes

refused_stored : (c : Core) (b : Built) (r : Refusal) → b.verdict ≡ Refused r → StoredIf b.verdict c.plan b
refused_stored c b r e = subst (λ (v : Verdict). StoredIf v c.plan b) (sym e) tt

accepted_stored : (c : Core) (b : Built) (staged : Staged) (live : List ℕ) → HasSettled c → AreDistinct c.tables.names → length c.plan.roots.items ≤ c.at
    → FailsFirst c.tables.names c.tables.records c.plan.roots.items None → AreLive c.tables.names c.plan.roots.items c.frames.walk.rows live
    → Collects c.tables c.frames.walk.rows staged c.plan.roots.items live b → StoredWhere b.verdict c.tables.names c.plan.roots.items b
    → StoredIf b.verdict c.plan b
accepted_stored c b staged live over distinct all first are made stored =
    let can : CanBeStored c.tables.names c.plan.roots.items b =
    subst (λ (v : Verdict). StoredWhere v c.tables.names c.plan.roots.items b) made.accepts stored in
    subst (λ (v : Verdict). StoredIf v c.plan b) (sym made.accepts) (record {
      order = can.order;
      few = can.few;
      known = λ k d l. live_known c over distinct all first live are (get_or b.rows.items k d) (made.kept.only k d l);
      closed = can.closed;
    })

checks_stored : (c : Core) (b : Built) (staged : Staged) → HasSettled c → AreDistinct c.tables.names → length c.plan.roots.items ≤ c.at
    → FailsFirst c.tables.names c.tables.records c.plan.roots.items None → Checks c.tables c.frames.walk.rows staged c.plan.roots.items b
    → StoredWhere b.verdict c.tables.names c.plan.roots.items b → StoredIf b.verdict c.plan b
checks_stored c b staged over distinct all first checks stored = by checks.answer checks.ends
  where
    by : (answer : Option Refusal) → EndsAs answer c.tables c.frames.walk.rows staged c.plan.roots.items checks.live b → StoredIf b.verdict c.plan b
    by None made = accepted_stored c b staged checks.live over distinct all first checks.are made stored
    by (Some r) e = refused_stored c b r e

-- a root that failed refuses the build
none_refused : (c : Core) → AreDistinct c.tables.names → RootFailed c → FailsFirst c.tables.names c.tables.records c.plan.roots.items None → ⊥
none_refused c distinct failed first =
    let un = unrefused c.tables.names c.tables.records distinct failed.root failed.number failed.named
    (none_failed c.tables.names c.tables.records c.plan.roots.items first failed.root failed.among) in
    absurd (let clash = subst IsSome un failed.failed in cc)

pub made_stored : (c : Core) (b : Built) (staged : Staged) → HasSettled c → AreDistinct c.tables.names
    → Makes c.tables c.frames.walk.rows staged c.plan.roots.items b
    → (HaveEnded c.tables.names c.tables.records c.frames.walk.rows c.plan.roots.items → StoredWhere b.verdict c.tables.names c.plan.roots.items b)
    → StoredIf b.verdict c.plan b
made_stored c b staged over distinct makes stored = by makes.why makes.first makes.goes
  where
    by : (why : Option Refusal) → FailsFirst c.tables.names c.tables.records c.plan.roots.items why
        → GoesOn why c.tables c.frames.walk.rows staged c.plan.roots.items b → StoredIf b.verdict c.plan b
    by (Some r) first e = refused_stored c b r e
    by None first checks = elim over.over [
      | inl all ↦ checks_stored c b staged over distinct all first checks (stored (have_ended c over distinct all first))
      | inr failed ↦ absurd (none_refused c distinct failed first)
    ]
