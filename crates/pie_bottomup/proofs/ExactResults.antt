-- What an exact build makes once its roots are settled is what a clean build makes.
use Rattle.std.proofs.Common.{◌≡◌, ◌⊎◌, ℕ, zero, suc, ◌<◌, ◌≤◌, ◌+◌, ◌-◌, get_or, Bool, true, false, List, [], ◌∷◌, ◌++◌, Some, length, refl, sym, ap, ◌∙◌, subst, inl, inr, arith}
use Rattle.std.specs.Prelude.{slice_index_or, take, IsSome}
use Rattle.std.specs.List.{Contains}
use Rattle.std.proofs.lemmas.List.{take_more}
use Rattle.std.proofs.lemmas.List.Elements.{All-contains}
use Rattle.pie_value.specs.declared.task.Task.{Task}
use Rattle.pie_graph.proofs.Among.{contains_here, contains_later, contains_cases}
use Rattle.pie_graph.specs.Numbers.{IsMarked}
use Rattle.pie_graph.specs.Rows.{Row}
use Rattle.pie_record.specs.declared.records.Records.{Records}
use Rattle.pie_record.specs.declared.task_record.Outcome.{Outcome}
use Rattle.pie_record.specs.declared.task_record.Outcome.TheVariants as ends
use Rattle.pie_record.specs.inner.Names.{AreDistinct}
use Rattle.pie_record.specs.inner.Records.{record_of as kept_of}
use Rattle.pie_checks.specs.declared.built.Built.{Built}
use Rattle.pie_results.specs.inner.Failures.{refusal_in, refusal_by}
use Rattle.pie_results.specs.inner.Made.{Makes}
use Rattle.pie_results.specs.inner.Stored.{HaveEnded, StoredWhere}
use Rattle.pie_walk.specs.declared.marks.Mark.{Mark}
use Rattle.pie_walk.specs.declared.marks.Mark.TheVariants.{New, Visited, Runs, Settled}
use Rattle.pie_walk.specs.declared.stack.Entry.{Entry}
use Rattle.pie_walk.specs.Marks.{mark_of, IsSettled}
use Rattle.pie_walk.specs.States.{WalkState}
use Rattle.pie_model.specs.Trees.{is_done as ends_well}
use Rattle.pie_model_pipeline.specs.Rows.{outcome_of, record_of as model_record}
use Rattle.pie_core_laws.specs.Update.{Update}
use Rattle.pie_core_laws.specs.Exact.{runs}
use Rattle.pie_result_laws.specs.Verdicts.{IsSettledRoot, RootsSettle}
use Rattle.pie_result_laws.specs.Accepted.{AreStagedNow}
use Rattle.pie_result_laws.proofs.Failing.{made_verdict}
use Rattle.pie_result_laws.proofs.Storing.{accepted_clean}
use Rattle.pie_result_laws.proofs.Filing.{files_provided}
use Rattle.pie_bottomup.specs.declared.state.Core.{Core}
use Rattle.pie_bottomup.specs.inner.Ended.{StoredIf}
use Rattle.pie_bottomup.specs.inner.Recorded.{IsMet}
use Rattle.pie_bottomup.specs.inner.States.{HasSettled, RootFailed}
use Rattle.pie_bottomup.specs.inner.Exact.{IsExactCore}
use Rattle.pie_bottomup.specs.inner.Made.{MadeExact}
use Rattle.pie_bottomup.proofs.Finishing.{made_stored}
use Rattle.pie_bottomup.proofs.Exactly.{settled_or_not, marked_apart}
use Rattle.pie_bottomup.proofs.Settling.{one_number}

-- ---- roots

contains_end : (xs : List Task) (x : Task) → Contains (xs ++ x ∷ []) x
contains_end [] x = contains_here x []
contains_end (y ∷ ys) x = contains_later y x (ys ++ x ∷ []) (contains_end ys x)

none_in : (t : Task) → Contains [] t → ⊥
none_in t h = omega (arith, h.1)

-- among these roots one failed
record HasFailed (names : List Task) (records : Records) (s : WalkState) (roots : List Task) : Type 0 where
  root : Task
  listed : Contains roots root
  fails : (t : Task) → t ≡ root → (m : IsSettledRoot names records s t) → ends_well (model_record m.rec).outcome ≡ true → ⊥

settle_on : (names : List Task) (records : Records) (s : WalkState) (roots : List Task) (at : ℕ)
    → ((t : Task) → Contains (take at roots) t → IsSettledRoot names records s t)
    → (length roots ≤ at) ⊎ HasFailed names records s (take at roots) → RootsSettle names records s roots
settle_on names records s [] at met over = tt
settle_on names records s (r ∷ rs) zero met over = elim over [
  | inl all ↦ absurd (omega (arith, all))
  | inr failed ↦ absurd (none_in failed.root failed.listed)
]
settle_on names records s (r ∷ rs) (suc n) met over = (
  first,
  λ well. settle_on names records s rs n (λ t h. met t (contains_later r t (take n rs) h)) (next well over),
)
  where
    first : IsSettledRoot names records s r
    first = met r (contains_here r (take n rs))

    next : ends_well (model_record first.rec).outcome ≡ true → (length (r ∷ rs) ≤ suc n) ⊎ HasFailed names records s (take (suc n) (r ∷ rs))
        → (length rs ≤ n) ⊎ HasFailed names records s (take n rs)
    next well (inl all) = inl (omega (arith, all))
    next well (inr failed) = elim (contains_cases r failed.root (take n rs) failed.listed) [
      | inl same ↦ absurd (failed.fails r same first well)
      | inr later ↦ inr (record { root = failed.root; listed = later; fails = failed.fails })
    ]

refused_fails : (o : Outcome) → IsSome (refusal_in o) → ends_well (outcome_of o) ≡ true → ⊥
refused_fails (ends.Done v) some well = (let clash = some in cc)
refused_fails (ends.Failed fault) some well = (let clash : false ≡ true = well in cc)
refused_fails (ends.Cycled tasks) some well = (let clash : false ≡ true = well in cc)

none_stacked : (e : Entry) → Contains [] e → ⊥
none_stacked e h = omega (arith, h.1)

module _ (c : Core) (u : Update) (over : HasSettled c) (e : IsExactCore u c) where
  -- no task is on the stack
  met_settled : (n : ℕ) → (mark_of c.frames.walk.marks n ≡ New → ⊥) → IsSettled c.frames.walk.marks n
  met_settled n met = by (settled_or_not (mark_of c.frames.walk.marks n))
    where
      by : IsSettled c.frames.walk.marks n ⊎ (IsSettled c.frames.walk.marks n → ⊥) → IsSettled c.frames.walk.marks n
      by (inl is) = is
      by (inr un) =
          let at = over.rests.stands.holds.stands n met un in
          absurd (none_stacked at.0 (subst (λ (es : List Entry). Contains es at.0) over.empty at.1))

  settled_root : (t : Task) → Contains (take c.at c.plan.roots.items) t → IsSettledRoot c.tables.names c.tables.records c.frames.walk t
  settled_root t h =
      let met = All-contains (IsMet c.tables.names c.frames.walk.marks) (take c.at c.plan.roots.items) t over.site.agree.met h in
      let settled = met_settled met.number met.met in
      let ended = e.are.tables.ended met.number settled in
      record { number = met.number; named = met.named; settled = settled; rec = ended.0; kept = ended.1 }

  failed_root : RootFailed c → HasFailed c.tables.names c.tables.records c.frames.walk (take c.at c.plan.roots.items)
  failed_root failed = record {
    root = failed.root;
    listed = failed.begun;
    fails = λ t same m well.
        let one : m.number ≡ failed.number =
        one_number c.tables.names e.are.tables.tasks.distinct m.number failed.number t m.named (failed.named ∙ ap Some (sym same)) in
        refused_fails m.rec.outcome
        (subst (λ o. IsSome (refusal_by o)) (ap (kept_of c.tables.records) (sym one) ∙ m.kept) failed.failed) well;
  }

  pub roots_settle : RootsSettle c.tables.names c.tables.records c.frames.walk c.plan.roots.items
  roots_settle = settle_on c.tables.names c.tables.records c.frames.walk c.plan.roots.items c.at settled_root (elim over.over [
    | inl all ↦ inl all
    | inr failed ↦ inr (failed_root failed)
  ])

  -- a task that ran is settled
  ran_settled : (n : ℕ) → IsMarked c.tables.ran.items n → IsSettled c.frames.walk.marks n
  ran_settled n flag = by (settled_or_not (mark_of c.frames.walk.marks n)) (runs (mark_of c.frames.walk.marks n)) refl
    where
      not_new : (m : Mark) → runs m ≡ true → m ≡ New → ⊥
      not_new New run new = (let clash : false ≡ true = run in cc)
      not_new Visited run new = (let clash : false ≡ true = run in cc)
      not_new Runs run new = (let clash : Runs ≡ New = new in cc)
      not_new Settled run new = (let clash : false ≡ true = run in cc)

      by : IsSettled c.frames.walk.marks n ⊎ (IsSettled c.frames.walk.marks n → ⊥) → (b : Bool) → runs (mark_of c.frames.walk.marks n) ≡ b
          → IsSettled c.frames.walk.marks n
      by (inl is) b run = is
      by (inr un) true run = met_settled n (not_new (mark_of c.frames.walk.marks n) run)
      by (inr un) false rests =
          absurd (marked_apart (slice_index_or c.tables.ran.items n false) flag (e.are.written.idle n rests un).rested)

  staged_now : AreStagedNow u c.tables c.stage
  staged_now n rec path flag kept = e.are.written.ran n rec path (ran_settled n flag) flag kept

-- so it has the verdict of a clean build, and where it is accepted its records, outputs and files
pub made_exact : (c : Core) (b : Built) → HasSettled c → Makes c.tables c.frames.walk.rows c.stage c.plan.roots.items b
    → (HaveEnded c.tables.names c.tables.records c.frames.walk.rows c.plan.roots.items → StoredWhere b.verdict c.tables.names c.plan.roots.items b)
    → MadeExact c b
made_exact c b over makes stored = λ u e apart.
    let w = over.rests.stands in
    let settle = roots_settle c u over e in
    record {
      verdict = made_verdict u c.tables c.frames.walk c.stage c.plan.roots.items b e.are.tables w apart settle makes;
      clean = λ accepted. accepted_clean u c.tables c.frames.walk c.stage c.plan.roots.items b e.are.tables w apart settle makes stored accepted;
      files = λ accepted.
          files_provided u c.tables c.frames.walk c.stage c.plan.roots.items b e.are.tables w apart settle makes (staged_now c u over e) accepted;
    }

-- by the rows and the roots as they were handed on
pub made_of : (c : Core) (b : Built) (rows : List Row) (roots : List Task) → rows ≡ c.frames.walk.rows → roots ≡ c.plan.roots.items → HasSettled c
    → Makes c.tables rows c.stage roots b
    → (HaveEnded c.tables.names c.tables.records rows roots → StoredWhere b.verdict c.tables.names roots b) → MadeExact c b
made_of c b rows roots same asked over makes stored =
    made_exact c b over
    (subst (λ (rs : List Row). Makes c.tables rs c.stage c.plan.roots.items b) same
    (subst (λ (ts : List Task). Makes c.tables rows c.stage ts b) asked makes))
    (subst (λ (rs : List Row). HaveEnded c.tables.names c.tables.records rs c.plan.roots.items
    → StoredWhere b.verdict c.tables.names c.plan.roots.items b) same
    (subst (λ (ts : List Task). HaveEnded c.tables.names c.tables.records rows ts → StoredWhere b.verdict c.tables.names ts b) asked stored))

pub stored_of : (c : Core) (b : Built) (rows : List Row) (roots : List Task) → rows ≡ c.frames.walk.rows → roots ≡ c.plan.roots.items → HasSettled c
    → AreDistinct c.tables.names → Makes c.tables rows c.stage roots b
    → (HaveEnded c.tables.names c.tables.records rows roots → StoredWhere b.verdict c.tables.names roots b) → StoredIf b.verdict c.plan b
stored_of c b rows roots same asked over distinct makes stored =
    made_stored c b c.stage over distinct
    (subst (λ (rs : List Row). Makes c.tables rs c.stage c.plan.roots.items b) same
    (subst (λ (ts : List Task). Makes c.tables rows c.stage ts b) asked makes))
    (subst (λ (rs : List Row). HaveEnded c.tables.names c.tables.records rs c.plan.roots.items
    → StoredWhere b.verdict c.tables.names c.plan.roots.items b) same
    (subst (λ (ts : List Task). HaveEnded c.tables.names c.tables.records rows ts → StoredWhere b.verdict c.tables.names ts b) asked stored))

-- the root that was begun last
pub last_begun : (roots : List Task) (at : ℕ) (d : Task) → 0 < at → at ≤ length roots → Contains (take at roots) (get_or roots (at - 1) d)
last_begun roots at d l m =
    let before : at ≡ at - 1 + 1 = omega (arith, l) in
    subst (λ (n : ℕ). Contains (take n roots) (get_or roots (at - 1) d)) (sym before)
    (subst (λ (ts : List Task). Contains ts (get_or roots (at - 1) d)) (sym (take_more roots (at - 1) d (omega (arith, l, m))))
    (contains_end (take (at - 1) roots) (get_or roots (at - 1) d)))
