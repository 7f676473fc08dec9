-- Which paths a step asks for.
use Rattle.std.proofs.Common.{◌≡◌, ◌⊎◌, inl, inr, ℕ, zero, suc, ◌<◌, Bool, true, false, cond, List, Option, None, Some, refl, sym, ap, subst, ◌∙◌, take, arith}
use Rattle.std.specs.Prelude.{slice_get}
use Rattle.pie_value.specs.declared.event.Event.{Event}
use Rattle.pie_value.specs.declared.event.Event.TheVariants as events
use Rattle.pie_value.specs.Canonical.{enc_task}
use Rattle.pie_files.specs.declared.files.Call.{Call}
use Rattle.pie_named.specs.declared.named.Named.{Named}
use Rattle.pie_named.specs.inner.Names.{SameNames}
use Rattle.pie_named.specs.Asking.{AsksFor, IsNamedOrAbove, LooksAt}
use Rattle.pie_named.proofs.Calls.{no_calls, one_call, calls_then, asks_as}
use Rattle.pie_compare.specs.inner.Asked.{MayAskOf}
use Rattle.pie_walk.proofs.StateSteps.{top_runs}
use Rattle.pie_running.specs.declared.frame.Paused.{Paused}
use Rattle.pie_running.specs.declared.frame.Paused.TheVariants.{Asks}
use Rattle.pie_running.specs.declared.frame.Waiting.{Waiting}
use Rattle.pie_running.specs.inner.Asking.{AsksOnly, AsksTwice}
use Rattle.pie_model.specs.Paths.{among}
use Rattle.pie_model.specs.Trees.{trace_of}
use Rattle.pie_model.specs.Evaluation.{evaluation}
use Rattle.pie_model.specs.declared.words.Look.{Look}
use Rattle.pie_model.specs.declared.words.Look.TheVariants as looks
use Rattle.pie_model.specs.declared.words.Event.TheVariants as model
use Rattle.pie_model.specs.declared.words.FaultKind.TheVariants as model_faults
use Rattle.pie_model.specs.Reasons.{observed_paths}
use Rattle.pie_model.specs.inner.RecordLaws.{Passes}
use Rattle.pie_model_pipeline.specs.Words.{effect_of, look_by}
use Rattle.pie_model_pipeline.specs.World.{world}
use Rattle.pie_builder_laws.specs.Tables.{recorded}
use Rattle.pie_earlier_laws.proofs.Edging.{next_looked, next_listed}
use Rattle.pie_core_laws.specs.Update.{Update, present, IsInformed}
use Rattle.pie_core_laws.specs.Exact.{runs, busy_by}
use Rattle.pie_task_laws.specs.Coming.{IsAsking, Gives}
use Rattle.pie_task_laws.proofs.Pausing.{pauses}
use Rattle.pie_bottomup.specs.declared.state.Core.{Core}
use Rattle.pie_bottomup.specs.declared.state.First.TheVariants.{Tests}
use Rattle.pie_bottomup.specs.declared.state.InHand.{InHand}
use Rattle.pie_bottomup.specs.inner.Asked.{IsAskedBy, Observes, GoesAsking, IsTestedPath, IsTestedIn, IsNamedIn, IsSeenInHand, StepsAsking}
use Rattle.pie_bottomup.specs.inner.Exact.{IsExactCore}
use Rattle.pie_bottomup.specs.inner.Going.{Goes, IsBuildNow, IsWorking, StandsWhole, site_of, build_of, callers_up}
use Rattle.pie_bottomup.specs.inner.States.{IsCore, IsInHand, RunsOrRests}
use Rattle.pie_bottomup.proofs.GoingEvents.{in_hand_whole}

-- ---- calls of a running task

-- at the most one call
pub asks_once : {S : Type 0} (P : List ℕ → Type 0) (asked : S → Option (List Call)) (may : Bool) (call : Call) (old new : S)
    → (may ≡ true → LooksAt P call) → AsksOnly asked may call old new → AsksFor P (asked old) (asked new)
asks_once {S} P asked may call old new is asks = by may refl
  where
    by : (b : Bool) → may ≡ b → AsksFor P (asked old) (asked new)
    by false e = no_calls (LooksAt P) (asked old) (asked new) (asks.not e)
    by true e = elim asks.once [
      | inl same ↦ no_calls (LooksAt P) (asked old) (asked new) same
      | inr noted ↦ one_call (LooksAt P) call (asked old) (asked new) (is e) noted
    ]

-- at the most the same one twice
pub asks_twice : {S : Type 0} (P : List ℕ → Type 0) (asked : S → Option (List Call)) (may : Bool) (call : Call) (old new : S)
    → (may ≡ true → LooksAt P call) → AsksTwice asked may call old new → AsksFor P (asked old) (asked new)
asks_twice {S} P asked may call old new is asks = elim asks.only [
  | inl only ↦ asks_once P asked may call old new is only
  | inr twice ↦
      let both = twice.1 in
      calls_then (LooksAt P) (asked old) both.between (asked new) (one_call (LooksAt P) call (asked old) both.between (is twice.0) both.first)
      (one_call (LooksAt P) call both.between (asked new) (is twice.0) both.second)
]

-- ---- what they are of

over_none : (n : ℕ) → 0 < n → (m : ℕ) × (n ≡ suc m)
over_none zero h = absurd (omega (arith, h))
over_none (suc m) h = (m, refl)

-- the path that the task in hand asks for is one that its evaluation observes
module _ (u : Update) (c : Core) (h : InHand) (w : Waiting) (e : Event) (now : IsBuildNow u c.plan) (ex : IsExactCore u c) (working : IsWorking u c h.task)
    (gives : Gives h.task (Asks w e)) where
  asking : IsAsking (site_of u c) (build_of c) (callers_up c.frames.parked.items) w e
  asking = pauses (site_of u c) (build_of c) (callers_up c.frames.parked.items) now.plan.compiled ex.are.tables h.task (Asks w e) working.work.runs gives

  left : (m : ℕ) × (asking.runs.frame.left ≡ suc m)
  left = let n = over_none w.notes.left gives.comes.0.left in (n.0, asking.runs.means.left ∙ n.1)

  its_task : asking.runs.frame.task ≡ enc_task h.task.notes.task
  its_task = asking.runs.means.task ∙ ap (λ n. enc_task n.task) gives.comes.1

  looked : (l : Look) (p : List ℕ) → effect_of e ≡ model.LookAt l p → Observes u h.task.notes.task p
  looked l p is =
      subst (λ t. among p (observed_paths (trace_of (evaluation world (present u) t))) ≡ true) its_task
      (next_looked world (present u) (recorded c.tables.names c.tables.records) (Passes (busy_by c.tables.names c.frames.walk)) asking.runs.goes.base
      (take asking.runs.goes.depth asking.runs.below) asking.runs.frame asking.runs.goes.goes left.0 left.1 l p (asking.asks ∙ is))

  listed : (d : List ℕ) → effect_of e ≡ model.ListOf d → Observes u h.task.notes.task d
  listed d is =
      subst (λ t. among d (observed_paths (trace_of (evaluation world (present u) t))) ≡ true) its_task
      (next_listed world (present u) (recorded c.tables.names c.tables.records) (Passes (busy_by c.tables.names c.frames.walk)) asking.runs.goes.base
      (take asking.runs.goes.depth asking.runs.below) asking.runs.frame asking.runs.goes.goes left.0 left.1 d (asking.asks ∙ is))

  observed : (x : Event) → x ≡ e → (p : List ℕ) → IsAskedBy x p → Observes u h.task.notes.task p
  observed (events.Exists path) is p at = subst (Observes u h.task.notes.task) (sym at) (looked looks.Exists path (ap effect_of (sym is)))
  observed (events.Read path by) is p at = subst (Observes u h.task.notes.task) (sym at) (looked (look_by by) path (ap effect_of (sym is)))
  observed (events.Digest path) is p at = subst (Observes u h.task.notes.task) (sym at) (looked looks.Digest path (ap effect_of (sym is)))
  observed (events.List dir) is p at =
      subst (Observes u h.task.notes.task) (sym at.0)
      (listed dir (ap effect_of (sym is) ∙ ap (λ b. cond b (model.ListOf dir) (model.Fail model_faults.BadList)) at.1))
  observed (events.Write path bytes) is p at = absurd at
  observed (events.Require task how) is p at = absurd at
  observed (events.Done value) is p at = absurd at
  observed (events.Fail kind) is p at = absurd at

pub hand_asks : (c : Core) (h : InHand) (p : Paused) (w : Waiting) (e : Event) (before after : Option (List Call)) → p ≡ Asks w e → Gives h.task p
    → AsksFor (IsAskedBy e) before after → GoesAsking c h before after
hand_asks c h p w e before after is gives asks = λ u now ex working.
    asks_as (IsAskedBy e) (Observes u h.task.notes.task) before after (observed u c h w e now ex working (subst (Gives h.task) is gives) e refl) asks

pub hand_asks_none : (c : Core) (h : InHand) (before after : Option (List Call)) → after ≡ before → GoesAsking c h before after
hand_asks_none c h before after same = λ u now ex working. no_calls (LooksAt (Observes u h.task.notes.task)) before after same

-- ---- the first step

pub tests_named : (n : Named) (Of : List ℕ → Type 0) (before after : Option (List Call)) → AsksFor (MayAskOf n Of) before after
    → AsksFor (IsNamedOrAbove n) before after
tests_named n Of before after asks = asks_as (MayAskOf n Of) (IsNamedOrAbove n) before after (λ p may. may.named) asks

-- the same names
same_named : (m n : Named) (p : List ℕ) → SameNames m n → IsNamedOrAbove n p → IsNamedOrAbove m p
same_named m n p same (inl is) = inl (sym (same.named p) ∙ is)
same_named m n p same (inr is) = inr (sym (same.above p) ∙ is)

pub tests_none : (n : Named) (asked : Option (List Call)) → AsksFor (IsNamedOrAbove n) asked asked
tests_none n asked = no_calls (LooksAt (IsNamedOrAbove n)) asked asked refl

pub tests_more : (first old : Named) (before mid after : Option (List Call)) → SameNames first old → AsksFor (IsNamedOrAbove first) before mid
    → AsksFor (IsNamedOrAbove old) mid after → AsksFor (IsNamedOrAbove first) before after
tests_more first old before mid after same so_far asks =
    calls_then (LooksAt (IsNamedOrAbove first)) before mid after so_far
    (asks_as (IsNamedOrAbove old) (IsNamedOrAbove first) mid after (λ p is. same_named first old p same is) asks)

pub tests_first : (c : Core) (before after : Option (List Call)) → c.first ≡ Tests → AsksFor (IsNamedOrAbove c.named) before after
    → AsksFor (IsTestedPath c) before after
tests_first c before after first asks =
    asks_as (IsNamedOrAbove c.named) (IsTestedPath c) before after (λ p is. record { first = first; named = is }) asks

-- ---- a step

named_in : (u : Update) (n : Named) (p : List ℕ) → IsInformed u n → IsNamedOrAbove n p → IsNamedIn u p
named_in u n p informed (inl is) = inl (sym (informed.names p) ∙ is)
named_in u n p informed (inr is) = inr (sym (informed.above p) ∙ is)

tested_named : (u : Update) (c : Core) → c.first ≡ Tests → StandsWhole u c → IsInformed u c.named
tested_named u c first (inl loaded) = (loaded.1 first).informed
tested_named u c first (inr whole) = whole.exact.are.known.informed

-- where no task is in hand
pub free_asks : (old : Core) (hand : Option InHand) (before after : Option (List Call)) → AsksFor (IsTestedPath (record old { hand = hand })) before after
    → StepsAsking old before after
free_asks old hand before after asks = λ u now stands.
    asks_as (IsTestedPath (record old { hand = hand })) (λ p. IsTestedIn u old p ⊎ IsSeenInHand u old p) before after
    (λ p may. inl (record { first = may.first; named = named_in u old.named p (tested_named u old may.first stands) may.named })) asks

none_some : (h : InHand) → None ≡ Some h → ⊥
none_some h e = cc

in_hand : (c : Core) (h : InHand) → c.hand ≡ Some h → IsCore c → IsInHand c h
in_hand c h some (inl untested) = absurd (none_some h (sym untested.start.hand ∙ some))
in_hand c h some (inr going) = subst (RunsOrRests c) some going.state

-- where one is
pub hand_steps : (old : Core) (h : InHand) (before after : Option (List Call)) → IsCore old → old.hand ≡ Some h
    → GoesAsking (record old { hand = None }) h before after → StepsAsking old before after
hand_steps old h before after core some goes = λ u now stands.
    let whole = in_hand_whole u old h some core stands in
    let working = subst (Goes u old) some whole.going in
    let ex = whole.exact in
    let own = in_hand old h some core in
    asks_as (Observes u h.task.notes.task) (λ p. IsTestedIn u old p ⊎ IsSeenInHand u old p) before after
    (λ p sees. inr (record {
      hand = h;
      is = some;
      task = h.task.notes.task;
      named = subst (λ n. slice_get old.tables.names n ≡ Some h.task.notes.task) own.own.number own.own.noted.task;
      ran = working.marked h.no.0 (ap runs (top_runs old.frames.walk h.no own.holds.top own.holds.taken.stands.holds));
      observed = sees;
    }))
    (goes u now (record { tested = ex.tested; counted = ex.counted; tried = ex.tried; are = ex.are; parked = ex.parked; hand = tt })
    (record { work = working.work; marked = working.marked }))
