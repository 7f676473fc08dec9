-- The verdict, by the first root that fails, by too many tasks, or by roots that are done.
use Rattle.std.proofs.Common.{ℕ, suc, ◌≤◌, ◌<◌, ◌≡◌, true, false, cond, Option, List, [], ◌∷◌, ◌++◌, length, ◌⊎◌, inl, inr, sym, ap, subst, refl}
use Rattle.std.proofs.Common.{arith}
use Rattle.std.proofs.lemmas.Bool.{lt-leb}
use Rattle.pie_model.specs.Paths.{among}
use Rattle.pie_model.specs.Tasks.{Task}
use Rattle.pie_model.specs.declared.words.FaultKind.{FaultKind}
use Rattle.pie_model.specs.declared.words.Outcome.{Outcome}
use Rattle.pie_model.specs.declared.words.Outcome.TheVariants.{Failed, Cycled}
use Rattle.pie_model.specs.Trees.{Node, outcome_of, is_done, HasTask, entered}
use Rattle.pie_model.specs.Evaluation.{evaluation}
use Rattle.pie_model.specs.Records.{Record}
use Rattle.pie_model.specs.Running.{entered_all}
use Rattle.pie_model.specs.Forest.{only_if, forest, entered_tasks, live_evaluations, first_stop}
use Rattle.pie_model.specs.Verdict.{by_stop, verdict}
use Rattle.pie_model.specs.declared.words.Verdict.TheVariants.{Many, Fault, Cycle}
use Rattle.pie_model.proofs.Basics.{among_left, among_here, among_there, among_split, among_either}
use Rattle.pie_model.proofs.Ways.{stands_itself, task_of-evaluation}
use Rattle.pie_model.proofs.Rooms.{has_task, entered_keeps, stands_entered}
use Rattle.pie_step_laws.specs.Table.{IsTable}
use Rattle.pie_step_laws.specs.UnderWay.{HasEnded}
use Rattle.pie_step_laws.specs.Roots.{Between}
use Rattle.pie_step_laws.proofs.Tables.{among_one, no_more, distinct_end, length_end}
use Rattle.pie_step_laws.proofs.RootLemmas.{fails_here, cycles_here}
use Rattle.pie_settle_laws.specs.Ends.{recorded_among}
use Rattle.pie_settle_laws.proofs.Entering.{entered_distinct}
use Rattle.pie_settle_laws.proofs.Ending.{known_done}
use Rattle.pie_topdown_laws.specs.Checks.{Setting}
use Rattle.pie_topdown_laws.specs.Ends.{AreRecorded, AllEntered, StandsUnder}
use Rattle.pie_topdown_laws.proofs.Tabling.{counted}
use Rattle.pie_topdown_laws.proofs.Sinking.{recorded_done}

up : (a b c : ℕ) → a ≤ b → b ≤ c → a ≤ c
up a b c p q = omega arith

module _ (x : Setting) (R : Task → Option Record) (names : List Task) (T : IsTable x.world x.now R names) where
  pub roots_done : (roots : List Task) → AreRecorded R roots
      → Between x.world x.now roots (recorded_among (entered_tasks x.world x.now roots) R) (entered_tasks x.world x.now roots)
  roots_done roots h = known_done x.world x.now R names roots (counted x.world x.now R names T) (recorded_done x R names T roots h)

  module _ (all done rest : List Task) (root : Task) (h : AreRecorded R done) where
    abbrev roots : List Task
    roots = done ++ root ∷ rest

    abbrev base : List Task
    base = entered_tasks x.world x.now done

    has_ended : (e : Outcome) → AllEntered x done root all → length all ≤ x.world.most_tasks → outcome_of (evaluation x.world x.now root) ≡ e
        → HasEnded x.world x.now root base (entered (evaluation x.world x.now root) base) e
    has_ended e A few o = record {
      outcome = o;
      enters = refl;
      few = up (length (entered (evaluation x.world x.now root) base)) (length all) x.world.most_tasks
          (no_more (entered (evaluation x.world x.now root) base) all
          (entered_distinct (evaluation x.world x.now root) base (roots_done done h).rests.table.distinct) A) few;
    }

    pub failed_decides : (t : Task) (k : FaultKind) → AllEntered x done root all → length all ≤ x.world.most_tasks
        → outcome_of (evaluation x.world x.now root) ≡ Failed t k → verdict x.world x.now roots ≡ Fault t k
    failed_decides t k A few o =
        (fails_here x.world x.now roots done rest (recorded_among base R) base root (roots_done done h) refl
        (entered (evaluation x.world x.now root) base) t k (has_ended (Failed t k) A few o)).is

    pub cycled_decides : (ts : List Task) → AllEntered x done root all → length all ≤ x.world.most_tasks
        → outcome_of (evaluation x.world x.now root) ≡ Cycled ts → verdict x.world x.now roots ≡ Cycle ts
    cycled_decides ts A few o =
        (cycles_here x.world x.now roots done rest (recorded_among base R) base root (roots_done done h) refl
        (entered (evaluation x.world x.now root) base) ts (has_ended (Cycled ts) A few o)).is

-- ---- what stands under roots

pub root_stands : (x : Setting) (ts : List Task) (t : Task) → among t ts ≡ true → StandsUnder x ts t
root_stands x ts t i = record {
  from = t;
  listed = i;
  stands = subst (λ z. HasTask z (evaluation x.world x.now t)) (task_of-evaluation x.world x.now t)
      (has_task (evaluation x.world x.now t) (evaluation x.world x.now t) (stands_itself (evaluation x.world x.now t)));
}

pub more_stand : (x : Setting) (ts more : List Task) (t : Task) → StandsUnder x ts t → StandsUnder x (ts ++ more) t
more_stand x ts more t s = record { from = s.from; listed = among_left s.from ts more s.listed; stands = s.stands }

-- ---- too many

entered_all_keeps : (t : Task) (ns : List Node) (all : List Task) → among t all ≡ true → among t (entered_all ns all) ≡ true
entered_all_keeps t [] all h = h
entered_all_keeps t (n ∷ ns) all h = entered_all_keeps t ns (entered n all) (entered_keeps t n all h)

module _ (x : Setting) (t : Task) where
  -- what stands in the evaluation of a root up to the first that isn't done is entered
  pub under_entered : (done rest : List Task) (root : Task) (all : List Task)
      → ((d : Task) → among d done ≡ true → is_done (outcome_of (evaluation x.world x.now d)) ≡ true)
      → (from : Task) → among from (done ++ root ∷ []) ≡ true → HasTask t (evaluation x.world x.now from)
      → among t (entered_all (forest x.world x.now (done ++ root ∷ rest)) all) ≡ true
  under_entered [] rest root all h from i s =
      entered_all_keeps t (only_if (is_done (outcome_of (evaluation x.world x.now root))) (forest x.world x.now rest))
      (entered (evaluation x.world x.now root) all)
      (stands_entered t (evaluation x.world x.now root) all (subst (λ z. HasTask t (evaluation x.world x.now z)) (among_one from root i) s))
  under_entered (d ∷ ds) rest root all h from i s =
      subst (λ b. among t (entered_all (only_if b (forest x.world x.now (ds ++ root ∷ rest))) (entered (evaluation x.world x.now d) all)) ≡ true)
      (sym (h d (among_here d ds)))
      (go (λ j. under_entered ds rest root (entered (evaluation x.world x.now d) all) (λ e k. h e (among_there e d ds k)) from j s)
      (among_split from d (ds ++ root ∷ []) i))
    where
      go : (among from (ds ++ root ∷ []) ≡ true
          → among t (entered_all (forest x.world x.now (ds ++ root ∷ rest)) (entered (evaluation x.world x.now d) all)) ≡ true)
          → (from ≡ d) ⊎ (among from (ds ++ root ∷ []) ≡ true)
          → among t (entered_all (forest x.world x.now (ds ++ root ∷ rest)) (entered (evaluation x.world x.now d) all)) ≡ true
      go later (inl e) = entered_all_keeps t (forest x.world x.now (ds ++ root ∷ rest)) (entered (evaluation x.world x.now d) all)
          (stands_entered t (evaluation x.world x.now d) all (subst (λ z. HasTask t (evaluation x.world x.now z)) e s))
      go later (inr j) = later j

module _ (x : Setting) (R : Task → Option Record) (names : List Task) (T : IsTable x.world x.now R names) where
  pub too_many : (done rest : List Task) (root u : Task) → AreRecorded R done → length names ≡ x.world.most_tasks
      → ((t : Task) → among t names ≡ true → StandsUnder x (done ++ root ∷ []) t) → among u names ≡ false → StandsUnder x (done ++ root ∷ []) u
      → verdict x.world x.now (done ++ root ∷ rest) ≡ Many
  too_many done rest root u h full all new more =
      ap (λ b. cond b (by_stop (first_stop (forest x.world x.now (done ++ root ∷ rest))) (live_evaluations x.world x.now (done ++ root ∷ rest))) Many)
      (lt-leb (length whole) x.world.most_tasks (over (length names) (length (names ++ u ∷ [])) (length whole) x.world.most_tasks full
      (length_end names u) (no_more (names ++ u ∷ []) whole (distinct_end names u T.distinct new) each)))
    where
      whole : List Task
      whole = entered_tasks x.world x.now (done ++ root ∷ rest)

      over : (a b c d : ℕ) → a ≡ d → b ≡ suc a → b ≤ c → d < c
      over a b c d p q r = omega arith

      entered_one : (t : Task) → StandsUnder x (done ++ root ∷ []) t → among t (entered_tasks x.world x.now (done ++ root ∷ rest)) ≡ true
      entered_one t s = under_entered x t done rest root [] (recorded_done x R names T done h).done s.from s.listed s.stands

      each : (t : Task) → among t (names ++ u ∷ []) ≡ true → among t (entered_tasks x.world x.now (done ++ root ∷ rest)) ≡ true
      each t i = go (among_either t names (u ∷ []) i)
        where
          go : (among t names ≡ true) ⊎ (among t (u ∷ []) ≡ true) → among t (entered_tasks x.world x.now (done ++ root ∷ rest)) ≡ true
          go (inl j) = entered_one t (all t j)
          go (inr j) = subst (λ z. among z (entered_tasks x.world x.now (done ++ root ∷ rest)) ≡ true) (sym (among_one t u j)) (entered_one u more)
