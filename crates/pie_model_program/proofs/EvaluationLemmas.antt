-- What the plain program's evaluation is by its parts.
use Rattle.std.proofs.Common.{ℕ, zero, suc, ◌-◌, ◌<◌, ◌≡◌, Bool, true, false, List, [], ◌∷◌, ◌++◌, sym, ◌∙◌, ap, ap₂, subst, subst₂, refl, arith, Result, Ok}
use Rattle.std.proofs.Common.{Err, IfOk}
use Rattle.pie_model.specs.Paths.{among}
use Rattle.pie_model.specs.Tasks.{Task}
use Rattle.pie_model.specs.Trees.{Node, node, Trace, outcome_of, task_of, enter, entered}
use Rattle.pie_model.specs.declared.words.Outcome.{Outcome}
use Rattle.pie_model.specs.declared.words.Outcome.TheVariants.{Cycled, Many}
use Rattle.pie_model.specs.Evaluation.{World, Project, start, follow, round, evaluation_with}
use Rattle.pie_model.proofs.MovedLemmas.{opened_apart, opened_among}
use Rattle.pie_model_program.specs.Written.{tagged, written_in}
use Rattle.pie_model_program.specs.Steps.{Row, Turn, Goes, Stops, by_outcome, with_kid, step, IsStage, IsWhole, IsEvaluated, Keeps}
use Rattle.pie_model_program.proofs.StepLemmas.{step_keeps, stage_starts}

abbrev pub begun : List Task → Row
begun all = record { answers = []; own = []; absent = []; below = []; entered = all }

pub evaluated_in_cycle : (w : World) (P : Project) (n : ℕ) (above : List Task) (t : Task) (all : List Task) → among t above ≡ true
    → IsEvaluated (evaluation_with n w P above t) all (Cycled (round t above [])) (begun (enter t all))
evaluated_in_cycle w P n above t all h =
    subst (λ x. IsEvaluated x all (Cycled (round t above [])) (begun (enter t all))) (sym (opened_among n w P above t h))
    (record { end = refl; written = refl; absent = refl; below = refl; enters = refl })

pub evaluated_without_room : (w : World) (P : Project) (n : ℕ) (above : List Task) (t : Task) (all : List Task) → among t above ≡ false → n ≡ 0
    → IsEvaluated (evaluation_with n w P above t) all Many (begun (enter t all))
evaluated_without_room w P n above t all h e =
    subst (λ m. IsEvaluated (evaluation_with m w P above t) all Many (begun (enter t all))) (sym e)
    (subst (λ x. IsEvaluated x all Many (begun (enter t all))) (sym (opened_apart zero w P above t h))
    (record { end = refl; written = refl; absent = refl; below = refl; enters = refl }))

pub evaluated_below : (w : World) (P : Project) (n m : ℕ) (above : List Task) (t : Task) (all : List Task) (e : Outcome) (r : Row)
    → among t above ≡ false → n ≡ suc m
    → IsWhole (enter t all) (follow w P (evaluation_with m w P (t ∷ above)) t w.most_events start) e r
    → IsEvaluated (evaluation_with n w P above t) all e r
evaluated_below w P n m above t all e r h q s =
    subst (λ k. IsEvaluated (evaluation_with k w P above t) all e r) (sym q)
    (subst (λ x. IsEvaluated x all e r) (sym (opened_apart (suc m) w P above t h)) s)

task_of-evaluation_with : (n : ℕ) (w : World) (P : Project) (above : List Task) (t : Task) → task_of (evaluation_with n w P above t) ≡ t
task_of-evaluation_with zero w P above t = refl
task_of-evaluation_with (suc n) w P above t = refl

parts_of_node : (n : Node) (all : List Task) (e : Outcome) (kid : Row) → IsEvaluated n all e kid
    → (written_in n ≡ tagged (task_of n) kid.own ++ kid.below) × (entered n all ≡ kid.entered)
parts_of_node (node t k) all e kid s = (ap₂ (λ x y. tagged t x ++ y) s.written s.below, s.enters)

-- what a required evaluation adds
pub kid_is : (w : World) (P : Project) (n : ℕ) (above : List Task) (u : Task) (row kid after : Row) (e : Outcome)
    → IsEvaluated (evaluation_with n w P above u) row.entered e kid
    → after ≡ record row { below = row.below ++ (tagged u kid.own ++ kid.below); entered = kid.entered }
    → after ≡ with_kid row (evaluation_with n w P above u)
kid_is w P n above u row kid after e s h =
    let x = evaluation_with n w P above u in
    let q : (written_in (evaluation_with n w P above u) ≡ tagged (task_of (evaluation_with n w P above u)) kid.own ++ kid.below)
    × (entered (evaluation_with n w P above u) row.entered ≡ kid.entered) = parts_of_node (evaluation_with n w P above u) row.entered e kid s in
    h ∙ ap₂ (λ b t. record row { below = row.below ++ b; entered = t })
    (sym (q.0 ∙ ap (λ z. tagged z kid.own ++ kid.below) (task_of-evaluation_with n w P above u))) (sym q.1)

-- a require, by what the required evaluation added
pub require_is : (w : World) (P : Project) (n : ℕ) (above : List Task) (u : Task) (h : Rattle.pie_model.specs.declared.words.How.How)
    (row kid after : Row) (e : Outcome) (turn : Turn)
    → IsEvaluated (evaluation_with n w P above u) row.entered e kid
    → after ≡ record row { below = row.below ++ (tagged u kid.own ++ kid.below); entered = kid.entered }
    → turn ≡ by_outcome h after e
    → turn ≡ by_outcome h (with_kid row (evaluation_with n w P above u)) (outcome_of (evaluation_with n w P above u))
require_is w P n above u h row kid after e turn s q r = r ∙ ap₂ (by_outcome h) (kid_is w P n above u row kid after e s q) (sym s.end)

-- one event that goes on, and one that stops
pub advance_keeps : (w : World) (P : Project) (child : Task → Node) (t : Task) (all : List Task) (whole : Trace) (n : ℕ) (row : Row) (turn : Turn)
    → IsStage w P child t all whole (suc n) row → turn ≡ step w P child t row → Keeps w P child t all whole n turn
advance_keeps w P child t all whole n row turn s e = subst (Keeps w P child t all whole n) (sym e) (step_keeps w P child t all whole n row s)

-- the same in the words of the code's steps
pub in_cycle_by : (w : World) (P : Project) (n : ℕ) (above : List Task) (t : Task) (all : List Task)
    (slice again found tasks now : List Task) (b : Bool) (row : Row)
    → slice ≡ above → b ≡ among t slice → b ≡ true → found ≡ [] → again ≡ above → tasks ≡ round t again found → now ≡ enter t all → row ≡ begun now
    → IsEvaluated (evaluation_with n w P above t) all (Cycled tasks) row
in_cycle_by w P n above t all slice again found tasks now b row s i h f a r e q =
    subst₂ (λ x y. IsEvaluated (evaluation_with n w P above t) all (Cycled x) y)
    (sym (r ∙ ap₂ (round t) a f)) (sym (q ∙ ap begun e))
    (evaluated_in_cycle w P n above t all (sym (ap (among t) s) ∙ sym i ∙ h))

pub without_room_by : (w : World) (P : Project) (n : ℕ) (above : List Task) (t : Task) (all : List Task) (slice now : List Task) (b : Bool)
    (row : Row)
    → slice ≡ above → b ≡ among t slice → b ≡ false → now ≡ enter t all → row ≡ begun now → n ≡ 0
    → IsEvaluated (evaluation_with n w P above t) all Many row
without_room_by w P n above t all slice now b row s i h e q z =
    subst (IsEvaluated (evaluation_with n w P above t) all Many) (sym (q ∙ ap begun e))
    (evaluated_without_room w P n above t all (sym (ap (among t) s) ∙ sym i ∙ h) z)

pub below_by : (w : World) (P : Project) (n m : ℕ) (above : List Task) (t : Task) (all : List Task) (slice now below : List Task) (b : Bool)
    (e : Outcome) (row : Row)
    → slice ≡ above → b ≡ among t slice → b ≡ false → now ≡ enter t all → below ≡ t ∷ above → n ≡ suc m
    → IsWhole now (follow w P (evaluation_with m w P below) t w.most_events start) e row
    → IsEvaluated (evaluation_with n w P above t) all e row
below_by w P n m above t all slice now below b e row s i h q d z r =
    evaluated_below w P n m above t all e row (sym (ap (among t) s) ∙ sym i ∙ h) z
    (subst₂ (λ x y. IsWhole x (follow w P (evaluation_with m w P y) t w.most_events start) e row) q d r)

pub one_less : (n : ℕ) → (n ≡ 0 → ⊥) → n ≡ suc (n - 1)
one_less n h = omega arith

pub begins_by : (w : World) (P : Project) (child : Task → Node) (t : Task) (all : List Task) (n : ℕ) (row : Row) → n ≡ w.most_events → row ≡ begun all
    → IsStage w P child t all (follow w P child t w.most_events start) n row
begins_by w P child t all n row e q =
    subst₂ (λ x y. IsStage w P child t all (follow w P child t w.most_events start) x y) (sym e) (sym q) (stage_starts w P child t all w.most_events)

less_one : (n : ℕ) → 0 < n → n ≡ suc (n - 1)
less_one n h = omega arith

pub stops_by : (w : World) (P : Project) (child : Task → Node) (t : Task) (all : List Task) (whole : Trace) (n : ℕ) (row after : Row) (e : Outcome)
    → 0 < n → IsStage w P child t all whole n row → Stops e after ≡ step w P child t row → IsWhole all whole e after
stops_by w P child t all whole n row after e h s q =
    advance_keeps w P child t all whole (n - 1) row (Stops e after) (subst (λ k. IsStage w P child t all whole k row) (less_one n h) s) q

pub goes_by : (w : World) (P : Project) (child : Task → Node) (t : Task) (all : List Task) (whole : Trace) (n : ℕ) (row after : Row)
    → 0 < n → IsStage w P child t all whole n row → Goes after ≡ step w P child t row → IsStage w P child t all whole (n - 1) after
goes_by w P child t all whole n row after h s q =
    advance_keeps w P child t all whole (n - 1) row (Goes after) (subst (λ k. IsStage w P child t all whole k row) (less_one n h) s) q

-- what holds of a value that was returned holds of it in other words
pub if_ok_map : {A E : Type 0} (r : Result A E) (P Q : A → Type 0) → ((x : A) → P x → Q x) → IfOk r P → IfOk r Q
if_ok_map (Ok x) P Q f h = f x h
if_ok_map (Err e) P Q f h = h
