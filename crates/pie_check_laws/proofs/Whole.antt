-- Where all that the roots enter ended with a value, the verdict on a project is that of its last checks.
use Rattle.std.proofs.Common.{◌≡◌, ℕ, ◌<◌, ◌≤◌, suc, Bool, true, false, cond, ◌⊎◌, inl, inr}
use Rattle.std.proofs.Common.{Option, None, List, [], ◌∷◌, length, map, refl, sym, ap, subst, ◌∙◌}
use Rattle.std.specs.List.{Contains}
use Rattle.std.proofs.lemmas.Bool.{le-leb}
use Rattle.pie_value.specs.declared.task.Task.{Task}
use Rattle.pie_value.specs.declared.verdict.Refusal.{Refusal}
use Rattle.pie_value.specs.Canonical.{enc_task}
use Rattle.pie_record.specs.declared.records.Records.{Records}
use Rattle.pie_checks.specs.Records.{Wrote, Missed}
use Rattle.pie_checks.specs.Refusals.{FindsFirst}
use Rattle.pie_model.specs.declared.words.Verdict.TheVariants.{Many}
use Rattle.pie_model.specs.Paths.{among}
use Rattle.pie_model.specs.Trees.{Node, node, task_of, outcome_of, is_done, HasTask, entered}
use Rattle.pie_model.specs.Evaluation.{World, Project, evaluation}
use Rattle.pie_model.specs.Running.{entered_all}
use Rattle.pie_model.specs.Forest.{only_if, forest, entered_tasks, live_evaluations, unless_done, first_stop}
use Rattle.pie_model.specs.Verdict.{by_stop, final_checks, verdict}
use Rattle.pie_model.proofs.Basics.{among_split, clash}
use Rattle.pie_model.proofs.Rooms.{entered_keeps, stands_entered}
use Rattle.pie_model.proofs.Ways.{task_of-evaluation}
use Rattle.pie_check_laws.specs.Verdicts.{AreRecorded, verdict_by}
use Rattle.pie_check_laws.proofs.Members.{here, there}
use Rattle.pie_check_laws.proofs.Kept.{numbered, answer_is}

-- ---- what is entered stays so

all_keep : (x : List ℕ) (ns : List Node) (all : List (List ℕ)) → among x all ≡ true → among x (entered_all ns all) ≡ true
all_keep x [] all h = h
all_keep x (n ∷ ns) all h = all_keep x ns (entered n all) (entered_keeps x n all h)

has_itself : (n : Node) → HasTask (task_of n) n
has_itself (node t k) = inl refl

root_entered : (w : World) (P : Project) (r : List ℕ) (all : List (List ℕ)) → among r (entered (evaluation w P r) all) ≡ true
root_entered w P r all =
    stands_entered r (evaluation w P r) all (subst (λ z. HasTask z (evaluation w P r)) (task_of-evaluation w P r) (has_itself (evaluation w P r)))

-- ---- no root stops the forest

module _ (w : World) (P : Project) where
  no_stop : (roots all : List (List ℕ))
      → ((t : List ℕ) → among t (entered_all (forest w P roots) all) ≡ true → is_done (outcome_of (evaluation w P t)) ≡ true)
      → first_stop (forest w P roots) ≡ None
  no_stop [] all done = refl
  no_stop (r ∷ rs) all done = by (is_done (outcome_of (evaluation w P r))) ended done (no_stop rs (entered (evaluation w P r) all))
    where
      ended : is_done (outcome_of (evaluation w P r)) ≡ true
      ended = done r (all_keep r (only_if (is_done (outcome_of (evaluation w P r))) (forest w P rs)) (entered (evaluation w P r) all)
          (root_entered w P r all))

      by : (b : Bool) → b ≡ true
          → ((t : List ℕ) → among t (entered_all (only_if b (forest w P rs)) (entered (evaluation w P r) all)) ≡ true
          → is_done (outcome_of (evaluation w P t)) ≡ true)
          → (((t : List ℕ) → among t (entered_all (forest w P rs) (entered (evaluation w P r) all)) ≡ true
          → is_done (outcome_of (evaluation w P t)) ≡ true) → first_stop (forest w P rs) ≡ None)
          → unless_done b (outcome_of (evaluation w P r)) (first_stop (only_if b (forest w P rs))) ≡ None
      by true e d rest = rest d
      by false e d rest = clash false e refl

-- ---- all that is entered is named

named_bytes : (names : List Task) (x : List ℕ) → among x (map enc_task names) ≡ true → (t : Task) × Contains names t × (x ≡ enc_task t)
named_bytes [] x h = clash false h refl
named_bytes (t ∷ names) x h = by (among_split x (enc_task t) (map enc_task names) h) (named_bytes names x)
  where
    by : (x ≡ enc_task t) ⊎ (among x (map enc_task names) ≡ true)
        → (among x (map enc_task names) ≡ true → (u : Task) × Contains names u × (x ≡ enc_task u))
        → (u : Task) × Contains (t ∷ names) u × (x ≡ enc_task u)
    by (inl e) r = (t, here t names, e)
    by (inr k) r = let m = r k in (m.0, there t m.0 names m.1, m.2)

bytes_done : (w : World) (P : Project) (names : List Task) (records : Records) → AreRecorded w P names records → (x : List ℕ)
    → among x (map enc_task names) ≡ true → is_done (outcome_of (evaluation w P x)) ≡ true
bytes_done w P names records recorded x h =
    let m = named_bytes names x h in
    let k = recorded.each m.1.0 m.0 (numbered names m.0 m.1) in
    subst (λ z. is_done (outcome_of (evaluation w P z)) ≡ true) (sym m.2) k.3

length-bytes : (names : List Task) → length (map enc_task names) ≡ length names
length-bytes [] = refl
length-bytes (t ∷ names) = ap (λ (n : ℕ). suc n) (length-bytes names)

-- the verdict where the entered tasks keep the limit and no root stops
by_checks : (w : World) (P : Project) (roots : List (List ℕ)) → length (entered_tasks w P roots) ≤ w.most_tasks
    → first_stop (forest w P roots) ≡ None → verdict w P roots ≡ final_checks (live_evaluations w P roots)
by_checks w P roots few none =
    ap (λ b. cond b (by_stop (first_stop (forest w P roots)) (live_evaluations w P roots)) Many) (le-leb (length (entered_tasks w P roots)) w.most_tasks few)
    ∙ ap (λ o. by_stop o (live_evaluations w P roots)) none

pub whole_verdict : (w : World) (P : Project) (roots : List (List ℕ)) (names : List Task) (records : Records) (live : List ℕ) (answer : Option Refusal)
    → map enc_task names ≡ entered_tasks w P roots → length names ≤ w.most_tasks → AreRecorded w P names records
    → ((n : ℕ) → n < length names → Contains live n) → FindsFirst (Wrote names records live) (Missed names records live) answer
    → verdict_by answer ≡ verdict w P roots
whole_verdict w P roots names records live answer same few recorded living h =
    answer_is w P names records live recorded living answer h
    ∙ ap (λ ts. final_checks (map (evaluation w P) ts)) same
    ∙ sym (by_checks w P roots (subst (λ n. n ≤ w.most_tasks) (sym (length-bytes names) ∙ ap length same) few) none)
  where
    none : first_stop (forest w P roots) ≡ None
    none = no_stop w P roots [] (λ t k. bytes_done w P names records recorded t (subst (λ ts. among t ts ≡ true) (sym same) k))
