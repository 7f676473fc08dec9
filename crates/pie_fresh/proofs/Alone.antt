-- What a task observes below others, it observes with nothing above it.
use Rattle.std.proofs.Common.{ℕ, zero, suc, ◌≤◌, ◌≡◌, inl, inr, true, false, Option, Some, None, List, [], ◌∷◌, refl, sym, ap, subst, ◌∙◌, arith}
use Rattle.pie_model.specs.Paths.{Path, among}
use Rattle.pie_model.specs.Tasks.{Task, Value}
use Rattle.pie_model.specs.declared.words.Look.{Look}
use Rattle.pie_model.specs.declared.words.How.{How}
use Rattle.pie_model.specs.declared.words.Event.{Event}
use Rattle.pie_model.specs.declared.words.Event.TheVariants.{Done, Fail, LookAt, ListOf, Write, Require}
use Rattle.pie_model.specs.declared.words.Seen.{Seen}
use Rattle.pie_model.specs.declared.words.Seen.TheVariants.{Nothing, Holds, Clashing}
use Rattle.pie_model.specs.declared.words.Outcome.{Outcome}
use Rattle.pie_model.specs.declared.words.Outcome.TheVariants.{Ended, Failed, Cycled, Many}
use Rattle.pie_model.specs.Trees.{Node, Trace, is_plain, outcome_of, trace_of, HasTask}
use Rattle.pie_model.specs.Seen.{visible_at}
use Rattle.pie_model.specs.Evaluation.{World, Project, Progress, start, listing, on_seen, on_listing, on_outcome, on_event, follow, evaluation_with, evaluation}
use Rattle.pie_model.specs.Reasons.{observed_paths}
use Rattle.pie_model.proofs.Basics.{clash, cases, among_here, among_split, among_there, front_or}
use Rattle.pie_model.proofs.MovedLemmas.{opened_apart, opened_among}
use Rattle.pie_model.proofs.Rooms.{evaluation_room, levels_room, placed, plain_not_round, tasks_apart}

-- a trace observes a path
abbrev pub Sees : Path → Trace → Type 0
Sees p k = among p (observed_paths k) ≡ true

-- a front that two lists share
same_front : (p q : Path) (xs ys : List Path) → (among p xs ≡ true → among p ys ≡ true) → among p (q ∷ xs) ≡ true → among p (q ∷ ys) ≡ true
same_front p q xs ys more h = elim (among_split p q xs h) [
  | inl e ↦ front_or p q ys (inl e)
  | inr k ↦ among_there p q ys (more k)
]

-- required tasks that end with a value are the same below the others and alone
module _ (w : World) (P : Project) (t : Task) (below alone : Task → Node)
    (same : (u : Task) (v : Value) → outcome_of (below u) ≡ Ended v → alone u ≡ below u) (p : Path) where
  module _ (below_go alone_go : Progress → Trace) (goes : (g : Progress) → Sees p (below_go g) → Sees p (alone_go g)) where
    look_alone : (l : Look) (q : Path) (g : Progress) (s : Seen) → Sees p (on_seen w t l q g below_go s) → Sees p (on_seen w t l q g alone_go s)
    look_alone l q g Nothing h = same_front p q _ _ (goes _) h
    look_alone l q g (Holds b m) h = same_front p q _ _ (goes _) h
    look_alone l q g Clashing h = h

    list_alone : (d : Path) (g : Progress) (es : Option (List Path)) → Sees p (on_listing t d g below_go es) → Sees p (on_listing t d g alone_go es)
    list_alone d g None h = h
    list_alone d g (Some es) h = same_front p d _ _ (goes _) h

    need_alone : (h : How) (u : Task) (g : Progress) → Sees p (on_outcome h g (below u) below_go (outcome_of (below u)))
        → Sees p (on_outcome h g (alone u) alone_go (outcome_of (alone u)))
    need_alone h u g = by (outcome_of (below u)) refl
      where
        by : (e : Outcome) → outcome_of (below u) ≡ e → Sees p (on_outcome h g (below u) below_go e)
            → Sees p (on_outcome h g (alone u) alone_go (outcome_of (alone u)))
        by (Ended v) is sees =
            subst (λ (n : Node). Sees p (on_outcome h g n alone_go (outcome_of n))) (sym (same u v is))
            (subst (λ e. Sees p (on_outcome h g (below u) alone_go e)) (sym is) (goes _ sees))
        by (Failed x k) is sees = clash false sees refl
        by (Cycled ts) is sees = clash false sees refl
        by Many is sees = clash false sees refl

    event_alone : (g : Progress) (e : Event) → Sees p (on_event w P below t g below_go e) → Sees p (on_event w P alone t g alone_go e)
    event_alone g (Done v) h = h
    event_alone g (Fail k) h = h
    event_alone g (LookAt l q) h = look_alone l q g (visible_at P.file g.own g.kids q) h
    event_alone g (ListOf d) h = list_alone d g (listing w P d) h
    event_alone g (Write q b) h = goes _ h
    event_alone g (Require r u) h = need_alone r u g h

  follow_alone : (n : ℕ) (g : Progress) → Sees p (follow w P below t n g) → Sees p (follow w P alone t n g)
  follow_alone zero g h = h
  follow_alone (suc n) g h = event_alone (follow w P below t n) (follow w P alone t n) (follow_alone n) g (P.next t g.answers) h

module _ (w : World) (P : Project) (above : List Task) (t : Task) (p : Path) where
  -- a required task that ends with a value below all of them does the same below its caller alone
  kid_alone : (n m : ℕ) → n ≤ m → (u : Task) (v : Value) → outcome_of (evaluation_with n w P (t ∷ above) u) ≡ Ended v
      → evaluation_with m w P (t ∷ []) u ≡ evaluation_with n w P (t ∷ above) u
  kid_alone n m few u v is = placed n m w P (t ∷ above) (t ∷ []) u plain (up _ _ _ (levels_room n w P (t ∷ above) u plain) few) apart
    where
      plain : is_plain (outcome_of (evaluation_with n w P (t ∷ above) u)) ≡ true
      plain = ap is_plain is

      up : (a b c : ℕ) → a ≤ b → b ≤ c → a ≤ c
      up a b c q r = omega arith

      apart : (a : Task) → among a (t ∷ []) ≡ true → HasTask a (evaluation_with n w P (t ∷ above) u) → ⊥
      apart a i has = elim (among_split a t [] i) [
        | inl e ↦
            clash (among a (t ∷ above)) (subst (λ x. among a (x ∷ above) ≡ true) e (among_here a above))
            (tasks_apart n w P (t ∷ above) u (plain_not_round _ plain) a has)
        | inr k ↦ clash false k refl
      ]

  whole_alone : (n m : ℕ) → n ≤ m → Sees p (trace_of (evaluation_with (suc n) w P above t)) → Sees p (trace_of (evaluation_with (suc m) w P [] t))
  whole_alone n m few h = elim (cases (among t above)) [
    | inl i ↦ clash false (sym (ap (λ x. among p (observed_paths (trace_of x))) (opened_among (suc n) w P above t i)) ∙ h) refl
    | inr i ↦
        follow_alone w P t (evaluation_with n w P (t ∷ above)) (evaluation_with m w P (t ∷ [])) (kid_alone n m few) p w.most_events start
        (sym (ap (λ x. among p (observed_paths (trace_of x))) (opened_apart (suc n) w P above t i)) ∙ h)
  ]

  pub seen_alone : (n m : ℕ) → w.most_tasks ≡ suc m → n ≤ m → Sees p (trace_of (evaluation_with (suc n) w P above t)) → Sees p (trace_of (evaluation w P t))
  seen_alone n m most few h =
      subst (λ x. Sees p (trace_of x)) (sym (evaluation_room w P t ∙ ap (λ k. evaluation_with k w P [] t) most)) (whole_alone n m few h)
