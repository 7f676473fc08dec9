-- The settled law: a recorded task that reaches no busy task has the record of its evaluation now.
use Rattle.std.proofs.Common.{ℕ, zero, suc, ◌≤◌, ◌<◌, ◌-◌, ◌≡◌, true, false, Option, Some, List, [], length, inl, inr, sym, ◌∙◌, ap, subst, refl, arith}
use Rattle.pie_model.specs.Paths.{Path, among}
use Rattle.pie_model.specs.Tasks.{Task}
use Rattle.pie_model.specs.Trees.{is_plain, levels, HasTask}
use Rattle.pie_model.specs.Evaluation.{World, Project, evaluation}
use Rattle.pie_model.specs.Records.{Record, record_of, needs_of}
use Rattle.pie_model.specs.StampNow.{Told, by_evaluation, RecordAgrees}
use Rattle.pie_model.specs.Separate.{StampsSeparate, ListingsDiffer, NeverWritesWhatItSaw}
use Rattle.pie_model.specs.inner.Present.{Reaches}
use Rattle.pie_model.specs.inner.Present.Way.{here, along}
use Rattle.pie_model.specs.inner.Consistent.{IsRecorded, IsUpToDate, IsConsistent, IsSettled}
use Rattle.pie_model.proofs.Basics.{clash}
use Rattle.pie_model.proofs.Rooms.{Standing, standing, few_levels, plain_not_round, without, without_less, among_without}
use Rattle.pie_model.proofs.SecondLaw.{second_law}
use Rattle.pie_model.specs.inner.RecordLaws.{HasItsRecord}
use Rattle.pie_model.proofs.Ways.{Reached, stands_reached, further}
use Rattle.pie_model.proofs.AgreesLemmas.{IsKnown, agrees_by_evaluation}

module _ (w : World) (old now : Project) (Met : List ℕ → Type 0) (R : Task → Option Record) (told : List Task → Path → Told)
    (held : List Task) (rank : Task → ℕ) (busy : Task → Type 0) (c : IsConsistent w old now Met R told held rank busy) where
  -- what a recorded task reaches has a record, and no higher rank
  pub reached_recorded : {x t : Task} → Reaches R t x → IsRecorded R t → IsRecorded R x
  reached_recorded here h = h
  reached_recorded {x} {t} (along {b = u} {r = r} e i q) h = reached_recorded q (c.closed t r u e i)

  pub reached_rank : {x t : Task} → Reaches R t x → rank x ≤ rank t
  reached_rank here = omega arith
  reached_rank {x} {t} (along {b = u} {r = r} e i q) = up (rank x) (rank u) (rank t) (reached_rank q) (c.lower t r u e i)
    where
      up : (a b d : ℕ) → a ≤ b → b < d → a ≤ d
      up a b d p q = omega arith

  -- a tree of right records that do not reach a task has fewer levels than there are tasks
  pub shallow_tree : (t u : Task) → IsRecorded R t → ((x : Task) → Reaches R u x → HasItsRecord w now R x) → (Reaches R u t → ⊥)
      → levels (evaluation w now u) ≤ w.most_tasks - 1
  shallow_tree t u h right apart =
      up _ _ _ _ (few_levels (w.most_tasks - length {A = Task} []) w now [] u (plain_not_round _ (right u here).plain) (without t held) all)
      (without_less t held (c.counted t h.kept h.is)) c.few
    where
      up : (a b d e : ℕ) → a ≤ b → b < d → d ≤ e → a ≤ e - 1
      up a b d e p q r = omega arith

      all : (x : Task) → HasTask x (evaluation w now u) → among x (without t held) ≡ true
      all x i = go (standing x (evaluation w now u) i)
        where
          go : Standing x (evaluation w now u) → among x (without t held) ≡ true
          go s =
              let q : Reached w now R u s.found = stands_reached w now R (evaluation w now u) u s.found refl right s.stands in
              let way : Reaches R u x = subst (λ z. Reaches R u z) s.is q.way in
              among_without x t held (c.counted x _ (right x way).is) (λ e. apart (subst (λ z. Reaches R u z) e way))

  module _ (sep : StampsSeparate w old now Met) (differ : ListingsDiffer w) (polite : (t : Task) → NeverWritesWhatItSaw (old.next t)) where
    -- by what is right below
    stands_now : (t : Task) (r : Record) → R t ≡ Some r
        → ((u : Task) → among u (needs_of r.observations) ≡ true → (x : Task) → Reaches R u x → HasItsRecord w now R x)
        → IsUpToDate w old now Met R told t r → r ≡ record_of w (evaluation w now t)
    stands_now t r e right (inl h) = h
    stands_now t r e right (inr s) =
        s.was ∙ sym (second_law w old now Met sep differ t (w.most_tasks - length {A = Task} []) [] (omega arith) s.meaning (polite t)
        s.done s.met (c.met t r e)
        (subst (RecordAgrees w now (by_evaluation w now)) s.was
        (agrees_by_evaluation w now now R told c.telling r.writes r.observations [] (λ u i. clash false i refl)
        (λ u i. record { recorded = c.closed t r u e i; right = right u i }) s.agrees))
        (λ u i done deep many.
        let j : among u (needs_of r.observations) ≡ true = subst (λ z. among u (needs_of z.observations) ≡ true) (sym s.was) i in
        deep (shallow_tree t u (record { kept = r; is = e }) (right u j) (λ q. below (rank u) (rank t) (c.lower t r u e j) (reached_rank q)))))
      where
        below : (a b : ℕ) → a < b → b ≤ a → ⊥
        below a b p q = omega arith

    right_by : (t : Task) (r : Record) → R t ≡ Some r → r ≡ record_of w (evaluation w now t) → HasItsRecord w now R t
    right_by t r e h = record { is = e ∙ ap Some h; plain = ap (λ z. is_plain z.outcome) (sym h) ∙ c.plain t r e }

    settled_under : (t u x : Task) (r : Record) → R t ≡ Some r → among u (needs_of r.observations) ≡ true → Reaches R u x
        → IsSettled R busy t → IsSettled R busy x
    settled_under t u x r e i q s = record {
      recorded = reached_recorded q (c.closed t r u e i);
      free = λ y p. s.free y (along e i (further q p));
    }

    settled_step : (n : ℕ) → ((x : Task) → rank x < n → IsSettled R busy x → HasItsRecord w now R x) → (t : Task) → rank t < suc n
        → IsSettled R busy t → HasItsRecord w now R t
    settled_step n ih t q s =
        right_by t s.recorded.kept s.recorded.is
        (stands_now t s.recorded.kept s.recorded.is
        (λ u i x p. ih x (down (rank x) (rank u) (rank t) n (reached_rank p) (c.lower t s.recorded.kept u s.recorded.is i) q)
        (settled_under t u x s.recorded.kept s.recorded.is i p s))
        (c.current t s.recorded.kept s.recorded.is (s.free t here)))
      where
        down : (a b d n : ℕ) → a ≤ b → b < d → d < suc n → a < n
        down a b d n p q r = omega arith

    settled_below : (n : ℕ) (t : Task) → rank t < n → IsSettled R busy t → HasItsRecord w now R t
    settled_below zero t q s = absurd (omega arith)
    settled_below (suc n) t q s = settled_step n (settled_below n) t q s

    -- a settled task's record is that of its evaluation now
    pub settled_right : (t : Task) → IsSettled R busy t → HasItsRecord w now R t
    settled_right t s = settled_below (suc (rank t)) t (omega arith) s

    pub settled_known : (t : Task) → IsSettled R busy t → IsKnown w now R t
    settled_known t s = record {
      recorded = s.recorded;
      right = λ x p. settled_right x (record { recorded = reached_recorded p s.recorded; free = λ y q. s.free y (further p q) });
    }
