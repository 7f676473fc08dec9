-- The second law: an old record all of whose stamps are the stamps now is the record of the evaluation now.
use Rattle.std.proofs.Common.{ℕ, zero, suc, ◌≤◌, ◌-◌, ◌≡◌, true, false, List, [], ◌∷◌, length, ◌⊎◌, inl, inr, sym, ◌∙◌, ap, subst, refl, arith}
use Rattle.pie_model.specs.Paths.{among}
use Rattle.pie_model.specs.Tasks.{Task, How}
use Rattle.pie_model.specs.Trees.{node, Trace, Outcome, Ended, Failed, Cycled, Many, outcome_of, end_of, trace_of, writes_of, is_done, is_plain, levels}
use Rattle.pie_model.specs.Trees.{HasTask}
use Rattle.pie_model.specs.Evaluation.{World, Project, Progress, start, on_outcome, follow, evaluation_with, evaluation}
use Rattle.pie_model.specs.Records.{record_of, needs_of, observations_of, hashed}
use Rattle.pie_model.specs.StampNow.{by_evaluation, RecordAgrees}
use Rattle.pie_model.specs.Separate.{StampsSeparate, ListingsDiffer, AllMet, NeverWritesWhatItSaw}
use Rattle.pie_model.proofs.Basics.{clash, among_split}
use Rattle.pie_model.proofs.MovedLemmas.{opened_apart, plain_apart, MovedNode, same_node, no_room_node, through_node, moved_with}
use Rattle.pie_model.proofs.Rooms.{evaluation_room, Standing, standing, all_plain, node_alone}
use Rattle.pie_model.proofs.SecondLemmas.{SameTrace, goes}

pub done_plain : (e : Outcome) → is_done e ≡ true → is_plain e ≡ true
done_plain (Ended v) h = refl
done_plain (Failed t k) h = refl
done_plain (Cycled ts) h = h
done_plain Many h = h

-- a task whose own evaluation stands in a plain tree is plain itself
pub plain_standing : (w : World) (P : Project) (u t : Task) → is_plain (outcome_of (evaluation w P u)) ≡ true → HasTask t (evaluation w P u)
    → is_plain (outcome_of (evaluation w P t)) ≡ true
plain_standing w P u t h s = go (standing t (evaluation w P u) s)
  where
    go : Standing t (evaluation w P u) → is_plain (outcome_of (evaluation w P t)) ≡ true
    go f =
        let p = all_plain (w.most_tasks - length {A = Task} []) w P [] u f.found h f.stands in
        let e = node_alone (w.most_tasks - length {A = Task} []) w P [] u f.found (omega arith) f.stands p in
        sym (ap (λ x. is_plain (outcome_of x)) (e ∙ ap (evaluation w P) f.is)) ∙ p

-- the evaluation opened: its children have room for one level less
pub opened_room : (w : World) (P : Project) (t : Task) (k : ℕ) → suc k ≤ w.most_tasks
    → evaluation w P t ≡ node t (follow w P (evaluation_with (w.most_tasks - 1) w P (t ∷ [])) t w.most_events start)
opened_room w P t k h =
    evaluation_room w P t ∙ ap (λ n. evaluation_with n w P [] t) (less w.most_tasks h) ∙ opened_apart (suc (w.most_tasks - 1)) w P [] t refl
  where
    less : (m : ℕ) → suc k ≤ m → m ≡ suc (m - 1)
    less m q = omega arith

-- a required task's evaluation below the task is its own, unless the task ended in too long a chain
pub required_is_own : (w : World) (now : Project) (t : Task) (h : How) (u : Task) (g : Progress) (go : Progress → Trace)
    → is_done (outcome_of (evaluation w now u)) ≡ true
    → ((levels (evaluation w now u) ≤ w.most_tasks - 1 → ⊥) → outcome_of (evaluation w now t) ≡ Many → ⊥)
    → end_of (on_outcome h g (evaluation_with (w.most_tasks - 1) w now (t ∷ []) u) go
    (outcome_of (evaluation_with (w.most_tasks - 1) w now (t ∷ []) u)))
    ≡ outcome_of (evaluation w now t)
    → evaluation_with (w.most_tasks - 1) w now (t ∷ []) u ≡ evaluation w now u
required_is_own w now t h u g go done shallow end =
    by (moved_with w.most_tasks (w.most_tasks - 1) w now (t ∷ []) [] u (ap (λ x. is_plain (outcome_of x)) (sym room) ∙ plain))
  where
    room : evaluation w now u ≡ evaluation_with w.most_tasks w now [] u
    room = evaluation_room w now u

    plain : is_plain (outcome_of (evaluation w now u)) ≡ true
    plain = done_plain (outcome_of (evaluation w now u)) done

    ended : (o : Outcome) → outcome_of (evaluation_with (w.most_tasks - 1) w now (t ∷ []) u) ≡ o
        → end_of (on_outcome h g (evaluation_with (w.most_tasks - 1) w now (t ∷ []) u) go o) ≡ outcome_of (evaluation w now t)
    ended o q = ap (λ x. end_of (on_outcome h g (evaluation_with (w.most_tasks - 1) w now (t ∷ []) u) go x)) (sym q) ∙ end

    same_task : (a : Task) → among a (t ∷ []) ≡ true → (a ≡ t) ⊎ (among a [] ≡ true) → a ≡ t
    same_task a i (inl e) = e
    same_task a i (inr k) = clash false k refl

    by : MovedNode (w.most_tasks - 1) (t ∷ []) [] (evaluation_with (w.most_tasks - 1) w now (t ∷ []) u) (evaluation_with w.most_tasks w now [] u)
        → evaluation_with (w.most_tasks - 1) w now (t ∷ []) u ≡ evaluation w now u
    by (same_node e) = e ∙ sym room
    by (no_room_node e f) = absurd (shallow (λ q. f (subst (λ x. levels x ≤ w.most_tasks - 1) room q)) (sym (ended Many e)))
    by (through_node a ts e i o s) =
        let stands : HasTask t (evaluation w now u) = subst (λ x. HasTask t x) (sym room)
        (subst (λ x. HasTask x (evaluation_with w.most_tasks w now [] u)) (same_task a i (among_split a t [] i)) s) in
        clash false (ap is_plain (ended (Cycled ts) e) ∙ plain_standing w now u t plain stands) refl

same_records : (w : World) (t : Task) (T T0 : Trace) → SameTrace w T T0 → record_of w (node t T) ≡ record_of w (node t T0)
same_records w t T T0 s = λ i. record { task = t; observations = s.observations i; writes = hashed w (s.written i); outcome = s.end i }

-- the law, with what it needs of too long chains
pub second_law : (w : World) (old now : Project) (Met : List ℕ → Type 0) → StampsSeparate w old now Met → ListingsDiffer w
    → (t : Task) (n : ℕ) (above : List Task) → n ≤ w.most_tasks → old.next t ≡ now.next t → NeverWritesWhatItSaw (old.next t)
    → is_done (outcome_of (evaluation_with n w old above t)) ≡ true
    → AllMet w Met (trace_of (evaluation_with n w old above t)) → AllMet w Met (trace_of (evaluation w now t))
    → RecordAgrees w now (by_evaluation w now) (record_of w (evaluation_with n w old above t))
    → ((u : Task) → among u (needs_of (observations_of w (trace_of (evaluation_with n w old above t)))) ≡ true
    → is_done (outcome_of (evaluation w now u)) ≡ true
    → (levels (evaluation w now u) ≤ w.most_tasks - 1 → ⊥) → outcome_of (evaluation w now t) ≡ Many → ⊥)
    → record_of w (evaluation w now t) ≡ record_of w (evaluation_with n w old above t)
second_law w old now Met sep differ t zero above le meaning polite done met0 met agrees shallow =
    clash false (sym (ap (λ x. is_plain (outcome_of x))
    (opened_apart zero w old above t (plain_apart zero w old above t (done_plain _ done)))) ∙ done_plain _ done) refl
second_law w old now Met sep differ t (suc k) above le meaning polite done met0 met agrees shallow =
    ap (record_of w) now_is ∙ same_records w t T T0 same ∙ sym (ap (record_of w) old_is)
  where
    T : Trace
    T = follow w now (evaluation_with (w.most_tasks - 1) w now (t ∷ [])) t w.most_events start

    T0 : Trace
    T0 = follow w old (evaluation_with k w old (t ∷ above)) t w.most_events start

    now_is : evaluation w now t ≡ node t T
    now_is = opened_room w now t k le

    old_is : evaluation_with (suc k) w old above t ≡ node t T0
    old_is = opened_apart (suc k) w old above t (plain_apart (suc k) w old above t (done_plain _ done))

    same : SameTrace w T T0
    same = goes w old now Met sep differ t (evaluation_with k w old (t ∷ above)) (evaluation_with (w.most_tasks - 1) w now (t ∷ [])) meaning polite
        (hashed w (writes_of T0)) (outcome_of (evaluation w now t)) (w.most_tasks - 1)
        (λ h u g go d s e. required_is_own w now t h u g go d s e)
        w.most_events start start [] (record { answers = refl; own = refl; kids = refl })
        (record {
          done = subst (λ x. is_done (outcome_of x) ≡ true) old_is done;
          met = subst (λ x. AllMet w Met (trace_of x)) now_is met;
          met0 = subst (λ x. AllMet w Met (trace_of x)) old_is met0;
          own = refl;
          agrees = subst (λ x. RecordAgrees w now (by_evaluation w now) (record_of w x)) old_is agrees;
          shallow = subst (λ x. (u : Task) → among u (needs_of (observations_of w (trace_of x))) ≡ true
              → is_done (outcome_of (evaluation w now u)) ≡ true
              → (levels (evaluation w now u) ≤ w.most_tasks - 1 → ⊥) → outcome_of (evaluation w now t) ≡ Many → ⊥) old_is shallow;
          ends = sym (ap outcome_of now_is);
        })
