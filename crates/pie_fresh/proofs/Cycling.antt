-- The tasks of a cycle, the required one first, are those that the model reads down the stack.
use Rattle.std.proofs.Common.{◌≡◌, ◌⊎◌, inl, inr, ℕ, suc, ◌<◌, ◌≤◌, Bool, true, false, cond, Some, None, List, [], ◌∷◌, ◌++◌, map, reverse}
use Rattle.std.proofs.Common.{bytes_eq, refl, sym, ap, subst, ◌∙◌, append-nil, append_assoc, arith}
use Rattle.std.specs.Prelude.{slice_get, leb, All, Contains}
use Rattle.std.specs.List.{AllPairs}
use Rattle.std.proofs.lemmas.Bool.{le-leb, lt-leb}
use Rattle.std.proofs.lemmas.List.{reverse-append, reverse-reverse}
use Rattle.std.proofs.lemmas.List.Elements.{All-append, All-cons, All-contains, All-nil, All-push, Contains-push_cases}
use Rattle.std.proofs.lemmas.Option.{slice_get_within, get_or_from_slice_get}
use Rattle.pie_value.specs.declared.task.Task.{Task}
use Rattle.pie_value.specs.Canonical.{enc_task}
use Rattle.pie_record.specs.inner.Records.{record_of as kept_of}
use Rattle.pie_model.specs.Evaluation.{round}
use Rattle.pie_model.specs.inner.Stack.{Frame as ModelFrame, tasks_of}
use Rattle.pie_model.proofs.Basics.{same_bytes, bytes_same}
use Rattle.pie_step_laws.proofs.StepLemmas.{map_end}
use Rattle.pie_model_pipeline.proofs.Joining.{tasks_told}
use Rattle.pie_builder_laws.specs.Names.{AreTasks}
use Rattle.pie_builder_laws.proofs.Naming.{canonical_at}
use Rattle.pie_running.specs.declared.frame.Caller.{Caller}
use Rattle.pie_fresh.specs.declared.ledger.Ledger.{Ledger}
use Rattle.pie_fresh.specs.Told.{IsTrueTask}
use Rattle.pie_fresh.specs.inner.Ledgers.{AreOpen}
use Rattle.pie_fresh.specs.inner.Frames.{numbers_of}
use Rattle.pie_fresh.specs.inner.Cycles.{tasks_from}
use Rattle.pie_fresh.specs.inner.Means.{Site, MeanCallers}
use Rattle.pie_fresh.proofs.Opening.{pairs_front, below_last}

-- ---- numbers and the tasks from one on

-- the last of rising numbers is the greatest
at_most_last : (ns : List ℕ) (n number : ℕ) → AllPairs (λ i j. i < j) (ns ++ n ∷ []) → Contains (ns ++ n ∷ []) number → number ≤ n
at_most_last ns n number rise k = by (Contains-push_cases ns n number k)
  where
    by : Contains ns number ⊎ (n ≡ number) → number ≤ n
    by (inl j) = let low : number < n = All-contains (λ i. i < n) ns number (below_last ns n rise) j in omega (arith, low)
    by (inr same) = omega (arith, same)

none_from : (number : ℕ) (cs : List Caller) → All (λ i. i < number) (numbers_of cs) → tasks_from number cs ≡ []
none_from number [] h = refl
none_from number (c ∷ cs) h =
    ap (λ b. cond b (c.waiting.notes.task ∷ tasks_from number cs) (tasks_from number cs)) (lt-leb number c.waiting.notes.number (h 0 0 (omega arith)))
    ∙ none_from number cs (λ i d lt. h (suc i) d (omega (arith, lt)))

from_end : (number : ℕ) (cs : List Caller) (c : Caller) → tasks_from number (cs ++ c ∷ []) ≡ tasks_from number cs ++ tasks_from number (c ∷ [])
from_end number [] c = refl
from_end number (d ∷ ds) c =
    ap (λ ts. cond (leb number d.waiting.notes.number) (d.waiting.notes.task ∷ ts) ts) (from_end number ds c)
    ∙ parted (leb number d.waiting.notes.number) d.waiting.notes.task (tasks_from number ds) (tasks_from number (c ∷ []))
  where
    parted : (b : Bool) (t : Task) (xs ys : List Task) → cond b (t ∷ (xs ++ ys)) (xs ++ ys) ≡ cond b (t ∷ xs) xs ++ ys
    parted true t xs ys = refl
    parted false t xs ys = refl

-- the newest caller stands last among those that wait
numbers_newest : (c : Caller) (cs : List Caller) → numbers_of (reverse (c ∷ cs)) ≡ numbers_of (reverse cs) ++ c.waiting.notes.number ∷ []
numbers_newest c cs = ap numbers_of (reverse-append (c ∷ []) cs) ∙ map_end (λ (d : Caller). d.waiting.notes.number) (reverse cs) c

from_newest : (number : ℕ) (c : Caller) (cs : List Caller) → number ≤ c.waiting.notes.number
    → tasks_from number (reverse (c ∷ cs)) ≡ tasks_from number (reverse cs) ++ c.waiting.notes.task ∷ []
from_newest number c cs le =
    ap (tasks_from number) (reverse-append (c ∷ []) cs) ∙ from_end number (reverse cs) c
    ∙ ap (λ b. tasks_from number (reverse cs) ++ cond b (c.waiting.notes.task ∷ []) []) (le-leb number c.waiting.notes.number le)

-- ---- the walk down the stack, to the task with this number

module _ (names : List Task) (is : AreTasks names) (number : ℕ) (u : Task) (named : slice_get names number ≡ Some u) where
  -- a task with a greater number is another one
  other_bytes : (n : ℕ) (t : Task) → number < n → slice_get names n ≡ Some t → bytes_eq (enc_task u) (enc_task t) ≡ false
  other_bytes n t lt there = by (bytes_eq (enc_task u) (enc_task t)) refl
    where
      by : (b : Bool) → bytes_eq (enc_task u) (enc_task t) ≡ b → bytes_eq (enc_task u) (enc_task t) ≡ false
      by false e = e
      by true e = absurd (is.distinct number n t lt (slice_get_within names n t there) (get_or_from_slice_get names number u t named
          ∙ tasks_told u t (canonical_at names is number u named) (canonical_at names is n t there) (same_bytes (enc_task u) (enc_task t) e)
          ∙ sym (get_or_from_slice_get names n t t there)))

  goes_down : (n : ℕ) (t : Task) (above found : List (List ℕ)) → number < n → slice_get names n ≡ Some t
      → round (enc_task u) (enc_task t ∷ above) found ≡ round (enc_task u) above (enc_task t ∷ found)
  goes_down n t above found lt there = ap (λ b. cond b (enc_task t ∷ found) (round (enc_task u) above (enc_task t ∷ found))) (other_bytes n t lt there)

  stops_here : (n : ℕ) (t : Task) (above found : List (List ℕ)) → number ≡ n → slice_get names n ≡ Some t
      → round (enc_task u) (enc_task t ∷ above) found ≡ enc_task t ∷ found
  stops_here n t above found same there =
      ap (λ b. cond b (enc_task t ∷ found) (round (enc_task u) above (enc_task t ∷ found)))
      (ap (λ x. bytes_eq (enc_task x) (enc_task t)) (one u t (sym named ∙ ap (slice_get names) same ∙ there)) ∙ bytes_same (enc_task t))
    where
      one : (x y : Task) → Some x ≡ Some y → x ≡ y
      one x y h = cc

  -- one task on the way, where those below it are `cs`
  one_round : (cs : List Caller) (n : ℕ) (t : Task) (above found : List (List ℕ)) → slice_get names n ≡ Some t
      → AllPairs (λ i j. i < j) (numbers_of cs ++ n ∷ []) → Contains (numbers_of cs ++ n ∷ []) number
      → (AllPairs (λ i j. i < j) (numbers_of cs) → Contains (numbers_of cs) number → (more : List (List ℕ))
      → round (enc_task u) above more ≡ map enc_task (tasks_from number cs) ++ more)
      → round (enc_task u) (enc_task t ∷ above) found ≡ map enc_task (tasks_from number cs ++ t ∷ []) ++ found
  one_round cs n t above found there rise inside below = by (Contains-push_cases (numbers_of cs) n number inside) ∙ joined
    where
      joined : map enc_task (tasks_from number cs) ++ enc_task t ∷ found ≡ map enc_task (tasks_from number cs ++ t ∷ []) ++ found
      joined =
          sym (append_assoc (map enc_task (tasks_from number cs)) (enc_task t ∷ []) found)
          ∙ ap (λ z. z ++ found) (sym (map_end enc_task (tasks_from number cs) t))

      by : Contains (numbers_of cs) number ⊎ (n ≡ number)
          → round (enc_task u) (enc_task t ∷ above) found ≡ map enc_task (tasks_from number cs) ++ enc_task t ∷ found
      by (inl k) =
          goes_down n t above found (All-contains (λ i. i < n) (numbers_of cs) number (below_last (numbers_of cs) n rise) k) there
          ∙ below (pairs_front (numbers_of cs) n rise) k (enc_task t ∷ found)
      by (inr same) =
          stops_here n t above found (sym same) there
          ∙ ap (λ ts. map enc_task ts ++ enc_task t ∷ found)
          (sym (none_from number cs (subst (λ m. All (λ i. i < m) (numbers_of cs)) same (below_last (numbers_of cs) n rise))))

module _ (s : Site) (l : Ledger) (is : AreTasks l.names) (number : ℕ) (u : Task) (named : slice_get l.names number ≡ Some u) where
  -- the tasks that wait, the newest first
  waiting_round : (gs : List ModelFrame) (cs : List Caller) → MeanCallers s l gs cs → AllPairs (λ i j. i < j) (numbers_of (reverse cs))
      → Contains (numbers_of (reverse cs)) number → (found : List (List ℕ))
      → round (enc_task u) (tasks_of gs) found ≡ map enc_task (tasks_from number (reverse cs)) ++ found
  waiting_round [] [] m rise k found = absurd (omega (arith, k.1))
  waiting_round [] (c ∷ cs) m rise k found = absurd m
  waiting_round (g ∷ gs) [] m rise k found = absurd m
  waiting_round (g ∷ gs) (c ∷ cs) m rise k found =
      ap (λ x. round (enc_task u) (x ∷ tasks_of gs) found) m.0.frame.task
      ∙ one_round l.names is number u named (reverse cs) c.waiting.notes.number c.waiting.notes.task (tasks_of gs) found m.0.frame.named rises inside
      (waiting_round gs cs m.1)
      ∙ ap (λ ts. map enc_task ts ++ found) (sym (from_newest number c cs (at_most_last (numbers_of (reverse cs)) c.waiting.notes.number number rises inside)))
    where
      rises : AllPairs (λ i j. i < j) (numbers_of (reverse cs) ++ c.waiting.notes.number ∷ [])
      rises = subst (AllPairs (λ i j. i < j)) (numbers_newest c cs) rise

      inside : Contains (numbers_of (reverse cs) ++ c.waiting.notes.number ∷ []) number
      inside = subst (λ ns. Contains ns number) (numbers_newest c cs) k

  -- the whole cycle, with the running task
  pub cycle_round : (gs : List ModelFrame) (cs : List Caller) (n : ℕ) (t : Task) → MeanCallers s l gs (reverse cs) → slice_get l.names n ≡ Some t
      → AreOpen l (numbers_of cs ++ n ∷ []) → kept_of l.records number ≡ None
      → round (enc_task u) (enc_task t ∷ tasks_of gs) [] ≡ map enc_task (tasks_from number cs ++ t ∷ [])
  cycle_round gs cs n t m there unended none =
      one_round l.names is number u named cs n t (tasks_of gs) [] there unended.rising
      (unended.others number (slice_get_within l.names number u named) none) below
      ∙ append-nil (map enc_task (tasks_from number cs ++ t ∷ []))
    where
      below : AllPairs (λ i j. i < j) (numbers_of cs) → Contains (numbers_of cs) number → (found : List (List ℕ))
          → round (enc_task u) (tasks_of gs) found ≡ map enc_task (tasks_from number cs) ++ found
      below rise k found =
          subst (λ xs. round (enc_task u) (tasks_of gs) found ≡ map enc_task (tasks_from number xs) ++ found) (reverse-reverse cs)
          (waiting_round gs (reverse cs) m (subst (λ xs. AllPairs (λ i j. i < j) (numbers_of xs)) (sym (reverse-reverse cs)) rise)
          (subst (λ xs. Contains (numbers_of xs) number) (sym (reverse-reverse cs)) k) found)

-- ---- they are tasks that the program has

module _ (s : Site) (l : Ledger) (is : AreTasks l.names) (number : ℕ) where
  waiting_true : (gs : List ModelFrame) (cs : List Caller) → MeanCallers s l gs cs → All IsTrueTask (tasks_from number (reverse cs))
  waiting_true [] [] m = All-nil IsTrueTask
  waiting_true [] (c ∷ cs) m = absurd m
  waiting_true (g ∷ gs) [] m = absurd m
  waiting_true (g ∷ gs) (c ∷ cs) m =
      subst (All IsTrueTask) (sym (ap (tasks_from number) (reverse-append (c ∷ []) cs) ∙ from_end number (reverse cs) c))
      (All-append IsTrueTask (tasks_from number (reverse cs)) (tasks_from number (c ∷ [])) (waiting_true gs cs m.1) (by (leb number c.waiting.notes.number)))
    where
      by : (b : Bool) → All IsTrueTask (cond b (c.waiting.notes.task ∷ []) [])
      by true = All-cons IsTrueTask c.waiting.notes.task [] (canonical_at l.names is c.waiting.notes.number c.waiting.notes.task m.0.frame.named) (All-nil IsTrueTask)
      by false = All-nil IsTrueTask

  pub cycle_true : (gs : List ModelFrame) (cs : List Caller) (n : ℕ) (t : Task) → MeanCallers s l gs (reverse cs) → slice_get l.names n ≡ Some t
      → All IsTrueTask (tasks_from number cs ++ t ∷ [])
  cycle_true gs cs n t m there =
      All-push IsTrueTask (tasks_from number cs) t
      (subst (λ xs. All IsTrueTask (tasks_from number xs)) (reverse-reverse cs) (waiting_true gs (reverse cs) m)) (canonical_at l.names is n t there)
