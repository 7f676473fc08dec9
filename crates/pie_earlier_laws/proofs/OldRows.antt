-- The rows of an accepted build: each is the record of a live task, and each live task has one.
use Rattle.std.proofs.Common.{suc, ◌≤◌, ◌≡◌, Bool, true, false, cond, Some, None, List, [], ◌∷◌, map, length, ◌⊎◌, inl, inr, sym, ◌∙◌, ap}
use Rattle.std.proofs.Common.{ap₂, subst, refl, bytes_eq}
use Rattle.pie_model.specs.Paths.{among}
use Rattle.pie_model.specs.Tasks.{Task}
use Rattle.pie_model.specs.Trees.{Node, task_of}
use Rattle.pie_model.specs.Evaluation.{World, Project, evaluation}
use Rattle.pie_model.specs.Records.{Record, record_of, needs_of}
use Rattle.pie_model.specs.Running.{IsDistinct}
use Rattle.pie_model.specs.Forest.{entered_tasks, live_evaluations}
use Rattle.pie_model.specs.Verdict.{verdict}
use Rattle.pie_model.specs.declared.words.Verdict.TheVariants.{Accepted}
use Rattle.pie_model.specs.Built.{row_before, put_row, in_row_order, store_rows}
use Rattle.pie_model.specs.inner.Consistent.{IsRecorded}
use Rattle.pie_model.proofs.Basics.{clash, among_here, among_there, among_split, same_bytes, bytes_same, apart_rest, apart_prefix}
use Rattle.pie_model.proofs.LooksLemmas.{some_same}
use Rattle.pie_model.proofs.Ways.{task_of-evaluation}
use Rattle.pie_step_laws.proofs.Tables.{none_some}
use Rattle.pie_earlier_laws.specs.Rows.{record_among, IsOldRow}
use Rattle.pie_earlier_laws.proofs.Accepting.{live_done, live_needs, few_live, live_distinct}

-- ---- members of lists of evaluations

abbrev In : Node → List Node → Type 0
In n [] = ⊥
In n (m ∷ ms) = (n ≡ m) ⊎ In n ms

in_put : (n m : Node) (ms : List Node) → (n ≡ m) ⊎ In n ms → In n (put_row m ms)
in_put n m [] i = i
in_put n m (x ∷ xs) i = go (row_before x m) i (in_put n m xs)
  where
    go : (b : Bool) → (n ≡ m) ⊎ ((n ≡ x) ⊎ In n xs) → ((n ≡ m) ⊎ In n xs → In n (put_row m xs)) → In n (cond b (x ∷ put_row m xs) (m ∷ x ∷ xs))
    go true (inl e) f = inr (f (inl e))
    go true (inr (inl e)) f = inl e
    go true (inr (inr j)) f = inr (f (inr j))
    go false j f = j

put_in : (n m : Node) (ms : List Node) → In n (put_row m ms) → (n ≡ m) ⊎ In n ms
put_in n m [] i = i
put_in n m (x ∷ xs) i = go (row_before x m) i (put_in n m xs)
  where
    later : (n ≡ m) ⊎ In n xs → (n ≡ m) ⊎ ((n ≡ x) ⊎ In n xs)
    later (inl e) = inl e
    later (inr j) = inr (inr j)

    go : (b : Bool) → In n (cond b (x ∷ put_row m xs) (m ∷ x ∷ xs)) → (In n (put_row m xs) → (n ≡ m) ⊎ In n xs) → (n ≡ m) ⊎ ((n ≡ x) ⊎ In n xs)
    go true (inl e) f = inr (inl e)
    go true (inr j) f = later (f j)
    go false j f = j

in_ordered : (n : Node) (ns : List Node) → In n ns → In n (in_row_order ns)
in_ordered n [] i = i
in_ordered n (m ∷ ms) (inl e) = in_put n m (in_row_order ms) (inl e)
in_ordered n (m ∷ ms) (inr i) = in_put n m (in_row_order ms) (inr (in_ordered n ms i))

ordered_in : (n : Node) (ns : List Node) → In n (in_row_order ns) → In n ns
ordered_in n [] i = i
ordered_in n (m ∷ ms) i = go (put_in n m (in_row_order ms) i) (ordered_in n ms)
  where
    go : (n ≡ m) ⊎ In n (in_row_order ms) → (In n (in_row_order ms) → In n ms) → (n ≡ m) ⊎ In n ms
    go (inl e) f = inl e
    go (inr j) f = inr (f j)

-- ---- each task once

length_put : (n : Node) (ms : List Node) → length (put_row n ms) ≡ suc (length ms)
length_put n [] = refl
length_put n (x ∷ xs) = go (row_before x n) (length_put n xs)
  where
    go : (b : Bool) → length (put_row n xs) ≡ suc (length xs) → length (cond b (x ∷ put_row n xs) (n ∷ x ∷ xs)) ≡ suc (suc (length xs))
    go true e = ap suc e
    go false e = refl

length_ordered : (ns : List Node) → length (in_row_order ns) ≡ length ns
length_ordered [] = refl
length_ordered (n ∷ ns) = length_put n (in_row_order ns) ∙ ap suc (length_ordered ns)

length_map : {A : Type 0} {B : Type 0} (f : A → B) (xs : List A) → length (map f xs) ≡ length xs
length_map f [] = refl
length_map f (x ∷ xs) = ap suc (length_map f xs)

put_tasks : (x : Task) (n : Node) (ms : List Node) → among x (map task_of (put_row n ms)) ≡ true → (x ≡ task_of n) ⊎ (among x (map task_of ms) ≡ true)
put_tasks x n [] i = among_split x (task_of n) [] i
put_tasks x n (m ∷ ms) i = go (row_before m n) i (put_tasks x n ms)
  where
    later : (x ≡ task_of n) ⊎ (among x (map task_of ms) ≡ true) → (x ≡ task_of n) ⊎ (among x (task_of m ∷ map task_of ms) ≡ true)
    later (inl e) = inl e
    later (inr j) = inr (among_there x (task_of m) (map task_of ms) j)

    there : (x ≡ task_of m) ⊎ (among x (map task_of (put_row n ms)) ≡ true)
        → (among x (map task_of (put_row n ms)) ≡ true → (x ≡ task_of n) ⊎ (among x (map task_of ms) ≡ true))
        → (x ≡ task_of n) ⊎ (among x (task_of m ∷ map task_of ms) ≡ true)
    there (inl e) f = inr (subst (λ z. among z (task_of m ∷ map task_of ms) ≡ true) (sym e) (among_here (task_of m) (map task_of ms)))
    there (inr j) f = later (f j)

    go : (b : Bool) → among x (map task_of (cond b (m ∷ put_row n ms) (n ∷ m ∷ ms))) ≡ true
        → (among x (map task_of (put_row n ms)) ≡ true → (x ≡ task_of n) ⊎ (among x (map task_of ms) ≡ true))
        → (x ≡ task_of n) ⊎ (among x (task_of m ∷ map task_of ms) ≡ true)
    go true j f = there (among_split x (task_of m) (map task_of (put_row n ms)) j) f
    go false j f = among_split x (task_of n) (task_of m ∷ map task_of ms) j

put_distinct : (n : Node) (ms : List Node) → among (task_of n) (map task_of ms) ≡ false → IsDistinct (map task_of ms)
    → IsDistinct (map task_of (put_row n ms))
put_distinct n [] a d = (refl, tt)
put_distinct n (m ∷ ms) a d =
    go (row_before m n) (put_distinct n ms (apart_rest (task_of n) (task_of m) (map task_of ms) a) d.1)
  where
    apart : (b : Bool) → among (task_of m) (map task_of (put_row n ms)) ≡ b → among (task_of m) (map task_of (put_row n ms)) ≡ false
    apart false e = e
    apart true e = by (put_tasks (task_of m) n ms e)
      where
        by : (task_of m ≡ task_of n) ⊎ (among (task_of m) (map task_of ms) ≡ true) → among (task_of m) (map task_of (put_row n ms)) ≡ false
        by (inl q) = apart_prefix (task_of n) (task_of m) (map task_of ms) a (sym q)
        by (inr j) = clash (among (task_of m) (map task_of ms)) j d.0

    go : (b : Bool) → IsDistinct (map task_of (put_row n ms)) → IsDistinct (map task_of (cond b (m ∷ put_row n ms) (n ∷ m ∷ ms)))
    go true q = (apart (among (task_of m) (map task_of (put_row n ms))) refl, q)
    go false q = (a, d)

ordered_tasks : (x : Task) (ns : List Node) → among x (map task_of (in_row_order ns)) ≡ true → among x (map task_of ns) ≡ true
ordered_tasks x [] i = i
ordered_tasks x (n ∷ ns) i = go (put_tasks x n (in_row_order ns) i) (ordered_tasks x ns)
  where
    go : (x ≡ task_of n) ⊎ (among x (map task_of (in_row_order ns)) ≡ true)
        → (among x (map task_of (in_row_order ns)) ≡ true → among x (map task_of ns) ≡ true) → among x (task_of n ∷ map task_of ns) ≡ true
    go (inl e) f = subst (λ z. among z (task_of n ∷ map task_of ns) ≡ true) (sym e) (among_here (task_of n) (map task_of ns))
    go (inr j) f = among_there x (task_of n) (map task_of ns) (f j)

ordered_distinct : (ns : List Node) → IsDistinct (map task_of ns) → IsDistinct (map task_of (in_row_order ns))
ordered_distinct [] d = tt
ordered_distinct (n ∷ ns) d = put_distinct n (in_row_order ns) (apart (among (task_of n) (map task_of (in_row_order ns))) refl) (ordered_distinct ns d.1)
  where
    apart : (b : Bool) → among (task_of n) (map task_of (in_row_order ns)) ≡ b → among (task_of n) (map task_of (in_row_order ns)) ≡ false
    apart false e = e
    apart true e = clash (among (task_of n) (map task_of ns)) (ordered_tasks (task_of n) ns e) d.0

-- ---- the rows of evaluations

module _ (w : World) where
  -- a row is the record of one of the evaluations
  record RowOf (ns : List Node) (t : Task) (r : Record) : Type 0 where
    of : Node
    listed : In of ns
    is : r ≡ record_of w of
    named : t ≡ task_of of

  row_of : (ns : List Node) (t : Task) (r : Record) → record_among (map (record_of w) ns) t ≡ Some r → RowOf ns t r
  row_of [] t r h = none_some None r refl h
  row_of (n ∷ ns) t r h = go (bytes_eq t (task_of n)) refl h (row_of ns t r)
    where
      later : RowOf ns t r → RowOf (n ∷ ns) t r
      later q = record { of = q.of; listed = inr q.listed; is = q.is; named = q.named }

      go : (b : Bool) → bytes_eq t (task_of n) ≡ b → cond b (Some (record_of w n)) (record_among (map (record_of w) ns) t) ≡ Some r
          → (record_among (map (record_of w) ns) t ≡ Some r → RowOf ns t r) → RowOf (n ∷ ns) t r
      go true e k f = record { of = n; listed = inl refl; is = sym (some_same (record_of w n) r k); named = same_bytes t (task_of n) e }
      go false e k f = later (f k)

  first_row : (ns : List Node) (n : Node) → In n ns → ((m : Node) → In m ns → task_of n ≡ task_of m → m ≡ n)
      → record_among (map (record_of w) ns) (task_of n) ≡ Some (record_of w n)
  first_row [] n i f = absurd i
  first_row (m ∷ ms) n i f = go (bytes_eq (task_of n) (task_of m)) refl i (λ j. first_row ms n j (λ x k. f x (inr k)))
    where
      other : {A : Type 0} → bytes_eq (task_of n) (task_of m) ≡ false → n ≡ m → A
      other e q =
          clash (bytes_eq (task_of n) (task_of m))
          (subst (λ z. bytes_eq (task_of n) (task_of z) ≡ true) q (bytes_same (task_of n))) e

      go : (b : Bool) → bytes_eq (task_of n) (task_of m) ≡ b → (n ≡ m) ⊎ In n ms
          → (In n ms → record_among (map (record_of w) ms) (task_of n) ≡ Some (record_of w n))
          → cond b (Some (record_of w m)) (record_among (map (record_of w) ms) (task_of n)) ≡ Some (record_of w n)
      go true e j g = ap (λ z. Some (record_of w z)) (f m (inl refl) (same_bytes (task_of n) (task_of m) e))
      go false e (inl q) g = other e q
      go false e (inr j) g = g j

  tasks_of-rows : (ns : List Node) → map (λ (r : Record). r.task) (map (record_of w) ns) ≡ map task_of ns
  tasks_of-rows [] = refl
  tasks_of-rows (n ∷ ns) = ap (λ z. task_of n ∷ z) (tasks_of-rows ns)

  module _ (P : Project) where
    record EvaluationOf (ts : List Task) (n : Node) : Type 0 where
      task : Task
      listed : among task ts ≡ true
      is : n ≡ evaluation w P task

    evaluation_of : (ts : List Task) (n : Node) → In n (map (evaluation w P) ts) → EvaluationOf ts n
    evaluation_of [] n i = absurd i
    evaluation_of (t ∷ ts) n (inl e) = record { task = t; listed = among_here t ts; is = e }
    evaluation_of (t ∷ ts) n (inr i) =
        let q = evaluation_of ts n i in record { task = q.task; listed = among_there q.task t ts q.listed; is = q.is }

    has_evaluation : (ts : List Task) (t : Task) → among t ts ≡ true → In (evaluation w P t) (map (evaluation w P) ts)
    has_evaluation [] t i = clash false i refl
    has_evaluation (x ∷ xs) t i = go (among_split t x xs i) (has_evaluation xs t)
      where
        go : (t ≡ x) ⊎ (among t xs ≡ true) → (among t xs ≡ true → In (evaluation w P t) (map (evaluation w P) xs))
            → In (evaluation w P t) (evaluation w P x ∷ map (evaluation w P) xs)
        go (inl e) f = inl (ap (evaluation w P) e)
        go (inr j) f = inr (f j)

    tasks_of-evaluations : (ts : List Task) → map task_of (map (evaluation w P) ts) ≡ ts
    tasks_of-evaluations [] = refl
    tasks_of-evaluations (t ∷ ts) = ap₂ (λ x y. x ∷ y) (task_of-evaluation w P t) (tasks_of-evaluations ts)

    module _ (roots : List Task) where
      found : (t : Task) (r : Record) (q : RowOf (in_row_order (live_evaluations w P roots)) t r)
          → (x : EvaluationOf (entered_tasks w P roots) q.of) → t ≡ x.task
      found t r q x = q.named ∙ ap task_of x.is ∙ task_of-evaluation w P x.task

      pub row_entered : (t : Task) (r : Record) → record_among (store_rows w P roots) t ≡ Some r
          → (among t (entered_tasks w P roots) ≡ true) × (r ≡ record_of w (evaluation w P t))
      row_entered t r h =
          let q = row_of (in_row_order (live_evaluations w P roots)) t r h in
          let x = evaluation_of (entered_tasks w P roots) q.of (ordered_in q.of (live_evaluations w P roots) q.listed) in
          let e : t ≡ x.task = found t r q x in (
            subst (λ z. among z (entered_tasks w P roots) ≡ true) (sym e) x.listed,
            q.is ∙ ap (record_of w) (x.is ∙ ap (evaluation w P) (sym e)),
          )

      pub entered_row : (t : Task) → among t (entered_tasks w P roots) ≡ true
          → record_among (store_rows w P roots) t ≡ Some (record_of w (evaluation w P t))
      entered_row t i =
          ap (record_among (store_rows w P roots)) (sym (task_of-evaluation w P t))
          ∙ first_row (in_row_order (live_evaluations w P roots)) (evaluation w P t)
          (in_ordered (evaluation w P t) (live_evaluations w P roots) (has_evaluation (entered_tasks w P roots) t i))
          (λ m j e. let x = evaluation_of (entered_tasks w P roots) m (ordered_in m (live_evaluations w P roots) j) in
          x.is ∙ ap (evaluation w P) (sym (task_of-evaluation w P x.task) ∙ sym (ap task_of x.is) ∙ sym e ∙ task_of-evaluation w P t))

      module _ (accepted : verdict w P roots ≡ Accepted) where
        pub old_row : (t : Task) (r : Record) → record_among (store_rows w P roots) t ≡ Some r → IsOldRow w P roots t r
        old_row t r h =
            let q = row_entered t r h in record { was = q.1; done = live_done w P roots accepted t q.0; live = q.0 }

        pub rows_closed : (t : Task) (r : Record) (u : Task) → record_among (store_rows w P roots) t ≡ Some r
            → among u (needs_of r.observations) ≡ true → IsRecorded (record_among (store_rows w P roots)) u
        rows_closed t r u h i =
            let q = row_entered t r h in record {
              kept = record_of w (evaluation w P u);
              is = entered_row u (live_needs w P roots accepted t u q.0 (subst (λ z. among u (needs_of z.observations) ≡ true) q.1 i));
            }

        pub rows_distinct : IsDistinct (map (λ (r : Record). r.task) (store_rows w P roots))
        rows_distinct =
            subst IsDistinct (sym (tasks_of-rows (in_row_order (live_evaluations w P roots))))
            (ordered_distinct (live_evaluations w P roots)
            (subst IsDistinct (sym (tasks_of-evaluations (entered_tasks w P roots))) (live_distinct w P roots accepted)))

        pub rows_few : length (store_rows w P roots) ≤ w.most_tasks
        rows_few =
            subst (λ n. n ≤ w.most_tasks)
            (sym (length_map (record_of w) (in_row_order (live_evaluations w P roots)) ∙ length_ordered (live_evaluations w P roots)
            ∙ length_map (evaluation w P) (entered_tasks w P roots)))
            (few_live w P roots accepted)
