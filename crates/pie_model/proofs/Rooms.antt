-- Which tasks stand in a tree, how many levels it has, and that a plain tree is the same wherever it stands.
use Rattle.std.proofs.Common.{ℕ, zero, suc, ◌≤◌, ◌<◌, ◌-◌, ◌≡◌, Bool, true, false, cond, List, [], ◌∷◌, ◌++◌, length, ◌⊎◌, inl, inr, sym, ◌∙◌, ap, subst, refl}
use Rattle.std.proofs.Common.{arith, bytes_eq}
use Rattle.pie_model.specs.Paths.{among}
use Rattle.pie_model.specs.Tasks.{Task}
use Rattle.pie_model.specs.Trees.{Node, node, Trace, ends, looks, lists, writes, needs, Outcome, Ended, Failed, Cycled, Many, outcome_of, task_of, trace_of}
use Rattle.pie_model.specs.Trees.{is_plain, HasTask, HasBelow, StandsIn, StandsBelow, levels, entered, entered_below, enter}
use Rattle.pie_model.specs.Evaluation.{World, Project, start, evaluation_with, evaluation}
use Rattle.pie_model.proofs.Basics.{clash, cases, among_split, among_here, among_left, among_right, among_there, apart_rest, apart_prefix, front_or, same_bytes}
use Rattle.pie_model.proofs.MovedLemmas.{opened_apart, opened_among, plain_apart, MovedNode, same_node, no_room_node, through_node, moved_with}
use Rattle.pie_model.proofs.Kids.{Kids, evaluation_kids, kids_map, kids_both, kids_have, task_below, node_below, levels_kids, follow_many, levels_stop, StopsBy}

-- whether an outcome is no cycle
abbrev pub not_round : Outcome → Bool
not_round (Ended v) = true
not_round (Failed t k) = true
not_round (Cycled ts) = false
not_round Many = true

pub plain_not_round : (e : Outcome) → is_plain e ≡ true → not_round e ≡ true
plain_not_round (Ended v) h = refl
plain_not_round (Failed t k) h = refl
plain_not_round (Cycled ts) h = h
plain_not_round Many h = refl

-- unless it ended in a cycle, no task of a tree stands above it
pub root_apart : (n : ℕ) (w : World) (P : Project) (above : List Task) (t : Task) → not_round (outcome_of (evaluation_with n w P above t)) ≡ true
    → among t above ≡ false
root_apart n w P above t h = go (cases (among t above))
  where
    go : (among t above ≡ true) ⊎ (among t above ≡ false) → among t above ≡ false
    go (inl e) = clash false (sym (ap (λ x. not_round (outcome_of x)) (opened_among n w P above t e)) ∙ h) refl
    go (inr e) = e

pub tasks_apart : (n : ℕ) (w : World) (P : Project) (above : List Task) (t : Task) → not_round (outcome_of (evaluation_with n w P above t)) ≡ true
    → (x : Task) → HasTask x (evaluation_with n w P above t) → among x above ≡ false
tasks_apart zero w P above t h x (inl e) = subst (λ y. among y above ≡ false) (sym e) (root_apart zero w P above t h)
tasks_apart zero w P above t h x (inr k) = absurd k
tasks_apart (suc n) w P above t h x (inl e) = subst (λ y. among y above ≡ false) (sym e) (root_apart (suc n) w P above t h)
tasks_apart (suc n) w P above t h x (inr k) =
    apart_rest x t above (task_below (λ u m. (y : Task) → HasTask y m → among y (t ∷ above) ≡ false) x
    (trace_of (evaluation_with (suc n) w P above t))
    (evaluation_kids n w P above t _ not_round (λ v. refl) (λ u q. tasks_apart n w P (t ∷ above) u q) h)
    (λ u m f i. f x i) k)

-- a plain tree keeps its room
pub levels_room : (n : ℕ) (w : World) (P : Project) (above : List Task) (t : Task) → is_plain (outcome_of (evaluation_with n w P above t)) ≡ true
    → levels (evaluation_with n w P above t) ≤ n
levels_room zero w P above t h =
    clash false (sym (ap (λ x. is_plain (outcome_of x)) (opened_apart zero w P above t (plain_apart zero w P above t h))) ∙ h) refl
levels_room (suc n) w P above t h =
    up _ _ (levels_kids n (trace_of (evaluation_with (suc n) w P above t))
    (evaluation_kids n w P above t (λ u m. levels m ≤ n) is_plain (λ v. refl) (λ u q. levels_room n w P (t ∷ above) u q) h))
  where
    up : (a b : ℕ) → a ≤ b → suc a ≤ suc b
    up a b q = omega arith

-- a list without a task
abbrev pub without : Task → List Task → List Task
without t [] = []
without t (x ∷ xs) = cond (bytes_eq t x) (without t xs) (x ∷ without t xs)

step_shorter : (b : Bool) (x : Task) (ys xs : List Task) → length ys ≤ length xs → length (cond b ys (x ∷ ys)) ≤ length (x ∷ xs)
step_shorter true x ys xs h = omega arith
step_shorter false x ys xs h = omega arith

pub without_shorter : (t : Task) (xs : List Task) → length (without t xs) ≤ length xs
without_shorter t [] = omega arith
without_shorter t (x ∷ xs) = step_shorter (bytes_eq t x) x (without t xs) xs (without_shorter t xs)

pub without_less : (t : Task) (xs : List Task) → among t xs ≡ true → length (without t xs) < length xs
without_less t [] h = clash false h refl
without_less t (x ∷ xs) h = go (bytes_eq t x) h (without_shorter t xs) (without_less t xs)
  where
    go : (b : Bool) → cond b true (among t xs) ≡ true → length (without t xs) ≤ length xs → (among t xs ≡ true → length (without t xs) < length xs)
        → length (cond b (without t xs) (x ∷ without t xs)) < length (x ∷ xs)
    go true k f g = omega arith
    go false k f g = let q : length (without t xs) < length xs = g k in omega arith

pub among_without : (x t : Task) (xs : List Task) → among x xs ≡ true → (x ≡ t → ⊥) → among x (without t xs) ≡ true
among_without x t [] h f = h
among_without x t (y ∷ ys) h f = go (bytes_eq t y) refl (among_split x y ys h) (λ k. among_without x t ys k f)
  where
    go : (b : Bool) → bytes_eq t y ≡ b → (x ≡ y) ⊎ (among x ys ≡ true) → (among x ys ≡ true → among x (without t ys) ≡ true)
        → among x (cond b (without t ys) (y ∷ without t ys)) ≡ true
    go true e (inl q) r = absurd (f (q ∙ sym (same_bytes t y e)))
    go true e (inr k) r = r k
    go false e (inl q) r = front_or x y (without t ys) (inl q)
    go false e (inr k) r = among_there x y (without t ys) (r k)

-- no more levels than tasks
pub few_levels : (n : ℕ) (w : World) (P : Project) (above : List Task) (t : Task) → not_round (outcome_of (evaluation_with n w P above t)) ≡ true
    → (xs : List Task) → ((x : Task) → HasTask x (evaluation_with n w P above t) → among x xs ≡ true)
    → levels (evaluation_with n w P above t) ≤ length xs
few_levels zero w P above t h xs f = up (length (without t xs)) (length xs) (without_less t xs (f t (inl refl)))
  where
    up : (a b : ℕ) → a < b → 1 ≤ b
    up a b q = omega arith
few_levels (suc n) w P above t h xs f =
    up _ _ _ (levels_kids (length (without t xs)) (trace_of (evaluation_with (suc n) w P above t))
    (kids_map (λ u m. ((x : Task) → HasTask x m → HasBelow x whole)
    × (((x : Task) → HasTask x m → HasBelow x whole) → levels m ≤ length (without t xs))) _
    (λ u m q. q.1 q.0) whole
    (kids_both (λ u m. (x : Task) → HasTask x m → HasBelow x whole)
    (λ u m. ((x : Task) → HasTask x m → HasBelow x whole) → levels m ≤ length (without t xs)) whole
    (kids_have whole whole (λ x i. i))
    (evaluation_kids n w P above t (λ u m. ((x : Task) → HasTask x m → HasBelow x whole) → levels m ≤ length (without t xs)) not_round (λ v. refl)
    (λ u q inside. few_levels n w P (t ∷ above) u q (without t xs)
    (λ x i. among_without x t xs (f x (inr (inside x i))) (apart_prefix x t above (tasks_apart n w P (t ∷ above) u q x i))))
    h))))
    (without_less t xs (f t (inl refl)))
  where
    whole : Trace
    whole = trace_of (evaluation_with (suc n) w P above t)

    up : (a b c : ℕ) → a ≤ b → b < c → suc a ≤ c
    up a b c q r = omega arith

-- too long a chain is as long as its room
pub many_deep : (n : ℕ) (w : World) (P : Project) (above : List Task) (t : Task) → outcome_of (evaluation_with n w P above t) ≡ Many
    → suc n ≤ levels (evaluation_with n w P above t)
many_deep zero w P above t h = omega arith
many_deep (suc n) w P above t h =
    up _ _ (levels_stop (suc n) Many (trace_of (evaluation_with (suc n) w P above t))
    (evaluation_kids n w P above t (λ u m. outcome_of m ≡ Many → suc n ≤ levels m) not_round (λ v. refl)
    (λ u q. many_deep n w P (t ∷ above) u) (ap not_round h))
    stops)
  where
    up : (a b : ℕ) → a ≤ b → suc a ≤ suc b
    up a b q = omega arith

    apart : among t above ≡ false
    apart = root_apart (suc n) w P above t (ap not_round h)

    stops : StopsBy Many (trace_of (evaluation_with (suc n) w P above t))
    stops = subst (λ x. StopsBy Many (trace_of x)) (sym (opened_apart (suc n) w P above t apart))
        (follow_many w P t (evaluation_with n w P (t ∷ above)) w.most_events start
        (sym (ap outcome_of (opened_apart (suc n) w P above t apart)) ∙ h))

-- what was entered before stays, and what stands in a tree is entered with it
pub enter_keeps : (x t : Task) (all : List Task) → among x all ≡ true → among x (enter t all) ≡ true
enter_keeps x t all h = go (among t all)
  where
    go : (b : Bool) → among x (cond b all (all ++ t ∷ [])) ≡ true
    go true = h
    go false = among_left x all (t ∷ []) h

pub enter_has : (t : Task) (all : List Task) → among t (enter t all) ≡ true
enter_has t all = go (among t all) refl
  where
    go : (b : Bool) → among t all ≡ b → among t (cond b all (all ++ t ∷ [])) ≡ true
    go true e = e
    go false e = among_right t all (t ∷ []) (among_here t [])

pub enter_known : (t : Task) (all : List Task) → among t all ≡ true → enter t all ≡ all
enter_known t all h = ap (λ b. cond b all (all ++ t ∷ [])) h

mutual
  pub entered_keeps : (x : Task) (n : Node) (all : List Task) → among x all ≡ true → among x (entered n all) ≡ true
  entered_keeps x (node t k) all h = below_keeps x k (enter t all) (enter_keeps x t all h)

  pub below_keeps : (x : Task) (k : Trace) (all : List Task) → among x all ≡ true → among x (entered_below k all) ≡ true
  below_keeps x (ends e) all h = h
  below_keeps x (looks l p s k) all h = below_keeps x k all h
  below_keeps x (lists d es k) all h = below_keeps x k all h
  below_keeps x (writes p b k) all h = below_keeps x k all h
  below_keeps x (needs r u n k) all h = below_keeps x k (entered n all) (entered_keeps x n all h)

mutual
  pub stands_entered : (x : Task) (n : Node) (all : List Task) → HasTask x n → among x (entered n all) ≡ true
  stands_entered x (node t k) all (inl e) = below_keeps x k (enter t all) (subst (λ y. among y (enter t all) ≡ true) (sym e) (enter_has t all))
  stands_entered x (node t k) all (inr h) = stands_below x k (enter t all) h

  pub stands_below : (x : Task) (k : Trace) (all : List Task) → HasBelow x k → among x (entered_below k all) ≡ true
  stands_below x (ends e) all h = absurd h
  stands_below x (looks l p s k) all h = stands_below x k all h
  stands_below x (lists d es k) all h = stands_below x k all h
  stands_below x (writes p b k) all h = stands_below x k all h
  stands_below x (needs r u n k) all (inl h) = below_keeps x k (entered n all) (stands_entered x n all h)
  stands_below x (needs r u n k) all (inr h) = stands_below x k (entered n all) h

mutual
  pub nothing_new : (n : Node) (all : List Task) → ((x : Task) → HasTask x n → among x all ≡ true) → entered n all ≡ all
  nothing_new (node t k) all f =
      ap (entered_below k) (enter_known t all (f t (inl refl))) ∙ nothing_below k all (λ x i. f x (inr i))

  pub nothing_below : (k : Trace) (all : List Task) → ((x : Task) → HasBelow x k → among x all ≡ true) → entered_below k all ≡ all
  nothing_below (ends e) all f = refl
  nothing_below (looks l p s k) all f = nothing_below k all f
  nothing_below (lists d es k) all f = nothing_below k all f
  nothing_below (writes p b k) all f = nothing_below k all f
  nothing_below (needs r u n k) all f =
      ap (entered_below k) (nothing_new n all (λ x i. f x (inl i))) ∙ nothing_below k all (λ x i. f x (inr i))

-- a tree that ends in too long a chain has entered more tasks than may be
pub many_entered : (n : ℕ) (w : World) (P : Project) (above : List Task) (t : Task) (all : List Task)
    → outcome_of (evaluation_with n w P above t) ≡ Many
    → n < length (entered (evaluation_with n w P above t) all)
many_entered n w P above t all h =
    over _ _ (many_deep n w P above t h)
    (few_levels n w P above t (ap not_round h) (entered (evaluation_with n w P above t) all)
    (λ x i. stands_entered x (evaluation_with n w P above t) all i))
  where
    over : {c : ℕ} (a b : ℕ) → suc a ≤ b → b ≤ c → a < c
    over a b q r = omega arith

-- a plain tree stands unchanged wherever its levels have room and no task above stands in it
pub placed : (n m : ℕ) (w : World) (P : Project) (old_above new_above : List Task) (t : Task)
    → is_plain (outcome_of (evaluation_with n w P old_above t)) ≡ true
    → levels (evaluation_with n w P old_above t) ≤ m
    → ((a : Task) → among a new_above ≡ true → HasTask a (evaluation_with n w P old_above t) → ⊥)
    → evaluation_with m w P new_above t ≡ evaluation_with n w P old_above t
placed n m w P oa na t h fits apart = go (moved_with n m w P na oa t h)
  where
    go : MovedNode m na oa (evaluation_with m w P na t) (evaluation_with n w P oa t) → evaluation_with m w P na t ≡ evaluation_with n w P oa t
    go (same_node e) = e
    go (no_room_node e f) = absurd (f fits)
    go (through_node a ts e i o s) = absurd (apart a i s)

pub room_of_none : (w : World) → (w.most_tasks - length {A = Task} []) ≡ w.most_tasks
room_of_none w = omega arith

pub evaluation_room : (w : World) (P : Project) (t : Task) → evaluation w P t ≡ evaluation_with w.most_tasks w P [] t
evaluation_room w P t = ap (λ n. evaluation_with n w P [] t) (room_of_none w)

-- a plain tree is the evaluation with nothing above
pub alone : (n : ℕ) (w : World) (P : Project) (above : List Task) (t : Task) → n ≤ w.most_tasks
    → is_plain (outcome_of (evaluation_with n w P above t)) ≡ true
    → evaluation w P t ≡ evaluation_with n w P above t
alone n w P above t le h =
    evaluation_room w P t ∙ placed n w.most_tasks w P above [] t h (up _ _ _ (levels_room n w P above t h) le) (λ a i s. clash false i refl)
  where
    up : (a b c : ℕ) → a ≤ b → b ≤ c → a ≤ c
    up a b c q r = omega arith

-- each evaluation that stands in a tree is an evaluation below some tasks, with no more room
pub record Somewhere (w : World) (P : Project) (n : ℕ) (m : Node) : Type 0 where
  pub room : ℕ
  pub above : List Task
  pub fits : room ≤ n
  pub is : m ≡ evaluation_with room w P above (task_of m)

pub somewhere : (n : ℕ) (w : World) (P : Project) (above : List Task) (r : Task) (m : Node) → StandsIn m (evaluation_with n w P above r)
    → Somewhere w P n m
somewhere zero w P above r m (inl e) = record {
  room = 0;
  above = above;
  fits = omega arith;
  is = e
      ∙ ap (evaluation_with zero w P above) (sym (ap task_of e));
}
somewhere zero w P above r m (inr k) = absurd k
somewhere (suc n) w P above r m (inl e) =
    record { room = suc n; above = above; fits = omega arith; is = e ∙ ap (evaluation_with (suc n) w P above) (sym (ap task_of e)) }
somewhere (suc n) w P above r m (inr k) =
    more (node_below (λ u x. StandsIn m x → Somewhere w P n m) m (trace_of (evaluation_with (suc n) w P above r))
    (evaluation_kids n w P above r (λ u x. StandsIn m x → Somewhere w P n m) (λ e. true) (λ v. refl) (λ u q. somewhere n w P (r ∷ above) u m) refl)
    (λ u x i f s. f s) k)
  where
    more : Somewhere w P n m → Somewhere w P (suc n) m
    more s = let fact : s.room ≤ n = s.fits in record { room = s.room; above = s.above; fits = omega arith; is = s.is }

-- each plain evaluation in a tree is its task's evaluation with nothing above
pub node_alone : (n : ℕ) (w : World) (P : Project) (above : List Task) (r : Task) (m : Node) → n ≤ w.most_tasks
    → StandsIn m (evaluation_with n w P above r)
    → is_plain (outcome_of m) ≡ true → m ≡ evaluation w P (task_of m)
node_alone n w P above r m le i h = go (somewhere n w P above r m i)
  where
    go : Somewhere w P n m → m ≡ evaluation w P (task_of m)
    go s = s.is ∙ sym (alone s.room w P s.above (task_of m) (up _ _ _ s.fits le) (sym (ap (λ x. is_plain (outcome_of x)) s.is) ∙ h))
      where
        up : (a b c : ℕ) → a ≤ b → b ≤ c → a ≤ c
        up a b c q r = omega arith

-- all evaluations in a plain tree are plain
pub all_plain : (n : ℕ) (w : World) (P : Project) (above : List Task) (r : Task) (m : Node)
    → is_plain (outcome_of (evaluation_with n w P above r)) ≡ true
    → StandsIn m (evaluation_with n w P above r) → is_plain (outcome_of m) ≡ true
all_plain zero w P above r m h (inl e) = ap (λ x. is_plain (outcome_of x)) e ∙ h
all_plain zero w P above r m h (inr k) = absurd k
all_plain (suc n) w P above r m h (inl e) = ap (λ x. is_plain (outcome_of x)) e ∙ h
all_plain (suc n) w P above r m h (inr k) =
    node_below (λ u x. StandsIn m x → is_plain (outcome_of m) ≡ true) m (trace_of (evaluation_with (suc n) w P above r))
    (evaluation_kids n w P above r (λ u x. StandsIn m x → is_plain (outcome_of m) ≡ true) is_plain (λ v. refl)
    (λ u q. all_plain n w P (r ∷ above) u m q) h)
    (λ u x i f s. f s) k

-- a task that stands in a tree has an evaluation in it
pub record Standing (x : Task) (n : Node) : Type 0 where
  pub found : Node
  pub is : task_of found ≡ x
  pub stands : StandsIn found n

pub record StandingBelow (x : Task) (k : Trace) : Type 0 where
  pub found : Node
  pub is : task_of found ≡ x
  pub stands : StandsBelow found k

in_kid : (x : Task) (n : Node) (k : Trace) → ((m : Node) → StandsIn m n → StandsBelow m k) → Standing x n → StandingBelow x k
in_kid x n k f s = record { found = s.found; is = s.is; stands = f s.found s.stands }

in_rest : (x : Task) (k0 k : Trace) → ((m : Node) → StandsBelow m k0 → StandsBelow m k) → StandingBelow x k0 → StandingBelow x k
in_rest x k0 k f s = record { found = s.found; is = s.is; stands = f s.found s.stands }

in_node : (x t : Task) (k : Trace) → StandingBelow x k → Standing x (node t k)
in_node x t k s = record { found = s.found; is = s.is; stands = inr s.stands }

mutual
  pub standing : (x : Task) (n : Node) → HasTask x n → Standing x n
  standing x (node t k) (inl e) = record { found = node t k; is = sym e; stands = inl refl }
  standing x (node t k) (inr h) = in_node x t k (standing_below x k h)

  pub standing_below : (x : Task) (k : Trace) → HasBelow x k → StandingBelow x k
  standing_below x (ends e) h = absurd h
  standing_below x (looks l p s k) h = in_rest x k (looks l p s k) (λ m i. i) (standing_below x k h)
  standing_below x (lists d es k) h = in_rest x k (lists d es k) (λ m i. i) (standing_below x k h)
  standing_below x (writes p b k) h = in_rest x k (writes p b k) (λ m i. i) (standing_below x k h)
  standing_below x (needs r u n k) (inl h) = in_kid x n (needs r u n k) (λ m i. inl i) (standing x n h)
  standing_below x (needs r u n k) (inr h) = in_rest x k (needs r u n k) (λ m i. inr i) (standing_below x k h)

mutual
  pub has_task : (m n : Node) → StandsIn m n → HasTask (task_of m) n
  has_task m (node t k) (inl e) = inl (ap task_of e)
  has_task m (node t k) (inr h) = inr (has_below m k h)

  pub has_below : (m : Node) (k : Trace) → StandsBelow m k → HasBelow (task_of m) k
  has_below m (ends e) h = absurd h
  has_below m (looks l p s k) h = has_below m k h
  has_below m (lists d es k) h = has_below m k h
  has_below m (writes p b k) h = has_below m k h
  has_below m (needs r u n k) (inl h) = inl (has_task m n h)
  has_below m (needs r u n k) (inr h) = inr (has_below m k h)

-- each evaluation that a plain tree requires is its task's own, and plain
abbrev pub IsOwn : World → Project → Task → Node → Type 0
IsOwn w P u n = (n ≡ evaluation w P u) × (is_plain (outcome_of n) ≡ true)

pub own_kids : (n : ℕ) (w : World) (P : Project) (above : List Task) (t : Task) → n ≤ w.most_tasks
    → is_plain (outcome_of (evaluation_with n w P above t)) ≡ true
    → Kids (IsOwn w P) (trace_of (evaluation_with n w P above t))
own_kids zero w P above t le h = tt
own_kids (suc n) w P above t le h =
    evaluation_kids n w P above t (IsOwn w P) is_plain (λ v. refl)
    (λ u q. (sym (alone n w P (t ∷ above) u (omega arith) q), q)) h

pub root_many : (w : World) (P : Project) (t : Task) (all : List Task) → outcome_of (evaluation w P t) ≡ Many
    → w.most_tasks < length (entered (evaluation w P t) all)
root_many w P t all h =
    up _ _ _ (many_entered (w.most_tasks - length {A = Task} []) w P [] t all h) (room_of_none w)
  where
    up : (a b c : ℕ) → a < c → a ≡ b → b < c
    up a b c p e = omega arith
