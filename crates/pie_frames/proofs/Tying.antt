-- The tasks that wait are those of the stack, after each step of the walk.
use Rattle.std.proofs.Common.{◌≡◌, ◌≢◌, ℕ, zero, suc, ◌<◌, ◌≤◌, List, [], ◌∷◌, ◌++◌, Some, length, map, reverse, get_or, set, sym, ap, ◌∙◌, subst, refl, inl, inr, arith}
use Rattle.std.specs.List.{All, Contains}
use Rattle.std.proofs.lemmas.List.{map-append, reverse-append, get_or-set_other}
use Rattle.std.proofs.lemmas.List.Elements.{All-pop, All-push, Contains-append_left, Contains-append_right, Contains-get_or}
use Rattle.pie_check_laws.proofs.Members.{into_map}
use Rattle.pie_graph.specs.declared.edges.TaskNo.{TaskNo}
use Rattle.pie_graph.specs.Rows.{Row, row_at, no_edges}
use Rattle.pie_graph.proofs.Among.{contains_here, contains_later, contains_cases}
use Rattle.pie_walk.specs.declared.stack.Entry.{Entry}
use Rattle.pie_walk.specs.declared.stack.Entry.TheVariants.{Visit, Waits}
use Rattle.pie_walk.specs.States.{WalkState, OnTop, waiting}
use Rattle.pie_walk.specs.Standing.{Stands}
use Rattle.pie_walk.specs.Counts.{Counts}
use Rattle.pie_walk.proofs.StateSteps.{on_top}
use Rattle.pie_frames.specs.declared.parked.Parked.{Parked}
use Rattle.pie_frames.specs.inner.Standing.{HasFrom, IsParked, AreTaken, number_of, numbers_up}

-- ---- rows

-- the rows of some tasks stay
abbrev pub SameRows : List ℕ → List Row → List Row → Type 0
SameRows ns old new = (n : ℕ) → Contains ns n → row_at new n ≡ row_at old n

pub all_same : (ns : List ℕ) (old new : List Row) → new ≡ old → SameRows ns old new
all_same ns old new e n h = ap (λ (rows : List Row). row_at rows n) e

-- a task waits on while its row stays
pub waits_on : (old new : List Row) (p : Parked) → length old ≤ length new → row_at new (number_of p) ≡ row_at old (number_of p) → IsParked old p
    → IsParked new p
waits_on old new p l same is = record {
  waits = is.waits;
  required = is.required;
  callee = omega (arith, l, is.callee);
  row = subst (λ (r : Row). HasFrom r p.from (p.caller.waiting.notes.needs ++ p.callee.0 ∷ [])) (sym same) is.row;
}

contains_reversed : (xs : List ℕ) (x : ℕ) → Contains xs x → Contains (reverse xs) x
contains_reversed [] x h = h
contains_reversed (y ∷ ys) x h =
    subst (λ (zs : List ℕ). Contains zs x) (sym (reverse-append (y ∷ []) ys)) (elim (contains_cases y x ys h) [
      | inl e ↦ Contains-append_right (reverse ys) (y ∷ []) x (subst (Contains (y ∷ [])) e (contains_here y []))
      | inr later ↦ Contains-append_left (reverse ys) (y ∷ []) x (contains_reversed ys x later)
    ])

-- a task that waits is among the numbers
pub up_in : (ps : List Parked) (i : ℕ) (d : Parked) → i < length ps → Contains (numbers_up ps) (number_of (get_or ps i d))
up_in ps i d l = contains_reversed (map number_of ps) (number_of (get_or ps i d)) (into_map number_of ps (get_or ps i d) (Contains-get_or ps i d l))

pub all_wait_on : (old new : List Row) (ps : List Parked) → length old ≤ length new → SameRows (numbers_up ps) old new → All (IsParked old) ps
    → All (IsParked new) ps
all_wait_on old new ps l same all i d lt = waits_on old new (get_or ps i d) l (same (number_of (get_or ps i d)) (up_in ps i d lt)) (all i d lt)

-- ---- numbers

-- the newest task comes first
pub up_push : (ps : List Parked) (p : Parked) → numbers_up (ps ++ p ∷ []) ≡ number_of p ∷ numbers_up ps
up_push ps p = ap reverse (map-append number_of ps (p ∷ [])) ∙ reverse-append (map number_of ps) (number_of p ∷ [])

abbrev first_or : ℕ → List ℕ → ℕ
first_or d [] = d
first_or d (n ∷ ns) = n

abbrev rest_of : List ℕ → List ℕ
rest_of [] = []
rest_of (n ∷ ns) = ns

-- the entry of a task that was taken
pub waiting_entry : (es : List Entry) (n : ℕ) → Contains (waiting es) n → (t : TaskNo) × Contains es (Waits t) × (t.0 ≡ n)
waiting_entry [] n h = absurd (omega (arith, h.1))
waiting_entry (Visit task next ∷ es) n h =
    let below = waiting_entry es n h in (below.0, contains_later (Visit task next) (Waits below.0) es below.1, below.2)
waiting_entry (Waits task ∷ es) n h =
    elim (contains_cases task.0 n (waiting es) h) [
      | inl e ↦ (task, contains_here (Waits task) es, e)
      | inr later ↦ let below = waiting_entry es n later in (below.0, contains_later (Waits task) (Waits below.0) es below.1, below.2)
    ]

-- the first of those that were taken is the top
pub top_first : (walk : WalkState) (task : TaskNo) (n : ℕ) (ns : List ℕ) → OnTop walk (Waits task) → n ∷ ns ≡ waiting walk.stack → n ≡ task.0
top_first walk task n ns top e = ap (first_or n) (e ∙ ap waiting top.1)

-- the task in hand doesn't wait
pub in_hand_alone : (walk : WalkState) (task : TaskNo) (ps : List Parked) → OnTop walk (Waits task) → AreTaken walk ps (task.0 ∷ []) → (n : ℕ)
    → Contains (numbers_up ps) n → n ≢ task.0
in_hand_alone walk task ps top taken n h same =
    let others : numbers_up ps ≡ waiting top.0 = ap rest_of (taken.tied ∙ ap waiting top.1) in
    let entry = waiting_entry top.0 n (subst (λ (ns : List ℕ). Contains ns n) others h) in
    (on_top walk (Waits task) top taken.stands.holds).entries.1 (Waits entry.0) entry.1 (entry.2 ∙ same)

-- the row of the task in hand alone changes
pub other_rows : (walk : WalkState) (task : TaskNo) (ps : List Parked) (row : Row) (rows : List Row) → OnTop walk (Waits task)
    → AreTaken walk ps (task.0 ∷ []) → rows ≡ set walk.rows task.0 row → SameRows (numbers_up ps) walk.rows rows
other_rows walk task ps row rows top taken e n h =
    ap (λ (rs : List Row). row_at rs n) e ∙ get_or-set_other walk.rows task.0 n row no_edges (in_hand_alone walk task ps top taken n h)

-- ---- steps

-- no task is taken, and none that was is settled
pub same_taken : (old new : WalkState) (ps : List Parked) (in_hand : List ℕ) → Stands new → length old.rows ≤ length new.rows
    → SameRows (numbers_up ps) old.rows new.rows → Counts old new [] [] → AreTaken old ps in_hand → AreTaken new ps in_hand
same_taken old new ps in_hand stands l same counts taken = record {
  stands = stands;
  each = all_wait_on old.rows new.rows ps l same taken.each;
  tied = taken.tied ∙ sym counts.waits;
}

-- the same where no row changes
pub still_taken : (old new : WalkState) (ps : List Parked) (in_hand : List ℕ) → Stands new → new.rows ≡ old.rows → Counts old new [] []
    → AreTaken old ps in_hand → AreTaken new ps in_hand
still_taken old new ps in_hand stands e counts taken =
    same_taken old new ps in_hand stands (omega (arith, ap length e)) (all_same (numbers_up ps) old.rows new.rows e) counts taken

-- a task is taken
pub one_taken : (old new : WalkState) (ps : List Parked) (task : ℕ) → Stands new → new.rows ≡ old.rows → Counts old new (task ∷ []) []
    → AreTaken old ps [] → AreTaken new ps (task ∷ [])
one_taken old new ps task stands e counts taken = record {
  stands = stands;
  each = all_wait_on old.rows new.rows ps (omega (arith, ap length e)) (all_same (numbers_up ps) old.rows new.rows e) taken.each;
  tied = ap (λ (ns : List ℕ). task ∷ ns) taken.tied ∙ sym counts.waits;
}

-- the one in hand is settled
pub one_settled : (old new : WalkState) (ps : List Parked) (task : ℕ) → Stands new → length old.rows ≤ length new.rows
    → SameRows (numbers_up ps) old.rows new.rows → Counts old new [] (task ∷ []) → AreTaken old ps (task ∷ []) → AreTaken new ps []
one_settled old new ps task stands l same counts taken = record {
  stands = stands;
  each = all_wait_on old.rows new.rows ps l same taken.each;
  tied = ap rest_of (taken.tied ∙ sym counts.waits);
}

-- what holds of all that wait holds of the others, and of the newest
last_waits : (rows : List Row) (ps : List Parked) (p : Parked) → All (IsParked rows) (ps ++ p ∷ []) → All (IsParked rows) ps × IsParked rows p
last_waits rows ps p all = All-pop (IsParked rows) (ps ++ p ∷ []) ps (Some p) refl all

-- the newest one is in hand
pub unparked : (walk : WalkState) (all ps : List Parked) (p : Parked) → all ≡ ps ++ p ∷ [] → AreTaken walk all []
    → AreTaken walk ps (number_of p ∷ []) × IsParked walk.rows p
unparked walk all ps p e taken =
    let each = last_waits walk.rows ps p (subst (All (IsParked walk.rows)) e taken.each) in (
      record { stands = taken.stands; each = each.0; tied = sym (ap numbers_up e ∙ up_push ps p) ∙ taken.tied },
      each.1,
    )

-- the one in hand waits
pub parked : (walk : WalkState) (ps all : List Parked) (p : Parked) → all ≡ ps ++ p ∷ [] → IsParked walk.rows p → AreTaken walk ps (number_of p ∷ [])
    → AreTaken walk all []
parked walk ps all p e is taken = record {
  stands = taken.stands;
  each = subst (All (IsParked walk.rows)) (sym e) (All-push (IsParked walk.rows) ps p taken.each is);
  tied = ap numbers_up e ∙ up_push ps p ∙ taken.tied;
}

-- one task more
pub grown_rows : (old : List Row) (n : ℕ) → row_at (old ++ no_edges ∷ []) n ≡ row_at old n
grown_rows [] zero = refl
grown_rows [] (suc n) = refl
grown_rows (row ∷ rows) zero = refl
grown_rows (row ∷ rows) (suc n) = grown_rows rows n
