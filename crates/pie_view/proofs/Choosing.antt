-- What is seen of a set of tasks that grows by one.
use Rattle.std.proofs.Common.{◌≡◌, ◌⊎◌, ℕ, ◌<◌, ◌≤◌, ◌+◌, Bool, true, false, List, [], ◌∷◌, ◌++◌, length, get_or, take, sym, ap, ◌∙◌, subst, inl, inr, arith}
use Rattle.std.specs.List.{Contains}
use Rattle.std.specs.List.Sorted.{IsStrictlyIncreasing}
use Rattle.std.proofs.lemmas.List.Kept.{AllPairs-from_increasing}
use Rattle.std.proofs.lemmas.List.{take_more, take_all, get_or-take, get_or_default, get_or-map, length-take-le, length-map}
use Rattle.std.proofs.lemmas.List.Elements.{Contains-append_left, Contains-push, Contains-push_cases}
use Rattle.pie_graph.specs.declared.edges.TaskNo.{TaskNo}
use Rattle.pie_graph.specs.Numbers.{numbers, IsMarked}
use Rattle.pie_view.specs.declared.seen.Seen.{Seen}
use Rattle.pie_view.specs.declared.seen.Seen.TheVariants.{Absent, By, Clash}
use Rattle.pie_view.specs.Seen.{IsOnly, Marked, seen_with}

-- the same set
pub only_same : (P Q : ℕ → Type 0) (seen : Seen) → ((k : ℕ) → P k → Q k) → ((k : ℕ) → Q k → P k) → IsOnly P seen → IsOnly Q seen
only_same P Q Absent to back h = λ k q. h k (back k q)
only_same P Q (By one) to back h = (to one.0 h.0, λ k q. h.1 k (back k q))
only_same P Q Clash to back h = (h.0, h.1, to h.0 h.2, to h.1 h.3, h.4)

-- a new task in the set
only_more : (P Q : ℕ → Type 0) (seen : Seen) (task : TaskNo) → ((k : ℕ) → P k → Q k) → ((k : ℕ) → Q k → P k ⊎ (task.0 ≡ k)) → Q task.0 → (P task.0 → ⊥)
    → IsOnly P seen → IsOnly Q (seen_with seen task true)
only_more P Q Absent task to back here new h = (here, λ k q. elim (back k q) [ inl p ↦ absurd (h k p) | inr e ↦ sym e ])
only_more P Q (By one) task to back here new h = (one.0, task.0, to one.0 h.0, here, λ e. new (subst P e h.0))
only_more P Q Clash task to back here new h = (h.0, h.1, to h.0 h.2, to h.1 h.3, h.4)

new_one : (ns : List ℕ) (i n : ℕ) → IsStrictlyIncreasing ns → i < length ns → n ≡ get_or ns i 0 → Contains (take i ns) n → ⊥
new_one ns i n up l is h =
    let short : length (take i ns) ≡ i = length-take-le i ns (omega arith) in
    let low : h.0 < i = omega (arith, h.1, short) in
    let at : get_or ns h.0 0 ≡ n = get_or_default ns h.0 0 n (omega arith) ∙ sym (get_or-take i ns h.0 n low) ∙ h.2 in
    omega (arith, AllPairs-from_increasing ns up h.0 i 0 low l, at, is)

-- one more writer is looked at
pub turn : (ns : List ℕ) (marks : List Bool) (i : ℕ) (task : TaskNo) (seen : Seen) (mark : Bool) → i < length ns → task.0 ≡ get_or ns i 0
    → IsStrictlyIncreasing ns → get_or marks task.0 false ≡ mark
    → IsOnly (Marked (take i ns) marks) seen → IsOnly (Marked (take (i + 1) ns) marks) (seen_with seen task mark)
turn ns marks i task seen mark l is up m h =
    let more : take (i + 1) ns ≡ take i ns ++ task.0 ∷ [] = take_more ns i 0 l ∙ ap (λ (n : ℕ). take i ns ++ n ∷ []) (sym is) in
    let to : (k : ℕ) → Marked (take i ns) marks k → Marked (take (i + 1) ns) marks k =
    λ k p. (subst (λ (xs : List ℕ). Contains xs k) (sym more) (Contains-append_left (take i ns) (task.0 ∷ []) k p.0), p.1) in
    let back : (k : ℕ) → Marked (take (i + 1) ns) marks k → Marked (take i ns) marks k ⊎ (task.0 ≡ k) =
    λ k q. elim (Contains-push_cases (take i ns) task.0 k (subst (λ (xs : List ℕ). Contains xs k) more q.0)) [ inl p ↦ inl (p, q.1) | inr e ↦ inr e ] in
    by_mark ns marks i task seen mark m to back (subst (λ (xs : List ℕ). Contains xs task.0) (sym more) (Contains-push (take i ns) task.0))
    (λ p. new_one ns i task.0 up l is p.0) h
  where
    by_mark : (ns : List ℕ) (marks : List Bool) (i : ℕ) (task : TaskNo) (seen : Seen) (mark : Bool) → get_or marks task.0 false ≡ mark
        → ((k : ℕ) → Marked (take i ns) marks k → Marked (take (i + 1) ns) marks k) → ((k : ℕ) → Marked (take (i + 1) ns) marks k
        → Marked (take i ns) marks k ⊎ (task.0 ≡ k))
        → Contains (take (i + 1) ns) task.0 → (Marked (take i ns) marks task.0 → ⊥) → IsOnly (Marked (take i ns) marks) seen
        → IsOnly (Marked (take (i + 1) ns) marks) (seen_with seen task mark)
    by_mark ns marks i task seen true m to back here new h = only_more (Marked (take i ns) marks) (Marked (take (i + 1) ns) marks) seen task to back
        (here, m) new h
    by_mark ns marks i task seen false m to back here new h =
        only_same (Marked (take i ns) marks) (Marked (take (i + 1) ns) marks) seen to
        (λ k q. elim (back k q) [
          | inl p ↦ p
          | inr e ↦ absurd (let on : get_or marks task.0 false ≡ true = subst (λ (n : ℕ). IsMarked marks n)
              (sym e) q.1 in (cc))
        ]) h

-- none is looked at yet
pub none : (ns : List ℕ) (marks : List Bool) → IsOnly (Marked (take 0 ns) marks) Absent
none ns marks k h = absurd (omega (arith, h.0.1))

-- all are looked at
pub all : (ns : List ℕ) (marks : List Bool) (i : ℕ) (seen : Seen) → length ns ≤ i → IsOnly (Marked (take i ns) marks) seen → IsOnly (Marked ns marks) seen
all ns marks i seen l h = subst (λ (xs : List ℕ). IsOnly (Marked xs marks) seen) (take_all i ns l) h

-- a number of a list
pub number_at : (tasks : List TaskNo) (i : ℕ) (d : TaskNo) → i < length tasks → (get_or tasks i d).0 ≡ get_or (numbers tasks) i 0
number_at tasks i d l = sym (get_or-map (λ (t : TaskNo). t.0) tasks i d 0 l)

-- the same in the words of the program
pub turn_at : (tasks : List TaskNo) (marks : List Bool) (i : ℕ) (task : TaskNo) (seen new : Seen) (mark : Bool) → i < length tasks
    → task.0 ≡ get_or (numbers tasks) i 0 → IsStrictlyIncreasing (numbers tasks)
    → get_or marks task.0 false ≡ mark → IsOnly (Marked (take i (numbers tasks)) marks) seen → new ≡ seen_with seen task mark
    → IsOnly (Marked (take (i + 1) (numbers tasks)) marks) new
turn_at tasks marks i task seen new mark l is up m h e =
    subst (IsOnly (Marked (take (i + 1) (numbers tasks)) marks)) (sym e)
    (turn (numbers tasks) marks i task seen mark (omega (arith, l, length-map tasks (λ (t : TaskNo). t.0))) is up m h)

pub all_at : (tasks : List TaskNo) (marks : List Bool) (i : ℕ) (seen : Seen) → length tasks ≤ i → IsOnly (Marked (take i (numbers tasks)) marks) seen
    → IsOnly (Marked (numbers tasks) marks) seen
all_at tasks marks i seen l h = all (numbers tasks) marks i seen (omega (arith, l, length-map tasks (λ (t : TaskNo). t.0))) h
