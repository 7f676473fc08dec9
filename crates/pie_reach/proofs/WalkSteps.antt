-- A walk from its start to its end.
use Rattle.std.proofs.Common.{◌≡◌, ◌≢◌, ℕ, ◌<◌, ◌+◌, Bool, true, false, List, [], ◌∷◌, ◌++◌, length, get_or, sym, ap, ◌∙◌, subst, inl, inr, arith}
use Rattle.std.specs.List.{Contains}
use Rattle.std.proofs.lemmas.Bool.Decides.{eqb_tells}
use Rattle.std.proofs.lemmas.List.{length_push}
use Rattle.std.proofs.lemmas.List.Elements.{Contains-append_left, Contains-push, Contains-push_cases, Contains-get_or}
use Rattle.std.proofs.lemmas.Bool.{cases_lt}
use Rattle.std.proofs.lemmas.List.{get_or_past, length-map, map-append}
use Rattle.std.proofs.Math.ListN as at
use Rattle.pie_graph.specs.declared.edges.TaskNo.{TaskNo}
use Rattle.pie_graph.specs.Numbers.{numbers, IsMarked, AllBelow, Exactly}
use Rattle.pie_graph.specs.Rows.{Row, no_edges, Calls}
use Rattle.pie_reach.specs.inner.Reaches.{Leads}
use Rattle.pie_reach.specs.inner.Reaches.Leads.{itself, step}
use Rattle.pie_reach.specs.inner.Walks.{Walked, meet_all, unmarked, GoesTo, Ready, Walking, IsClosure}
use Rattle.std.proofs.Common.{set}
use Rattle.std.proofs.lemmas.List.{get_or-set_same, get_or-set_other}
use Rattle.pie_graph.proofs.Among.{contains_here}
use Rattle.pie_reach.proofs.Meets.{all_met, alone}

pub leads_on : (goes : ℕ → ℕ → Type 0) (a b c : ℕ) → Leads goes a b → goes b c → Leads goes a c
leads_on goes a b c (itself {a = d}) g = step g itself
leads_on goes a b c (step {a = x} {b = y} {c = z} first rest) g = step first (leads_on goes y b c rest g)

pub all_below : (count : ℕ) (ns : List ℕ) → ((n : ℕ) → Contains ns n → n < count) → AllBelow count ns
all_below count ns h = λ k d l. h (get_or ns k d) (Contains-get_or ns k d l)

pub caller_below : (rows : List Row) (a b : ℕ) → Calls rows a b → a < length rows
caller_below rows a b h =
    elim (cases_lt a (length rows)) [
      | inl l ↦ l
      | inr past ↦ absurd (omega (arith, (subst (λ (row : Row). Contains row.needs b) (get_or_past rows a no_edges past) h).1))
    ]

pub goes_up : (rows : List Row) (callee : ℕ) (found : List ℕ) → Exactly (λ k. Calls rows k callee) found
    → GoesTo (length rows) (λ a b. Calls rows b a) callee found
goes_up rows callee found x = record {
  below = λ k h. caller_below rows k callee (x.only k h);
  only = x.only;
  each = x.each;
}

pub walk_starts : (count : ℕ) (goes : ℕ → ℕ → Type 0) (starts : List ℕ) (w : Walked) → length w.marks ≡ count → ((n : ℕ) → IsMarked w.marks n → ⊥)
    → w.work ≡ [] → AllBelow count starts → Walking count goes starts (meet_all starts w)
walk_starts count goes starts w size none idle below =
    let met = all_met starts w (subst (λ (s : ℕ). AllBelow s starts) (sym size) below) in
    record {
      ready = record {
        sized = met.sized ∙ size;
        below = λ k h.
            elim (met.work_only k h) [
              | inl i ↦ absurd (omega (arith, (subst (λ (ns : List ℕ). Contains ns k) idle i).1))
              | inr i ↦ subst (λ m. m < count) i.2
                  (below i.0 k i.1)
            ];
      };
      sound = λ k h. elim (met.only k h) [ inl i ↦ absurd (none k i) | inr i ↦ (k, i.0, itself) ];
      started = met.marked;
      waiting = λ k h. elim (met.work_only k h) [ inl i ↦ absurd (omega (arith, (subst (λ (ns : List ℕ). Contains ns k) idle i).1)) | inr i ↦ met.marked k i ];
      closed = λ k h. elim (met.only k h) [ inl i ↦ absurd (none k i) | inr i ↦ inl i.1 ];
    }

pub ready_steps : (count : ℕ) (goes : ℕ → ℕ → Type 0) (w : Walked) (rest : List ℕ) (n : ℕ) (found : List ℕ) → w.work ≡ rest ++ n ∷ []
    → GoesTo count goes n found → Ready count w → Ready count (meet_all found (record { marks = w.marks; work = rest }))
ready_steps count goes w rest n found popped to ready =
    let met = all_met found (record { marks = w.marks; work = rest })
    (subst (λ (s : ℕ). AllBelow s found) (sym ready.sized) (all_below count found to.below)) in
    record {
      sized = met.sized ∙ ready.sized;
      below = λ k h. elim (met.work_only k h) [
        | inl i ↦ ready.below k
            (subst (λ (ns : List ℕ). Contains ns k) (sym popped) (Contains-append_left rest (n ∷ []) k i))
        | inr i ↦ to.below k i
      ];
    }

pub walk_steps : (count : ℕ) (goes : ℕ → ℕ → Type 0) (starts : List ℕ) (w : Walked) (rest : List ℕ) (n : ℕ) (found : List ℕ) → w.work ≡ rest ++ n ∷ []
    → GoesTo count goes n found → Walking count goes starts w → Walking count goes starts (meet_all found (record { marks = w.marks; work = rest }))
walk_steps count goes starts w rest n found popped to walking =
    let met = all_met found (record { marks = w.marks; work = rest })
    (subst (λ (s : ℕ). AllBelow s found) (sym walking.ready.sized) (all_below count found to.below)) in
    let waits : Contains w.work n = subst (λ (ns : List ℕ). Contains ns n) (sym popped) (Contains-push rest n) in
    let led = walking.sound n (walking.waiting n waits) in
    record {
      ready = ready_steps count goes w rest n found popped to walking.ready;
      sound = λ k h. elim (met.only k h) [ inl i ↦ walking.sound k i | inr i ↦ (led.0, led.1, leads_on goes led.0 n k led.2 (to.only k i.0)) ];
      started = λ k h. met.kept k (walking.started k h);
      waiting = λ k h. elim (met.work_only k h) [
        | inl i ↦ met.kept k (walking.waiting k (subst (λ (ns : List ℕ). Contains ns k) (sym popped) (Contains-append_left rest (n ∷ []) k i)))
        | inr i ↦ met.marked k i
      ];
      closed = λ k h. elim (met.only k h) [
        | inl i ↦ elim (eqb_tells k n) [
          | inl e ↦ inr (λ m g. met.marked m (to.each m (subst (λ (a : ℕ). goes a m) e.1 g)))
          | inr e ↦ elim (walking.closed k i) [
            | inl j ↦ elim (Contains-push_cases rest n k (subst (λ (ns : List ℕ). Contains ns k) popped j)) [
              | inl there ↦ inl (met.work_kept k there)
              | inr same ↦ absurd (e.1 (sym same))
            ]
            | inr j ↦ inr (λ m g. met.kept m (j m g))
          ]
        ]
        | inr i ↦ inl i.1
      ];
    }

pub nearer_step : (w : Walked) (rest : List ℕ) (n : ℕ) (found : List ℕ) → w.work ≡ rest ++ n ∷ [] → AllBelow (length w.marks) found
    → unmarked (meet_all found (record { marks = w.marks; work = rest })).marks + length
    (meet_all found (record { marks = w.marks; work = rest })).work < unmarked w.marks + length w.work
nearer_step w rest n found popped below =
    let met = all_met found (record { marks = w.marks; work = rest }) below in
    omega (arith, met.total, ap length popped, length_push rest n)

closed_under : (count : ℕ) (goes : ℕ → ℕ → Type 0) (starts : List ℕ) (w : Walked) → w.work ≡ [] → Walking count goes starts w → (a b : ℕ) → Leads goes a b
    → IsMarked w.marks a → IsMarked w.marks b
closed_under count goes starts w idle walking a b (itself {a = c}) is = is
closed_under count goes starts w idle walking a b (step {a = x} {b = y} {c = z} first rest) is =
    elim (walking.closed a is) [
      | inl i ↦ absurd (omega (arith, (subst (λ (ns : List ℕ). Contains ns a) idle i).1))
      | inr all ↦ closed_under count goes starts w idle walking y b rest (all y first)
    ]

pub walk_ends : (count : ℕ) (goes : ℕ → ℕ → Type 0) (starts : List ℕ) (w : Walked) → w.work ≡ [] → Walking count goes starts w
    → IsClosure count goes starts w.marks
walk_ends count goes starts w idle walking = record {
  sized = walking.ready.sized;
  only = walking.sound;
  each = λ k led. closed_under count goes starts w idle walking led.0 k led.2 (walking.started led.0 led.1);
}

pub number_below : (bound : ℕ) (nos : List TaskNo) (i : ℕ) (d : TaskNo) → AllBelow bound (numbers nos) → i < length nos → (get_or nos i d).0 < bound
number_below bound nos i d below l = subst (λ (n : ℕ). n < bound) (at.get_or-map (λ (t : TaskNo). t.0) nos i d)
    (below i d.0 (omega (arith, length-map nos (λ (t : TaskNo). t.0))))

-- the last number that waits is taken
pub popped_last : (w : Walked) (marks : List Bool) (work rest : List TaskNo) (task : TaskNo)
    → (let v : Walked = record { marks = marks; work = numbers work } in v ≡ w) → work ≡ rest ++ task ∷ [] → w.work ≡ numbers rest ++ task.0 ∷ []
popped_last w marks work rest task view split = sym (ap (λ (v : Walked). v.work) view) ∙ ap numbers split ∙ map-append (λ (t : TaskNo). t.0) rest (task ∷ [])

-- a way in the other direction
pub turned : (goes : ℕ → ℕ → Type 0) (a b : ℕ) → Leads (λ x y. goes y x) a b → Leads goes b a
turned goes a b (itself {a = c}) = itself
turned goes a b (step {a = x} {b = y} {c = z} first rest) = leads_on goes b y a (turned goes y b rest) first

pub turned_back : (goes : ℕ → ℕ → Type 0) (a b : ℕ) → Leads goes b a → Leads (λ x y. goes y x) a b
turned_back goes a b h = turned (λ x y. goes y x) b a h

pub upstream_exactly : (rows : List Row) (n : ℕ) (marks after : List Bool) (found : List ℕ) → n < length rows
    → IsClosure (length rows) (λ a b. Calls rows b a) (n ∷ []) marks → after ≡ set marks n false → Exactly (IsMarked after) found
    → Exactly (λ k. Leads (Calls rows) k n × (k ≢ n)) found
upstream_exactly rows n marks after found l closed e x = record {
  ascending = x.ascending;
  only = λ k h.
      let is : get_or (set marks n false) k false ≡ true = ap (λ (ms : List Bool). get_or ms k false) (sym e) ∙ x.only k h in
      elim (eqb_tells k n) [
        | inl same ↦
            let here : get_or (set marks n false) k false ≡ false = ap (λ (m : ℕ). get_or (set marks n false) m false) same.1
            ∙ get_or-set_same marks n false false (omega (arith, closed.sized)) in
            absurd (cc)
        | inr other ↦
            let led = closed.only k (sym (get_or-set_other marks n k false false other.1) ∙ is) in
            (turned (Calls rows) n k (subst (λ (s : ℕ). Leads (λ a b. Calls rows b a) s k) (sym (alone n led.0 led.1)) led.2), other.1)
      ];
  each = λ k h. x.each k (ap (λ (ms : List Bool). get_or ms k false) e ∙ get_or-set_other marks n k false false h.1
      ∙ closed.each k (n, contains_here n [], turned_back (Calls rows) n k h.0));
}
