-- Places with room before the first task and behind the last one, and what moving tasks leaves of them.
use Rattle.std.proofs.Common.{◌≡◌, ◌≢◌, ◌⊎◌, ℕ, ◌<◌, ◌≤◌, ◌+◌, ◌-◌, List, [], ◌∷◌, ◌++◌, length, get_or, sym, ap, ◌∙◌, subst, inl, inr, arith}
use Rattle.std.specs.Prelude.{slice_index}
use Rattle.std.specs.List.{Contains}
use Rattle.std.proofs.lemmas.Bool.{cases_lt}
use Rattle.std.proofs.lemmas.Bool.Decides.{eqb_tells}
use Rattle.std.proofs.lemmas.List.{get_or_append_left, get_or_default, length_push}
use Rattle.std.proofs.lemmas.List.Elements.{All-contains, Contains-get_or}
use Rattle.std.proofs.Math.Seq.{get_or-append_seam}
use Rattle.pie_graph.specs.Numbers.{AllBelow}
use Rattle.pie_graph.proofs.Among.{contains_here, contains_later, contains_cases}
use Rattle.pie_order.specs.Places.{AreApart}
use Rattle.pie_order.specs.Runs.{SameOrder, GoFirst, GoLast, AreInOrder, IsSpan, IsRun}
use Rattle.pie_order.specs.Standing.{AreStanding}

-- a list holds a number or not
pub held : (ns : List ℕ) (n : ℕ) → Contains ns n ⊎ (Contains ns n → ⊥)
held [] n = inr (λ h. omega (arith, h.1))
held (m ∷ ns) n = elim (eqb_tells m n) [
  | inl same ↦ inl (subst (Contains (m ∷ ns)) same.1 (contains_here m ns))
  | inr other ↦ elim (held ns n) [
    | inl there ↦ inl (contains_later m n ns there)
    | inr none ↦ inr (λ h. elim (contains_cases m n ns h) [ inl e ↦ other.1 e | inr later ↦ none later ])
  ]
]

pub stands_empty : (low : ℕ) → 50000 ≤ low → AreStanding 0 low low []
stands_empty low bottom = record {
  few = omega arith;
  within = omega arith;
  bottom = bottom;
  ends = omega arith;
  from = λ n l. absurd (omega arith);
  under = λ n l. absurd (omega arith);
  later = λ n s l. absurd (omega arith);
  apart = λ a b l m e. absurd (omega arith);
}

pub stands_grown : (settled low high : ℕ) (places : List ℕ) → length places < 50000 → AreStanding settled low high places
    → AreStanding settled low high (places ++ length places ∷ [])
stands_grown settled low high places few standing =
    let n : ℕ = length places in
    let grown : List ℕ = places ++ n ∷ [] in
    let size : length grown ≡ n + 1 = omega (arith, length_push places n) in
    let old : (k : ℕ) → k < n → slice_index grown k ≡ slice_index places k = λ k l. get_or_append_left places (n ∷ []) 0 k l in
    let last : slice_index grown n ≡ n = get_or-append_seam places n [] 0 in
    let is_last : (k : ℕ) → n ≤ k → k < length grown → k ≡ n = λ k l m. omega (arith, size, l, m) in
    let below : (k : ℕ) → k < n → slice_index places k ≢ n = λ k l e. elim (cases_lt k settled) [
      | inl s ↦ omega (arith, standing.from k s, standing.bottom, few, e)
      | inr s ↦ omega (arith, standing.later k s l, e, l)
    ] in
    record {
      few = omega (arith, size, few);
      within = omega (arith, size, standing.within);
      bottom = standing.bottom;
      ends = standing.ends;
      from = λ k l. omega (arith, old k (omega (arith, l, standing.within)), standing.from k l);
      under = λ k l. omega (arith, old k (omega (arith, l, standing.within)), standing.under k l);
      later = λ k s l. elim (cases_lt k n) [
        | inl inside ↦ old k inside ∙ standing.later k s inside
        | inr end ↦ let e = is_last k end l in ap (slice_index grown) e ∙ last ∙ sym e
      ];
      apart = λ a b l m e. elim (cases_lt a n) [
        | inl a_in ↦ elim (cases_lt b n) [
          | inl b_in ↦ standing.apart a b a_in b_in (sym (old a a_in) ∙ e ∙ old b b_in)
          | inr b_end ↦ absurd (below a a_in (sym (old a a_in) ∙ e ∙ ap (slice_index grown) (is_last b b_end m) ∙ last))
        ]
        | inr a_end ↦ elim (cases_lt b n) [
          | inl b_in ↦ absurd (below b b_in (sym (old b b_in) ∙ sym e ∙ ap (slice_index grown) (is_last a a_end l) ∙ last))
          | inr b_end ↦ is_last a a_end l ∙ sym (is_last b b_end m)
        ]
      ];
    }

-- the tasks of a span are those between its ends
pub span_holds : (from to : ℕ) (ns : List ℕ) (n : ℕ) → IsSpan from to ns → from ≤ n → n < to → Contains ns n
span_holds from to ns n span l m =
    let inside : n - from < length ns = omega (arith, span.sized, l, m) in
    let e : slice_index ns (n - from) ≡ n = omega (arith, span.each (n - from) inside, l) in
    subst (Contains ns) e (Contains-get_or ns (n - from) 0 inside)

index_is : (ns : List ℕ) (a : ℕ) (h : Contains ns a) → slice_index ns h.0 ≡ a
index_is ns a h = get_or_default ns h.0 0 a h.1 ∙ h.2

pub span_within : (from to : ℕ) (ns : List ℕ) (n : ℕ) → IsSpan from to ns → Contains ns n → (from ≤ n) × (n < to)
span_within from to ns n span h =
    let e : n ≡ from + h.0 = sym (index_is ns n h) ∙ span.each h.0 h.1 in
    (omega (arith, e), omega (arith, e, h.1, span.sized))

pub span_below : (from to : ℕ) (ns : List ℕ) → IsSpan from to ns → AllBelow to ns
span_below from to ns span k d l = (span_within from to ns (get_or ns k d) span (Contains-get_or ns k d l)).1

-- later tasks are in order
pub span_in_order : (settled low high : ℕ) (places ns : List ℕ) → AreStanding settled low high places → IsSpan settled (length places) ns → AreInOrder places ns
span_in_order settled low high places ns standing span i j l m =
    let at : (k : ℕ) → k < length ns → slice_index places (slice_index ns k) ≡ settled + k = λ k inside.
    let e = span.each k inside in
    standing.later (slice_index ns k) (omega (arith, e)) (omega (arith, e, span.sized, inside)) ∙ e in
    omega (arith, at i (omega (arith, l, m)), at j m, l)

-- different tasks, of which those that moved kept their order and stand apart from the others, stand apart
run_apart : (tasks : List ℕ) (first : ℕ) (old new : List ℕ) → AreApart old → IsRun tasks first old new
    → ((n : ℕ) → n < length old → (Contains tasks n → ⊥) → (slice_index old n < first) ⊎ (first + length tasks ≤ slice_index old n)) → AreApart new
run_apart tasks first old new apart run outside a b l m e =
    let a_in : a < length old = omega (arith, l, run.sized) in
    let b_in : b < length old = omega (arith, m, run.sized) in
    elim (held tasks a) [
      | inl ha ↦ elim (held tasks b) [
        | inl hb ↦ elim (cases_lt (slice_index old a) (slice_index old b)) [
          | inl up ↦ absurd (omega (arith, run.keeps a b ha hb up, e))
          | inr not_up ↦ elim (cases_lt (slice_index old b) (slice_index old a)) [
            | inl down ↦ absurd (omega (arith, run.keeps b a hb ha down, e))
            | inr not_down ↦ apart a b a_in b_in (omega (arith, not_up, not_down))
          ]
        ]
        | inr nb ↦ absurd (elim (outside b b_in nb) [
          | inl under ↦ omega (arith, run.stays b nb, run.from a ha, e, under)
          | inr over ↦ omega (arith, run.stays b nb, run.under a ha, e, over)
        ])
      ]
      | inr na ↦ elim (held tasks b) [
        | inl hb ↦ absurd (elim (outside a a_in na) [
          | inl under ↦ omega (arith, run.stays a na, run.from b hb, e, under)
          | inr over ↦ omega (arith, run.stays a na, run.under b hb, e, over)
        ])
        | inr nb ↦ apart a b a_in b_in (sym (run.stays a na) ∙ e ∙ run.stays b nb)
      ]
    ]

-- all tasks got new places
pub spread_stands : (settled low high middle : ℕ) (old new tasks : List ℕ) → 50000 ≤ middle → AreStanding settled low high old
    → ((n : ℕ) → n < length old → Contains tasks n) → length tasks ≡ length old → IsRun tasks middle old new
    → AreStanding (length old) middle (middle + length old) new × SameOrder old new
spread_stands settled low high middle old new tasks bottom standing all size run = (
  record {
    few = omega (arith, run.sized, standing.few);
    within = omega (arith, run.sized);
    bottom = bottom;
    ends = omega arith;
    from = λ n l. run.from n (all n l);
    under = λ n l. omega (arith, run.under n (all n l), size);
    later = λ n s l. absurd (omega (arith, s, l, run.sized));
    apart = run_apart tasks middle old new standing.apart run (λ n l none. absurd (none (all n l)));
  },
  record { sized = run.sized; keeps = λ a b l m less. run.keeps a b (all a l) (all b m) less },
)

-- the tasks that came later got places before the others
pub settle_stands : (settled low high : ℕ) (old new tasks : List ℕ) → 150000 ≤ low → AreStanding settled low high old → IsSpan settled (length old) tasks
    → IsRun tasks (low - length tasks) old new → AreStanding (length old) (low - length tasks) high new × SameOrder old new
settle_stands settled low high old new tasks room standing span run =
    let short : length tasks ≤ 50000 = omega (arith, span.sized, standing.few) in
    let others : (n : ℕ) → n < length old → (Contains tasks n → ⊥) → n < settled = λ n l none. elim (cases_lt n settled) [
      | inl s ↦ s
      | inr s ↦ absurd (none (span_holds settled (length old) tasks n span s l))
    ] in
    let above : (n : ℕ) → n < length old → (Contains tasks n → ⊥)
    → low ≤ slice_index new n = λ n l none. omega (arith, run.stays n none, standing.from n (others n l none)) in (
      record {
        few = omega (arith, run.sized, standing.few);
        within = omega (arith, run.sized);
        bottom = omega (arith, room, short);
        ends = omega (arith, standing.ends);
        from = λ n l. elim (held tasks n) [ inl h ↦ run.from n h | inr none ↦ omega (arith, above n l none) ];
        under = λ n l. elim (held tasks n) [
          | inl h ↦ omega (arith, run.under n h, standing.ends, room, short)
          | inr none ↦ omega (arith, run.stays n none, standing.under n (others n l none))
        ];
        later = λ n s l. absurd (omega (arith, s, l, run.sized));
        apart = run_apart tasks (low - length tasks) old new standing.apart run
            (λ n l none. inr (omega (arith, standing.from n (others n l none), room, short)));
      },
      record {
        sized = run.sized;
        keeps = λ a b l m less. elim (held tasks a) [
          | inl ha ↦ elim (held tasks b) [
            | inl hb ↦ run.keeps a b ha hb less
            | inr nb ↦ omega (arith, run.under a ha, above b m nb, room, short)
          ]
          | inr na ↦ elim (held tasks b) [
            | inl hb ↦
                let w = span_within settled (length old) tasks b span hb in
                absurd (omega (arith, less, standing.from a (others a l na), standing.later b w.0 w.1, standing.few, room, w.1))
            | inr nb ↦ omega (arith, run.stays a na, run.stays b nb, less)
          ]
        ];
      },
    )

-- tasks went before all others
pub sink_stands : (low high : ℕ) (old new tasks : List ℕ) → 100000 ≤ low → length tasks ≤ 50000 → AreStanding (length old) low high old
    → IsRun tasks (low - length tasks) old new
    → AreStanding (length old) (low - length tasks) high new
sink_stands low high old new tasks room short standing run = record {
  few = omega (arith, run.sized, standing.few);
  within = omega (arith, run.sized);
  bottom = omega (arith, room, short);
  ends = omega (arith, standing.ends);
  from = λ n l. elim (held tasks n) [ inl h ↦ run.from n h | inr none ↦ omega (arith, run.stays n none, standing.from n l) ];
  under = λ n l. elim (held tasks n) [
    | inl h ↦ omega (arith, run.under n h, standing.ends, room, short)
    | inr none ↦ omega
        (arith, run.stays n none, standing.under n l)
  ];
  later = λ n s l. absurd (omega (arith, s, l, run.sized));
  apart = run_apart tasks (low - length tasks) old new standing.apart run (λ n l none. inr (omega (arith, standing.from n l, room, short)));
}

-- tasks went behind all others
pub lift_stands : (low high : ℕ) (old new tasks : List ℕ) → AreStanding (length old) low high old → IsRun tasks high old new
    → AreStanding (length old) low (high + length tasks) new
lift_stands low high old new tasks standing run = record {
  few = omega (arith, run.sized, standing.few);
  within = omega (arith, run.sized);
  bottom = standing.bottom;
  ends = omega (arith, standing.ends);
  from = λ n l. elim (held tasks n) [ inl h ↦ omega (arith, run.from n h, standing.ends) | inr none ↦ omega (arith, run.stays n none, standing.from n l) ];
  under = λ n l. elim (held tasks n) [ inl h ↦ run.under n h | inr none ↦ omega (arith, run.stays n none, standing.under n l) ];
  later = λ n s l. absurd (omega (arith, s, l, run.sized));
  apart = run_apart tasks high old new standing.apart run (λ n l none. inl (standing.under n l));
}

-- first the same order at other places, and then some tasks before all others
pub sunk : (low high : ℕ) (old mid new tasks : List ℕ) → 100000 ≤ low → length tasks ≤ 50000 → SameOrder old mid → AreStanding (length mid) low high mid
    → IsRun tasks (low - length tasks) mid new → GoFirst tasks old new
sunk low high old mid new tasks room short same standing run = record {
  sized = run.sized ∙ same.sized;
  front_keeps = λ a b l m ha hb less. run.keeps a b ha hb (same.keeps a b l m less);
  back_keeps = λ a b l m na nb less. omega (arith, run.stays a na, run.stays b nb, same.keeps a b l m less);
  parted = λ a b l m ha nb. omega (arith, run.under a ha, run.stays b nb, standing.from b (omega (arith, m, same.sized)), room, short);
}

pub lifted : (low high : ℕ) (old mid new tasks : List ℕ) → SameOrder old mid → AreStanding (length mid) low high mid → IsRun tasks high mid new
    → GoLast tasks old new
lifted low high old mid new tasks same standing run = record {
  sized = run.sized ∙ same.sized;
  front_keeps = λ a b l m na nb less. omega (arith, run.stays a na, run.stays b nb, same.keeps a b l m less);
  back_keeps = λ a b l m ha hb less. run.keeps a b ha hb (same.keeps a b l m less);
  parted = λ a b l m na hb. omega (arith, run.from b hb, run.stays a na, standing.under a (omega (arith, l, same.sized)));
}

-- the same under the names that the program has for it

pub sorted_below : (bound : ℕ) (tasks sorted : List ℕ) → ((n : ℕ) → Contains sorted n → Contains tasks n) → AllBelow bound tasks → AllBelow bound sorted
sorted_below bound tasks sorted same below k d l = All-contains (λ n. n < bound) tasks (get_or sorted k d) below
    (same (get_or sorted k d) (Contains-get_or sorted k d l))

pub spread_all : (settled low high count middle : ℕ) (old new tasks sorted : List ℕ) → count ≡ length old → 50000 ≤ middle → AreStanding settled low high old
    → IsSpan 0 count tasks
    → ((n : ℕ) → (Contains sorted n → Contains tasks n) × (Contains tasks n → Contains sorted n)) → length sorted ≡ length tasks → IsRun sorted middle old new
    → AreStanding count middle (middle + count) new × SameOrder old new
spread_all settled low high count middle old new tasks sorted size bottom standing span same long run =
    subst (λ (c : ℕ). AreStanding c middle (middle + c) new × SameOrder old new) (sym size)
    (spread_stands settled low high middle old new sorted bottom standing
    (λ n l. (same n).1 (span_holds 0 count tasks n span (omega arith) (omega (arith, l, size)))) (omega (arith, long, span.sized, size)) run)

pub settle_all : (settled low high count : ℕ) (old new tasks : List ℕ) → count ≡ length old → 150000 ≤ low → AreStanding settled low high old
    → IsSpan settled count tasks
    → IsRun tasks (low - (count - settled)) old new → AreStanding count (low - (count - settled)) high new × SameOrder old new
settle_all settled low high count old new tasks size room standing span run =
    let many : count - settled ≡ length tasks = omega (arith, span.sized) in
    let whole : IsSpan settled (length old) tasks = subst (λ (c : ℕ). IsSpan settled c tasks) size span in
    let found : AreStanding (length old) (low - length tasks) high new × SameOrder old new =
    settle_stands settled low high old new tasks room standing whole (subst (λ (k : ℕ). IsRun tasks (low - k) old new) many run) in (
      subst (λ (k : ℕ). AreStanding count (low - k) high new) (sym many) (subst (λ (c : ℕ). AreStanding c (low - length tasks) high new) (sym size) found.0),
      found.1,
    )

first_same : (old new tasks sorted : List ℕ) → ((n : ℕ) → (Contains sorted n → Contains tasks n) × (Contains tasks n → Contains sorted n))
    → GoFirst sorted old new → GoFirst tasks old new
first_same old new tasks sorted same go = record {
  sized = go.sized;
  front_keeps = λ a b l m ha hb less. go.front_keeps a b l m ((same a).1 ha) ((same b).1 hb) less;
  back_keeps = λ a b l m na nb less. go.back_keeps a b l m (λ h. na ((same a).0 h)) (λ h. nb ((same b).0 h)) less;
  parted = λ a b l m ha nb. go.parted a b l m ((same a).1 ha) (λ h. nb ((same b).0 h));
}

last_same : (old new tasks sorted : List ℕ) → ((n : ℕ) → (Contains sorted n → Contains tasks n) × (Contains tasks n → Contains sorted n))
    → GoLast sorted old new → GoLast tasks old new
last_same old new tasks sorted same go = record {
  sized = go.sized;
  front_keeps = λ a b l m na nb less. go.front_keeps a b l m (λ h. na ((same a).0 h)) (λ h. nb ((same b).0 h)) less;
  back_keeps = λ a b l m ha hb less. go.back_keeps a b l m ((same a).1 ha) ((same b).1 hb) less;
  parted = λ a b l m na hb. go.parted a b l m (λ h. na ((same a).0 h)) ((same b).1 hb);
}

pub sink_all : (settled low high k : ℕ) (old mid new tasks sorted : List ℕ) → settled ≡ length mid → k ≡ length sorted → k ≤ 50000 → 100000 ≤ low
    → SameOrder old mid → AreStanding settled low high mid
    → ((n : ℕ) → (Contains sorted n → Contains tasks n) × (Contains tasks n → Contains sorted n)) → IsRun sorted (low - k) mid new
    → AreStanding settled (low - k) high new × GoFirst tasks old new
sink_all settled low high k old mid new tasks sorted size many few room order standing same run =
    let short : length sorted ≤ 50000 = omega (arith, many, few) in
    let whole : AreStanding (length mid) low high mid = subst (λ (c : ℕ). AreStanding c low high mid) size standing in
    let moved : IsRun sorted (low - length sorted) mid new = subst (λ (n : ℕ). IsRun sorted (low - n) mid new) many run in (
      subst (λ (n : ℕ). AreStanding settled (low - n) high new) (sym many)
          (subst (λ (c : ℕ). AreStanding c (low - length sorted) high new) (sym size) (sink_stands low high mid new sorted room short whole moved)),
      first_same old new tasks sorted same (sunk low high old mid new sorted room short order whole moved),
    )

pub lift_all : (settled low high k : ℕ) (old mid new tasks sorted : List ℕ) → settled ≡ length mid → k ≡ length sorted → SameOrder old mid
    → AreStanding settled low high mid
    → ((n : ℕ) → (Contains sorted n → Contains tasks n) × (Contains tasks n → Contains sorted n)) → IsRun sorted high mid new
    → AreStanding settled low (high + k) new × GoLast tasks old new
lift_all settled low high k old mid new tasks sorted size many order standing same run =
    let whole : AreStanding (length mid) low high mid = subst (λ (c : ℕ). AreStanding c low high mid) size standing in (
      subst (λ (n : ℕ). AreStanding settled low (high + n) new) (sym many)
          (subst (λ (c : ℕ). AreStanding c low (high + length sorted) new) (sym size) (lift_stands low high mid new sorted whole run)),
      last_same old new tasks sorted same (lifted low high old mid new sorted order whole run),
    )
