-- One pass over two lists of entries finds exactly the paths at which they differ, in order.
use Rattle.std.proofs.Common.{◌≡◌, ℕ, Bool, true, false, not, cond, List, [], ◌∷◌, ◌++◌, length, get_or, drop, ◌+◌, ◌<◌, ◌≤◌, refl, sym, ap, ◌∙◌, subst}
use Rattle.std.proofs.Common.{append_assoc}
use Rattle.std.specs.Prelude.{◌||◌, Option, None, Some}
use Rattle.std.specs.List.{list_any, AllByRecursion as ByRecursion}
use Rattle.std.specs.List.Sorted.{IsStrictlySortedBy}
use Rattle.std.specs.declared.cmp.Ordering.TheVariants.{Less}
use Rattle.std.proofs.lemmas.List.{drop_more}
use Rattle.pie_base.specs.Path.{same_text}
use Rattle.pie_scan.specs.declared.entry.Entry.{Entry}
use Rattle.pie_scan.specs.Entries.{path_cmp, paths_in, AreInOrder, entry_at, same_entry, alike}
use Rattle.pie_scan.specs.Changes.{AreChanged}
use Rattle.pie_scan.specs.inner.Merge.{comes_first, ahead, others, met, past, merged}
use Rattle.pie_scan.proofs.Naming.{same_is, same_swap, less_other, is_less, comes_before, before_trans}
use Rattle.pie_scan.proofs.Growing.{none_left}

-- ---- paths that lie above another

abbrev pub AllAbove : List ℕ → List (List ℕ) → Type 0
AllAbove p paths = ByRecursion (λ k. path_cmp p k ≡ Less) paths

pub above_trans : (p q : List ℕ) (paths : List (List ℕ)) → path_cmp p q ≡ Less → AllAbove q paths → AllAbove p paths
above_trans p q [] lt h = tt
above_trans p q (k ∷ paths) lt h = (before_trans p q k lt h.0, above_trans p q paths lt h.1)

-- no entry of a path stands among entries above it
pub absent : (p : List ℕ) (es : List Entry) → AllAbove p (paths_in es) → entry_at es p ≡ None
absent p [] h = refl
absent p (e ∷ es) h = ap (λ (b : Bool). cond b (Some e) (entry_at es p)) (less_other p e.path h.0) ∙ absent p es h.1

-- a path is one of these
abbrev pub named : List ℕ → List (List ℕ) → Bool
named q paths = list_any (same_text q) paths

-- ---- exactly the paths at which they differ

only_new : (q : List ℕ) (ys : List Entry) → named q (paths_in ys) ≡ not (alike None (entry_at ys q))
only_new q [] = refl
only_new q (y ∷ ys) = by (same_text y.path q) refl (only_new q ys)
  where
    by : (b : Bool) → same_text y.path q ≡ b → named q (paths_in ys) ≡ not (alike None (entry_at ys q)) → (same_text q y.path || named q (paths_in ys)) ≡ not (alike None (cond b (Some y) (entry_at ys q)))
    by true e more = ap (λ (b : Bool). b || named q (paths_in ys)) (same_swap q y.path ∙ e)
    by false e more = ap (λ (b : Bool). b || named q (paths_in ys)) (same_swap q y.path ∙ e) ∙ more

-- what one entry meets, before what is found later
abbrev one : Entry → (List Entry → List (List ℕ)) → List Entry → List (List ℕ)
one x k ys = ahead x ys ++ (met x (others x ys) ++ k (past x (others x ys)))

module _ (q : List ℕ) (x : Entry) (xs : List Entry) (k : List Entry → List (List ℕ)) (above : AllAbove x.path (paths_in xs))
    (later : (zs : List Entry) → AreInOrder zs → named q (k zs) ≡ not (alike (entry_at xs q) (entry_at zs q))) where
  -- its path before what is found later
  own_path : (zs : List Entry) → AreInOrder zs → AllAbove x.path (paths_in zs)
      → (same_text q x.path || named q (k zs)) ≡ not (alike (cond (same_text x.path q) (Some x) (entry_at xs q)) (entry_at zs q))
  own_path zs sorted high = by (same_text x.path q) refl
    where
      by : (b : Bool) → same_text x.path q ≡ b
          → (same_text q x.path || named q (k zs)) ≡ not (alike (cond b (Some x) (entry_at xs q)) (entry_at zs q))
      by true e =
          let none : entry_at zs q ≡ None = ap (entry_at zs) (sym (same_is x.path q e)) ∙ absent x.path zs high in
          ap (λ (b : Bool). b || named q (k zs)) (same_swap q x.path ∙ e) ∙ ap (λ (o : Option Entry). not (alike (Some x) o)) (sym none)
      by false e = ap (λ (b : Bool). b || named q (k zs)) (same_swap q x.path ∙ e) ∙ later zs sorted

  -- an entry of its path in the other list
  equal_path : (y : Entry) (ys : List Entry) → AreInOrder ys → AllAbove y.path (paths_in ys) → x.path ≡ y.path
      → named q (cond (same_entry x y) [] (x.path ∷ []) ++ k ys)
      ≡ not (alike (cond (same_text x.path q) (Some x) (entry_at xs q)) (cond (same_text y.path q) (Some y) (entry_at ys q)))
  equal_path y ys sorted high is = by (same_entry x y) (same_text x.path q) refl refl (ap (λ (p : List ℕ). same_text p q) (sym is))
    where
      by : (s b : Bool) → same_entry x y ≡ s → same_text x.path q ≡ b → same_text y.path q ≡ same_text x.path q
          → named q (cond s [] (x.path ∷ []) ++ k ys) ≡ not (alike (cond b (Some x) (entry_at xs q)) (cond (same_text y.path q) (Some y) (entry_at ys q)))
      by s true f e g =
          let old : entry_at xs q ≡ None = ap (entry_at xs) (sym (same_is x.path q e)) ∙ absent x.path xs above in
          let new : entry_at ys q ≡ None = ap (entry_at ys) (sym (same_is y.path q (g ∙ e))) ∙ absent y.path ys high in
          let right : cond (same_text y.path q) (Some y) (entry_at ys q) ≡ Some y = ap (λ (c : Bool). cond c (Some y) (entry_at ys q)) (g ∙ e) in
          let none : named q (k ys) ≡ false =
          later ys sorted ∙ ap (λ (o : Option Entry). not (alike o (entry_at ys q))) old ∙ ap (λ (o : Option Entry). not (alike None o)) new in
          both s none f ∙ ap (λ (o : Option Entry). not (alike (Some x) o)) (sym right)
        where
          both : (s : Bool) → named q (k ys) ≡ false → same_entry x y ≡ s → named q (cond s [] (x.path ∷ []) ++ k ys) ≡ not (same_entry x y)
          both true none f = none ∙ ap (λ (c : Bool). not c) (sym f)
          both false none f =
              ap (λ (c : Bool). c || named q (k ys)) (same_swap q x.path ∙ e) ∙ ap (λ (c : Bool). not c) (sym f)
      by true false f e g = later ys sorted ∙ ap (λ (c : Bool). not (alike (entry_at xs q) (cond c (Some y) (entry_at ys q)))) (sym (g ∙ e))
      by false false f e g =
          ap (λ (c : Bool). c || named q (k ys)) (same_swap q x.path ∙ e)
          ∙ later ys sorted ∙ ap (λ (c : Bool). not (alike (entry_at xs q) (cond c (Some y) (entry_at ys q)))) (sym (g ∙ e))

  -- an entry before it in the other list
  earlier_path : (y : Entry) (ys : List Entry) → path_cmp y.path x.path ≡ Less
      → named q (one x k ys) ≡ not (alike (cond (same_text x.path q) (Some x) (entry_at xs q)) (entry_at ys q))
      → (same_text q y.path || named q (one x k ys))
      ≡ not (alike (cond (same_text x.path q) (Some x) (entry_at xs q)) (cond (same_text y.path q) (Some y) (entry_at ys q)))
  earlier_path y ys lt more = by (same_text y.path q) refl
    where
      by : (b : Bool) → same_text y.path q ≡ b → (same_text q y.path || named q (one x k ys))
          ≡ not (alike (cond (same_text x.path q) (Some x) (entry_at xs q)) (cond b (Some y) (entry_at ys q)))
      by true e =
          let none : entry_at (x ∷ xs) q ≡ None =
          ap (entry_at (x ∷ xs)) (sym (same_is y.path q e)) ∙ absent y.path (x ∷ xs) (lt, above_trans y.path x.path (paths_in xs) lt above) in
          ap (λ (b : Bool). b || named q (one x k ys)) (same_swap q y.path ∙ e) ∙ ap (λ (o : Option Entry). not (alike o (Some y))) (sym none)
      by false e = ap (λ (b : Bool). b || named q (one x k ys)) (same_swap q y.path ∙ e) ∙ more

  one_exactly : (ys : List Entry) → AreInOrder ys
      → named q (one x k ys) ≡ not (alike (cond (same_text x.path q) (Some x) (entry_at xs q)) (entry_at ys q))
  unfolding IsStrictlySortedBy
  one_exactly [] sorted = own_path [] tt tt
  one_exactly (y ∷ ys) sorted = by (comes_first y x) refl (one_exactly ys sorted.1)
    where
      met_by : (b : Bool) → same_text x.path y.path ≡ b → comes_first y x ≡ false
          → named q (cond b (cond (same_entry x y) [] (x.path ∷ [])) (x.path ∷ []) ++ k (cond b ys (y ∷ ys)))
          ≡ not (alike (cond (same_text x.path q) (Some x) (entry_at xs q)) (entry_at (y ∷ ys) q))
      met_by true e late = equal_path y ys sorted.1 sorted.0 (same_is x.path y.path e)
      met_by false e late =
          let lt = comes_before x.path y.path late e in
          own_path (y ∷ ys) sorted (lt, above_trans x.path y.path (paths_in ys) lt sorted.0)

      by : (b : Bool) → comes_first y x ≡ b → named q (one x k ys) ≡ not (alike (cond (same_text x.path q) (Some x) (entry_at xs q)) (entry_at ys q))
          → named q (cond b (y.path ∷ ahead x ys) [] ++ (met x (cond b (others x ys) (y ∷ ys)) ++ k (past x (cond b (others x ys) (y ∷ ys)))))
          ≡ not (alike (cond (same_text x.path q) (Some x) (entry_at xs q)) (entry_at (y ∷ ys) q))
      by true e more = earlier_path y ys (is_less (path_cmp y.path x.path) e) more
      by false e more = met_by (same_text x.path y.path) refl e

exactly : (q : List ℕ) (xs ys : List Entry) → AreInOrder xs → AreInOrder ys → named q (merged xs ys) ≡ not (alike (entry_at xs q) (entry_at ys q))
unfolding IsStrictlySortedBy
exactly q [] ys old new = only_new q ys
exactly q (x ∷ xs) ys old new = one_exactly q x xs (merged xs) old.0 (λ zs sorted. exactly q xs zs old.1 sorted) ys new

-- ---- in order

above_both : (p : List ℕ) (a b : List (List ℕ)) → AllAbove p a → AllAbove p b → AllAbove p (a ++ b)
above_both p [] b h k = k
above_both p (x ∷ a) b h k = (h.0, above_both p a b h.1 k)

above_ahead : (p : List ℕ) (x : Entry) (ys : List Entry) → AllAbove p (paths_in ys) → AllAbove p (ahead x ys)
above_ahead p x [] h = tt
above_ahead p x (y ∷ ys) h = by (comes_first y x) (above_ahead p x ys h.1)
  where
    by : (b : Bool) → AllAbove p (ahead x ys) → AllAbove p (cond b (y.path ∷ ahead x ys) [])
    by true more = (h.0, more)
    by false more = tt

above_others : (p : List ℕ) (x : Entry) (ys : List Entry) → AllAbove p (paths_in ys) → AllAbove p (paths_in (others x ys))
above_others p x [] h = tt
above_others p x (y ∷ ys) h = by (comes_first y x) (above_others p x ys h.1)
  where
    by : (b : Bool) → AllAbove p (paths_in (others x ys)) → AllAbove p (paths_in (cond b (others x ys) (y ∷ ys)))
    by true more = more
    by false more = h

above_met : (p : List ℕ) (x : Entry) (ys : List Entry) → path_cmp p x.path ≡ Less → AllAbove p (met x ys)
above_met p x [] lt = (lt, tt)
above_met p x (y ∷ ys) lt = by (same_text x.path y.path) (same_entry x y)
  where
    by : (b s : Bool) → AllAbove p (cond b (cond s [] (x.path ∷ [])) (x.path ∷ []))
    by true true = tt
    by true false = (lt, tt)
    by false s = (lt, tt)

above_past : (p : List ℕ) (x : Entry) (ys : List Entry) → AllAbove p (paths_in ys) → AllAbove p (paths_in (past x ys))
above_past p x [] h = tt
above_past p x (y ∷ ys) h = by (same_text x.path y.path)
  where
    by : (b : Bool) → AllAbove p (paths_in (cond b ys (y ∷ ys)))
    by true = h.1
    by false = h

above_merged : (p : List ℕ) (xs ys : List Entry) → AllAbove p (paths_in xs) → AllAbove p (paths_in ys) → AllAbove p (merged xs ys)
above_merged p [] ys h k = k
above_merged p (x ∷ xs) ys h k =
    let rest = above_others p x ys k in
    above_both p (ahead x ys) (met x (others x ys) ++ merged xs (past x (others x ys))) (above_ahead p x ys k)
    (above_both p (met x (others x ys)) (merged xs (past x (others x ys))) (above_met p x (others x ys) h.0)
    (above_merged p xs (past x (others x ys)) h.1 (above_past p x (others x ys) rest)))

one_ordered : (x : Entry) (xs : List Entry) → AllAbove x.path (paths_in xs)
    → ((zs : List Entry) → AreInOrder zs → IsStrictlySortedBy path_cmp (merged xs zs)) → (ys : List Entry) → AreInOrder ys
    → IsStrictlySortedBy path_cmp (one x (merged xs) ys)
unfolding IsStrictlySortedBy
one_ordered x xs above later [] sorted = (above_merged x.path xs [] above tt, later [] tt)
one_ordered x xs above later (y ∷ ys) sorted = by (comes_first y x) refl (one_ordered x xs above later ys sorted.1)
  where
    same_by : (s : Bool) → x.path ≡ y.path → IsStrictlySortedBy path_cmp (cond s [] (x.path ∷ []) ++ merged xs ys)
    same_by true is = later ys sorted.1
    same_by false is =
        (above_merged x.path xs ys above (subst (λ (p : List ℕ). AllAbove p (paths_in ys)) (sym is) sorted.0), later ys sorted.1)

    met_by : (b : Bool) → same_text x.path y.path ≡ b → comes_first y x ≡ false
        → IsStrictlySortedBy path_cmp (cond b (cond (same_entry x y) [] (x.path ∷ [])) (x.path ∷ []) ++ merged xs (cond b ys (y ∷ ys)))
    met_by true e late = same_by (same_entry x y) (same_is x.path y.path e)
    met_by false e late =
        let lt = comes_before x.path y.path late e in
        (above_merged x.path xs (y ∷ ys) above (lt, above_trans x.path y.path (paths_in ys) lt sorted.0), later (y ∷ ys) sorted)

    by : (b : Bool) → comes_first y x ≡ b → IsStrictlySortedBy path_cmp (one x (merged xs) ys)
        → IsStrictlySortedBy path_cmp
        (cond b (y.path ∷ ahead x ys) [] ++ (met x (cond b (others x ys) (y ∷ ys)) ++ merged xs (past x (cond b (others x ys) (y ∷ ys)))))
    by true e more =
        let lt = is_less (path_cmp y.path x.path) e in
        (above_merged y.path (x ∷ xs) ys (lt, above_trans y.path x.path (paths_in xs) lt above) sorted.0, more)
    by false e more = met_by (same_text x.path y.path) refl e

ordered : (xs ys : List Entry) → AreInOrder xs → AreInOrder ys → IsStrictlySortedBy path_cmp (merged xs ys)
unfolding IsStrictlySortedBy
ordered [] ys old new = new
ordered (x ∷ xs) ys old new = one_ordered x xs old.0 (λ zs sorted. ordered xs zs old.1 sorted) ys new

pub merged_is : (old now : List Entry) → AreInOrder old → AreInOrder now → AreChanged old now (merged old now)
merged_is old now a b = record { ordered = ordered old now a b; exactly = λ q. exactly q old now a b }

-- ---- the loops

-- one entry more
pub merge_on : (old : List Entry) (i : ℕ) (x : Entry) (found passed met_too : List (List ℕ)) (ys from rest : List Entry) (all : List (List ℕ))
    → i < length old → x ≡ get_or old i x → passed ≡ found ++ ahead x ys → from ≡ others x ys → met_too ≡ passed ++ met x from → rest ≡ past x from
    → found ++ merged (drop i old) ys ≡ all → met_too ++ merged (drop (i + 1) old) rest ≡ all
merge_on old i x found passed met_too ys from rest all lt is pass left meet after inv =
    let tail = drop (i + 1) old in
    let more : merged (drop i old) ys ≡ ahead x ys ++ (met x (others x ys) ++ merged tail (past x (others x ys))) =
    ap (λ (l : List Entry). merged l ys) (drop_more old i x lt) ∙ ap (λ (e : Entry). merged (e ∷ tail) ys) (sym is) in
    ap (λ (l : List (List ℕ)). l ++ merged tail rest) meet
    ∙ ap (λ (l : List (List ℕ)). (l ++ met x from) ++ merged tail rest) pass
    ∙ append_assoc (found ++ ahead x ys) (met x from) (merged tail rest)
    ∙ append_assoc found (ahead x ys) (met x from ++ merged tail rest)
    ∙ ap (λ (l : List Entry). found ++ (ahead x ys ++ (met x from ++ merged tail l))) after
    ∙ ap (λ (l : List Entry). found ++ (ahead x ys ++ (met x l ++ merged tail (past x l)))) left
    ∙ ap (λ (l : List (List ℕ)). found ++ l) (sym more) ∙ inv

-- none is left of the first list
pub merge_end : (old : List Entry) (i : ℕ) (found : List (List ℕ)) (ys : List Entry) (all : List (List ℕ)) → length old ≤ i
    → found ++ merged (drop i old) ys ≡ all → found ++ paths_in ys ≡ all
merge_end old i found ys all le inv =
    ap (λ (l : List Entry). found ++ merged l ys) (sym (none_left old i le)) ∙ inv
