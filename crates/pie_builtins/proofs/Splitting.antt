-- The pieces of a text have no separator in them, and with it between them they are the text.
use Rattle.std.proofs.Common.{◌≡◌, ◌⊎◌, ℕ, zero, suc, ◌+◌, ◌<◌, ◌≤◌, Bool, true, false, cond, List, [], ◌∷◌, ◌++◌, take, drop, length, refl, ap, sym, ◌∙◌}
use Rattle.std.proofs.Common.{subst, inl, inr, arith, add-one, Result, Ok, Err, append_assoc}
use Rattle.std.specs.Prelude.{Option, Some, None, IfOk, option_map}
use Rattle.std.specs.List.{Contains}
use Rattle.std.specs.Str.Pattern.{LacksTextAt}
use Rattle.std.proofs.lemmas.Bool.{cases_Bool}
use Rattle.std.proofs.lemmas.List.{take-append-drop, length-drop, length-take, length-append, append-nil}
use Rattle.std.proofs.lemmas.List.Elements.{Contains-append_left}
use Rattle.pie_base.specs.declared.fault.FaultKind.TheVariants.{Big}
use Rattle.pie_value.specs.declared.value.Value.{Value}
use Rattle.pie_value.specs.Tree.{Tree, TText}
use Rattle.pie_value.specs.Values.{tree_of}
use Rattle.pie_value.specs.Limits.{is_small}
use Rattle.pie_value.specs.BuiltinForms.{made}
use Rattle.pie_value.specs.BuiltinItems.{text_list}
use Rattle.pie_value.specs.BuiltinTexts.{starts_with, first_place, pieces, pieces_from, pieces_within, with_between, without_last_empty}
use Rattle.pie_builtins.specs.declared.fault.BuiltinFault.{BuiltinFault}
use Rattle.pie_builtins.specs.Agreement.{AnswerAgrees}
use Rattle.pie_builtins.specs.Laws.{Holds, NoneHolds, AreSplit, AreLines, IsReplaced, IsTexts}
use Rattle.pie_builtins.proofs.Places.{starts_yes, starts_is}

drop_front : (xs ys : List ℕ) → drop (length xs) (xs ++ ys) ≡ ys
drop_front [] ys = refl
drop_front (x ∷ xs) ys = drop_front xs ys

some_is : (i j : ℕ) → Some i ≡ Some j → i ≡ j
some_is i j e = cc

-- one place more where the search went on
place_after : (o : Option ℕ) (i : ℕ) → option_map (λ n. n + 1) o ≡ Some i → (j : ℕ) × (o ≡ Some j) × (i ≡ suc j)
place_after None i e = cc
place_after (Some j) i e = (j, refl, sym (some_is (j + 1) i e) ∙ add-one j)

none_after : (o : Option ℕ) → option_map (λ n. n + 1) o ≡ None → o ≡ None
none_after None e = refl
none_after (Some j) e = cc

-- where the first place is, by whether the text stands at the very front
here : (s p : List ℕ) (rest : Option ℕ) (i : ℕ) → starts_with s p ≡ true → cond (starts_with s p) (Some 0) rest ≡ Some i → i ≡ 0
here s p rest i y e = sym (some_is 0 i (sym (ap (λ b. cond b (Some 0) rest) y) ∙ e))

there : (b : Bool) (rest r : Option ℕ) → b ≡ false → cond b (Some 0) rest ≡ r → rest ≡ r
there b rest r n e = sym (ap (λ c. cond c (Some 0) rest) n) ∙ e

-- at the first place the text stands
stands_at : (s p : List ℕ) (i : ℕ) → first_place s p ≡ Some i → drop i s ≡ p ++ drop (i + length p) s
stands_at [] p i e = elim (cases_Bool (starts_with [] p)) [
  | inl y ↦ let z : i ≡ 0 = here [] p None i y e in let n : 0 + length p ≡ length p = omega arith in rw (z, n) (starts_is [] p y)
  | inr n ↦ absurd (let k : None ≡ Some i = there (starts_with [] p) None (Some i) n e in cc)
]
stands_at (b ∷ bs) p i e = elim (cases_Bool (starts_with (b ∷ bs) p)) [
  | inl y ↦
      let z : i ≡ 0 = here (b ∷ bs) p (option_map (λ n. n + 1) (first_place bs p)) i y e in
      let n : 0 + length p ≡ length p = omega arith in rw (z, n) (starts_is (b ∷ bs) p y)
  | inr n ↦
      let j = place_after (first_place bs p) i (there (starts_with (b ∷ bs) p) (option_map (λ m. m + 1) (first_place bs p)) (Some i) n e) in
      let k : suc j.0 + length p ≡ suc (j.0 + length p) = omega arith in
      rw (j.2, k) (stands_at bs p j.0 j.1)
]

-- and at no place before it
lacks_before : (s p : List ℕ) (i k : ℕ) → first_place s p ≡ Some i → k < i → LacksTextAt p s k
lacks_before [] p i k e l rest at = elim (cases_Bool (starts_with [] p)) [
  | inl y ↦ omega (arith, here [] p None i y e, l)
  | inr n ↦ let c : None ≡ Some i = there (starts_with [] p) None (Some i) n e in cc
]
lacks_before (b ∷ bs) p i zero e l rest at = elim (cases_Bool (starts_with (b ∷ bs) p)) [
  | inl y ↦ omega (arith, here (b ∷ bs) p (option_map (λ n. n + 1) (first_place bs p)) i y e, l)
  | inr n ↦ let y : starts_with (b ∷ bs) p ≡ true = starts_yes (b ∷ bs) p rest at in cc
]
lacks_before (b ∷ bs) p i (suc k) e l rest at = elim (cases_Bool (starts_with (b ∷ bs) p)) [
  | inl y ↦ omega (arith, here (b ∷ bs) p (option_map (λ n. n + 1) (first_place bs p)) i y e, l)
  | inr n ↦
      let j = place_after (first_place bs p) i (there (starts_with (b ∷ bs) p) (option_map (λ m. m + 1) (first_place bs p)) (Some i) n e) in
      lacks_before bs p j.0 k j.1 (omega (arith, j.2, l)) rest at
]

-- nor anywhere, where there is no first place
lacks_all : (s p : List ℕ) (k : ℕ) → 0 < length p → first_place s p ≡ None → LacksTextAt p s k
lacks_all [] p k some e rest at = omega (arith, some, ap length at, length-append p rest, length-drop {A = ℕ} k [])
lacks_all (b ∷ bs) p zero some e rest at =
    let y : starts_with (b ∷ bs) p ≡ true = starts_yes (b ∷ bs) p rest at in
    let c : ◌≡◌ {A = Option ℕ} (Some 0) None = sym (ap (λ t. cond t (Some 0) (option_map (λ n. n + 1) (first_place bs p))) y) ∙ e in cc
lacks_all (b ∷ bs) p (suc k) some e rest at = elim (cases_Bool (starts_with (b ∷ bs) p)) [
  | inl y ↦ let c : ◌≡◌ {A = Option ℕ} (Some 0) None = sym (ap (λ t. cond t (Some 0) (option_map (λ n. n + 1) (first_place bs p))) y) ∙ e in cc
  | inr n ↦ lacks_all bs p k some (none_after (first_place bs p) (there (starts_with (b ∷ bs) p) (option_map (λ m. m + 1) (first_place bs p)) None n e)) rest at
]

front_free : (s p : List ℕ) (i : ℕ) → 0 < length p → first_place s p ≡ Some i → Holds (take i s) p → ⊥
front_free s p i some e h =
    let whole : s ≡ h.0 ++ (p ++ (h.1 ++ drop i s)) = sym (take-append-drop i s) ∙ ap (λ t. t ++ drop i s) h.2 ∙ simp append_assoc in
    let at : drop (length h.0) s ≡ p ++ (h.1 ++ drop i s) = ap (drop (length h.0)) whole ∙ drop_front h.0 (p ++ (h.1 ++ drop i s)) in
    let short : length h.0 < i = omega (arith, some, ap length h.2, length-append h.0 (p ++ h.1), length-append p h.1, length-take i s) in
    lacks_before s p i (length h.0) e short (h.1 ++ drop i s) at

whole_free : (s p : List ℕ) → 0 < length p → first_place s p ≡ None → Holds s p → ⊥
whole_free s p some e h = lacks_all s p (length h.0) some e h.1 (ap (drop (length h.0)) h.2 ∙ drop_front h.0 (p ++ h.1))

contains_cases : (x y : List ℕ) (xs : List (List ℕ)) → Contains (x ∷ xs) y → (x ≡ y) ⊎ Contains xs y
contains_cases x y xs (zero, l, e) = inl e
contains_cases x y xs (suc k, l, e) = inr (k, omega arith, e)

only_one : (s : List ℕ) (p : List ℕ) → (Holds s p → ⊥) → NoneHolds (s ∷ []) p
only_one s p free t there h = elim (contains_cases s t [] there) [ inl e ↦ free (subst (λ x. Holds x p) (sym e) h) | inr later ↦ omega (arith, later.1) ]

one_and_more : (s : List ℕ) (ts : List (List ℕ)) (p : List ℕ) → (Holds s p → ⊥) → NoneHolds ts p → NoneHolds (s ∷ ts) p
one_and_more s ts p free rest t there h = elim (contains_cases s t ts there) [ inl e ↦ free (subst (λ x. Holds x p) (sym e) h) | inr later ↦ rest t later h ]

joined_more : (front p : List ℕ) (n : ℕ) (s : List ℕ) → with_between p (front ∷ pieces_within n s p) ≡ front ++ (p ++ with_between p (pieces_within n s p))
joined_more front p zero s = refl
joined_more front p (suc n) s = elim (first_place s p) as (λ o.
    with_between p (front ∷ pieces_from o s p (pieces_within n)) ≡ front ++ (p ++ with_between p (pieces_from o s p (pieces_within n))))
    [ None ↦ refl | Some i ↦ refl ]

split_from : (n : ℕ) (p : List ℕ) → 0 < length p → ((t : List ℕ) → length t ≤ n → AreSplit t p (pieces_within n t p)) → (s : List ℕ) (o : Option ℕ)
    → length s ≤ suc n → first_place s p ≡ o
    → AreSplit s p (pieces_from o s p (pieces_within n))
split_from n p some ih s None l e = record { joined = refl; free = only_one s p (whole_free s p some e) }
split_from n p some ih s (Some i) l e =
    let rest : List ℕ = drop (i + length p) s in
    let less : AreSplit rest p (pieces_within n rest p) = ih rest (omega (arith, l, some, length-drop (i + length p) s)) in
    record {
      joined = joined_more (take i s) p n rest ∙ ap (λ t. take i s ++ (p ++ t)) less.joined ∙ ap (λ t. take i s ++ t) (sym (stands_at s p i e))
          ∙ take-append-drop i s;
      free = one_and_more (take i s) (pieces_within n rest p) p (front_free s p i some e) less.free;
    }

split_within : (n : ℕ) (p : List ℕ) → 0 < length p → (s : List ℕ) → length s ≤ n → AreSplit s p (pieces_within n s p)
split_within zero p some s l = record {
  joined = refl;
  free = only_one s p (λ h. omega (arith, l, some, ap length h.2, length-append h.0 (p ++ h.1), length-append p h.1));
}
split_within (suc n) p some s l = split_from n p some (split_within n p some) s (first_place s p) l refl

pub are_split : (s p : List ℕ) → 0 < length p → AreSplit s p (pieces s p)
are_split s p some = split_within (length s) p some s (omega arith)

-- texts without a last one that is empty

kept_or_cut : (ts : List (List ℕ)) → (without_last_empty ts ≡ ts) ⊎ (ts ≡ without_last_empty ts ++ [] ∷ [])
kept_or_cut [] = inl refl
kept_or_cut ([] ∷ []) = inr refl
kept_or_cut ((b ∷ bs) ∷ []) = inl refl
kept_or_cut ([] ∷ t ∷ ts) = elim (kept_or_cut (t ∷ ts)) [ inl e ↦ inl (ap (λ rest. [] ∷ rest) e) | inr e ↦ inr (ap (λ rest. [] ∷ rest) e) ]
kept_or_cut ((b ∷ bs) ∷ t ∷ ts) = elim (kept_or_cut (t ∷ ts)) [ inl e ↦ inl (ap (λ rest. (b ∷ bs) ∷ rest) e) | inr e ↦ inr (ap (λ rest. (b ∷ bs) ∷ rest) e) ]

-- an empty text at the end adds a separator, unless it is alone
joined_cut : (p : List ℕ) (ts : List (List ℕ)) → (with_between p (ts ++ [] ∷ []) ≡ with_between p ts)
    ⊎ (with_between p (ts ++ [] ∷ []) ≡ with_between p ts ++ p)
joined_cut p [] = inl refl
joined_cut p (t ∷ []) = inr (ap (λ rest. t ++ rest) (append-nil p))
joined_cut p (t ∷ u ∷ ts) = elim (joined_cut p (u ∷ ts)) [
  | inl e ↦ inl (ap (λ rest. t ++ (p ++ rest)) e)
  | inr e ↦ inr (ap (λ rest. t ++ (p ++ rest)) e ∙ simp append_assoc)
]

some_of : (ts : List (List ℕ)) (t : List ℕ) → Contains (without_last_empty ts) t → Contains ts t
some_of ts t h = elim (kept_or_cut ts) [
  | inl e ↦ subst (λ (us : List (List ℕ)). Contains us t) e h
  | inr e ↦ subst (λ (us : List (List ℕ)). Contains us t) (sym e) (Contains-append_left (without_last_empty ts) ([] ∷ []) t h)
]

pub are_lines : (s p : List ℕ) → 0 < length p → AreLines s p (without_last_empty (pieces s p))
are_lines s p some =
    let all = are_split s p some in
    let ts : List (List ℕ) = pieces s p in
    record {
      joined = elim (kept_or_cut ts) [
        | inl e ↦ inl (ap (with_between p) e ∙ all.joined)
        | inr e ↦ elim (joined_cut p (without_last_empty ts)) [
          | inl f ↦ inl (sym f ∙ sym (ap (with_between p) e) ∙ all.joined)
          | inr f ↦ inr (sym f ∙ sym (ap (with_between p) e) ∙ all.joined)
        ]
      ];
      free = λ t there h. all.free t (some_of ts t there) h;
    }

-- what a value that is made says of the tree

pub made_is : (t u : Tree) → made t ≡ Ok u → u ≡ t
made_is t u = elim (is_small t) as (λ b. cond b (Ok t) (Err Big) ≡ Ok u → u ≡ t) [ true ↦ λ e. cc | false ↦ λ e. cc ]

made_texts : (property : List (List ℕ) → Type 0) (texts : List (List ℕ)) (r : Result Value BuiltinFault) → property texts → AnswerAgrees r (made (text_list texts))
    → IfOk r (λ v. IsTexts property (tree_of v))
made_texts property texts (Ok v) h agrees = (texts, made_is (text_list texts) (tree_of v) agrees, h)
made_texts property texts (Err e) h agrees = tt

replaced_by : (s p r : List ℕ) → 0 < length p → IsReplaced s p r (TText (with_between r (pieces s p)))
replaced_by s [] r some = absurd (omega arith)
replaced_by s (b ∷ p) r some = (pieces s (b ∷ p), are_split s (b ∷ p) some, refl)

pub replace_law : (s p r : List ℕ) (found : Result Value BuiltinFault) → 0 < length p → AnswerAgrees found (made (TText (with_between r (pieces s p))))
    → IfOk found (λ v. IsReplaced s p r (tree_of v))
replace_law s p r (Ok v) some agrees = subst (IsReplaced s p r) (sym (made_is (TText (with_between r (pieces s p))) (tree_of v) agrees))
    (replaced_by s p r some)
replace_law s p r (Err e) some agrees = tt

replaced_alike : (s p r : List ℕ) → length p ≡ 0 → IsReplaced s p r (TText s)
replaced_alike s [] r none = refl
replaced_alike s (b ∷ p) r none = absurd (omega arith)

pub replace_law_none : (s p r : List ℕ) (found : Result Value BuiltinFault) → length p ≡ 0 → AnswerAgrees found (made (TText s))
    → IfOk found (λ v. IsReplaced s p r (tree_of v))
replace_law_none s p r (Ok v) none agrees = subst (IsReplaced s p r) (sym (made_is (TText s) (tree_of v) agrees)) (replaced_alike s p r none)
replace_law_none s p r (Err e) none agrees = tt

pub split_law : (s p : List ℕ) (r : Result Value BuiltinFault) → 0 < length p → AnswerAgrees r (made (text_list (pieces s p)))
    → IfOk r (λ v. IsTexts (AreSplit s p) (tree_of v))
split_law s p r some agrees = made_texts (AreSplit s p) (pieces s p) r (are_split s p some) agrees

pub lines_law : (s p : List ℕ) (r : Result Value BuiltinFault) → 0 < length p → AnswerAgrees r (made (text_list (without_last_empty (pieces s p))))
    → IfOk r (λ v. IsTexts (AreLines s p) (tree_of v))
lines_law s p r some agrees = made_texts (AreLines s p) (without_last_empty (pieces s p)) r (are_lines s p some) agrees
