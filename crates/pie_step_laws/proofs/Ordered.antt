-- Lists of tasks in a strict order: sorting by insertion, and that one set of tasks has one such list.
use Rattle.std.proofs.Common.{◌≡◌, Bool, true, false, cond, List, [], ◌∷◌, ◌⊎◌, inl, inr, sym, ◌∙◌, ap, subst, refl}
use Rattle.pie_model.specs.Paths.{among}
use Rattle.pie_model.specs.Tasks.{Task}
use Rattle.pie_model.specs.Running.{IsDistinct}
use Rattle.pie_model.proofs.Basics.{clash, among_here, among_there, among_split, apart_rest, apart_prefix}
use Rattle.pie_step_laws.proofs.Tables.{among_one}

-- a task put into its place, where `b` tells what comes before
abbrev pub put : (Task → Task → Bool) → Task → List Task → List Task
put b x [] = x ∷ []
put b x (m ∷ ms) = cond (b m x) (m ∷ put b x ms) (x ∷ m ∷ ms)

abbrev pub sorted : (Task → Task → Bool) → List Task → List Task
sorted b [] = []
sorted b (t ∷ ts) = put b t (sorted b ts)

module _ (b : Task → Task → Bool) where
  pub put_has : (x t : Task) (ys : List Task) → (t ≡ x) ⊎ (among t ys ≡ true) → among t (put b x ys) ≡ true
  put_has x t [] (inl e) = subst (λ z. among z (x ∷ []) ≡ true) (sym e) (among_here x [])
  put_has x t [] (inr i) = clash false i refl
  put_has x t (m ∷ ms) h = go (b m x) (put_has x t ms) h
    where
      split : (t ≡ m) ⊎ (among t ms ≡ true) → ((t ≡ x) ⊎ (among t ms ≡ true) → among t (put b x ms) ≡ true) → among t (m ∷ put b x ms) ≡ true
      split (inl e) r = subst (λ z. among z (m ∷ put b x ms) ≡ true) (sym e) (among_here m (put b x ms))
      split (inr i) r = among_there t m (put b x ms) (r (inr i))

      go : (c : Bool) → ((t ≡ x) ⊎ (among t ms ≡ true) → among t (put b x ms) ≡ true) → (t ≡ x) ⊎ (among t (m ∷ ms) ≡ true)
          → among t (cond c (m ∷ put b x ms) (x ∷ m ∷ ms)) ≡ true
      go true r (inl e) = among_there t m (put b x ms) (r (inl e))
      go true r (inr i) = split (among_split t m ms i) r
      go false r (inl e) = subst (λ z. among z (x ∷ m ∷ ms) ≡ true) (sym e) (among_here x (m ∷ ms))
      go false r (inr i) = among_there t x (m ∷ ms) i

  pub has_put : (x t : Task) (ys : List Task) → among t (put b x ys) ≡ true → (t ≡ x) ⊎ (among t ys ≡ true)
  has_put x t [] h = inl (among_one t x h)
  has_put x t (m ∷ ms) h = go (b m x) (has_put x t ms) h
    where
      more : (t ≡ x) ⊎ (among t ms ≡ true) → (t ≡ x) ⊎ (among t (m ∷ ms) ≡ true)
      more (inl e) = inl e
      more (inr i) = inr (among_there t m ms i)

      split : (t ≡ m) ⊎ (among t (put b x ms) ≡ true) → (among t (put b x ms) ≡ true → (t ≡ x) ⊎ (among t ms ≡ true))
          → (t ≡ x) ⊎ (among t (m ∷ ms) ≡ true)
      split (inl e) r = inr (subst (λ z. among z (m ∷ ms) ≡ true) (sym e) (among_here m ms))
      split (inr i) r = more (r i)

      go : (c : Bool) → (among t (put b x ms) ≡ true → (t ≡ x) ⊎ (among t ms ≡ true)) → among t (cond c (m ∷ put b x ms) (x ∷ m ∷ ms)) ≡ true
          → (t ≡ x) ⊎ (among t (m ∷ ms) ≡ true)
      go true r k = split (among_split t m (put b x ms) k) r
      go false r k = among_split t x (m ∷ ms) k

  pub sorted_has : (t : Task) (ts : List Task) → among t ts ≡ true → among t (sorted b ts) ≡ true
  sorted_has t [] h = h
  sorted_has t (x ∷ xs) h = put_has x t (sorted b xs) (go (among_split t x xs h) (sorted_has t xs))
    where
      go : (t ≡ x) ⊎ (among t xs ≡ true) → (among t xs ≡ true → among t (sorted b xs) ≡ true) → (t ≡ x) ⊎ (among t (sorted b xs) ≡ true)
      go (inl e) r = inl e
      go (inr i) r = inr (r i)

  pub has_sorted : (t : Task) (ts : List Task) → among t (sorted b ts) ≡ true → among t ts ≡ true
  has_sorted t [] h = h
  has_sorted t (x ∷ xs) h = go (has_put x t (sorted b xs) h) (has_sorted t xs)
    where
      go : (t ≡ x) ⊎ (among t (sorted b xs) ≡ true) → (among t (sorted b xs) ≡ true → among t xs ≡ true) → among t (x ∷ xs) ≡ true
      go (inl e) r = subst (λ z. among z (x ∷ xs) ≡ true) (sym e) (among_here x xs)
      go (inr i) r = among_there t x xs (r i)

module _ (Lt : Task → Task → Type 0) where
  -- each comes before all later ones
  abbrev pub Ascending : List Task → Type 0
  Ascending [] = Unit {0}
  Ascending (x ∷ xs) = ((y : Task) → among y xs ≡ true → Lt x y) × Ascending xs

module _ (Lt : Task → Task → Type 0) (irreflexive : (x : Task) → Lt x x → ⊥) (trans : (x y z : Task) → Lt x y → Lt y z → Lt x z) where
  -- a set of tasks has one ascending list
  pub one_list : (xs ys : List Task) → Ascending Lt xs → Ascending Lt ys → ((t : Task) → among t xs ≡ true → among t ys ≡ true)
      → ((t : Task) → among t ys ≡ true → among t xs ≡ true) → xs ≡ ys
  one_list [] [] a c f g = refl
  one_list [] (y ∷ ys) a c f g = clash false (g y (among_here y ys)) refl
  one_list (x ∷ xs) [] a c f g = clash false (f x (among_here x xs)) refl
  one_list (x ∷ xs) (y ∷ ys) a c f g =
      ap (λ z. z ∷ xs) first
      ∙ ap (λ z. y ∷ z) (one_list xs ys a.1 c.1 (λ t i. left t i (among_split t y ys (f t (among_there t x xs i))))
      (λ t i. right t i (among_split t x xs (g t (among_there t y ys i)))))
    where
      meet : (x ≡ y) ⊎ (among x ys ≡ true) → (y ≡ x) ⊎ (among y xs ≡ true) → x ≡ y
      meet (inl e) k = e
      meet (inr i) (inl e) = sym e
      meet (inr i) (inr j) = absurd (irreflexive x (trans x y x (a.0 y j) (c.0 x i)))

      first : x ≡ y
      first = meet (among_split x y ys (f x (among_here x xs))) (among_split y x xs (g y (among_here y ys)))

      left : (t : Task) → among t xs ≡ true → (t ≡ y) ⊎ (among t ys ≡ true) → among t ys ≡ true
      left t i (inl e) = absurd (irreflexive x (subst (Lt x) (e ∙ sym first) (a.0 t i)))
      left t i (inr j) = j

      right : (t : Task) → among t ys ≡ true → (t ≡ x) ⊎ (among t xs ≡ true) → among t xs ≡ true
      right t i (inl e) = absurd (irreflexive y (subst (Lt y) (e ∙ first) (c.0 t i)))
      right t i (inr j) = j

  module _ (b : Task → Task → Bool) (yes : (x y : Task) → b x y ≡ true → Lt x y)
      (other : (x y : Task) → b x y ≡ false → (x ≡ y → ⊥) → Lt y x) where
    put_ascending : (x : Task) (ys : List Task) → Ascending Lt ys → among x ys ≡ false → Ascending Lt (put b x ys)
    put_ascending x [] a h = ((λ y i. clash false i refl), tt)
    put_ascending x (m ∷ ms) a h = go (b m x) refl (put_ascending x ms a.1)
      where
        apart : among x ms ≡ false
        apart = apart_rest x m ms h

        differ : m ≡ x → ⊥
        differ e = apart_prefix x m ms h (sym e)

        after : b m x ≡ true → (y : Task) → (y ≡ x) ⊎ (among y ms ≡ true) → Lt m y
        after k y (inl e) = subst (Lt m) (sym e) (yes m x k)
        after k y (inr i) = a.0 y i

        before : b m x ≡ false → (y : Task) → (y ≡ m) ⊎ (among y ms ≡ true) → Lt x y
        before k y (inl e) = subst (Lt x) (sym e) (other m x k differ)
        before k y (inr i) = trans x m y (other m x k differ) (a.0 y i)

        go : (c : Bool) → b m x ≡ c → (among x ms ≡ false → Ascending Lt (put b x ms)) → Ascending Lt (cond c (m ∷ put b x ms) (x ∷ m ∷ ms))
        go true k r = ((λ y i. after k y (has_put b x y ms i)), r apart)
        go false k r = ((λ y i. before k y (among_split y m ms i)), a)

    pub sorted_ascending : (ts : List Task) → IsDistinct ts → Ascending Lt (sorted b ts)
    sorted_ascending [] d = tt
    sorted_ascending (t ∷ ts) d = put_ascending t (sorted b ts) (sorted_ascending ts d.1) (go (among t (sorted b ts)) refl)
      where
        go : (c : Bool) → among t (sorted b ts) ≡ c → among t (sorted b ts) ≡ false
        go true i = clash (among t ts) (has_sorted b t ts i) d.0
        go false i = i
