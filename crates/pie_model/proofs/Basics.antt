-- Byte strings among others, and answers of tests.
use Rattle.std.proofs.Common.{ℕ, ◌≡◌, Bool, true, false, cond, List, [], ◌∷◌, ◌++◌, ◌⊎◌, inl, inr, bytes_eq, sym, ◌∙◌, ap, subst, refl}
use Rattle.std.proofs.lemmas.Slice.Eq.{bytes_eq-Decides}
use Rattle.pie_model.specs.Paths.{among}

pub same_bytes : (x y : List ℕ) → bytes_eq x y ≡ true → x ≡ y
same_bytes x y = (bytes_eq-Decides x y).0

pub bytes_same : (x : List ℕ) → bytes_eq x x ≡ true
bytes_same x = (bytes_eq-Decides x x).1 refl

pub clash : {A : Type 0} (b : Bool) → b ≡ true → b ≡ false → A
clash b h k = absurd (true_is (sym h ∙ k))
  where
    true_is : true ≡ false → ⊥
    true_is e = cc

pub cases : (b : Bool) → (b ≡ true) ⊎ (b ≡ false)
cases true = inl refl
cases false = inr refl

pub among_here : (x : List ℕ) (ys : List (List ℕ)) → among x (x ∷ ys) ≡ true
among_here x ys = ap (λ b. cond b true (among x ys)) (bytes_same x)

pub among_there : (x y : List ℕ) (ys : List (List ℕ)) → among x ys ≡ true → among x (y ∷ ys) ≡ true
among_there x y ys h = go (bytes_eq x y)
  where
    go : (b : Bool) → cond b true (among x ys) ≡ true
    go true = refl
    go false = h

pub among_split : (x y : List ℕ) (ys : List (List ℕ)) → among x (y ∷ ys) ≡ true → (x ≡ y) ⊎ (among x ys ≡ true)
among_split x y ys h = go (bytes_eq x y) refl h
  where
    go : (b : Bool) → bytes_eq x y ≡ b → cond b true (among x ys) ≡ true → (x ≡ y) ⊎ (among x ys ≡ true)
    go true e k = inl (same_bytes x y e)
    go false e k = inr k

-- not among a list with a front: not among the rest, and another than the front
pub apart_rest : (x y : List ℕ) (ys : List (List ℕ)) → among x (y ∷ ys) ≡ false → among x ys ≡ false
apart_rest x y ys h = go (among x ys) refl
  where
    go : (b : Bool) → among x ys ≡ b → among x ys ≡ false
    go true e = clash (among x (y ∷ ys)) (among_there x y ys e) h
    go false e = e

pub apart_prefix : {A : Type 0} (x y : List ℕ) (ys : List (List ℕ)) → among x (y ∷ ys) ≡ false → x ≡ y → A
apart_prefix x y ys h e = clash (among x (y ∷ ys)) (subst (λ z. among x (z ∷ ys) ≡ true) e (among_here x ys)) h

abbrev pub front_or : (x y : List ℕ) (ys : List (List ℕ)) → (x ≡ y) ⊎ (among x ys ≡ true) → among x (y ∷ ys) ≡ true
front_or x y ys (inl e) = subst (λ z. among x (z ∷ ys) ≡ true) e (among_here x ys)
front_or x y ys (inr k) = among_there x y ys k

pub among_left : (x : List ℕ) (ys zs : List (List ℕ)) → among x ys ≡ true → among x (ys ++ zs) ≡ true
among_left x [] zs h = clash false h refl
among_left x (y ∷ ys) zs h = go (among_split x y ys h) (among_left x ys zs)
  where
    go : (x ≡ y) ⊎ (among x ys ≡ true) → (among x ys ≡ true → among x (ys ++ zs) ≡ true) → among x (y ∷ (ys ++ zs)) ≡ true
    go (inl e) r = front_or x y (ys ++ zs) (inl e)
    go (inr k) r = among_there x y (ys ++ zs) (r k)

pub among_right : (x : List ℕ) (ys zs : List (List ℕ)) → among x zs ≡ true → among x (ys ++ zs) ≡ true
among_right x [] zs h = h
among_right x (y ∷ ys) zs h = among_there x y (ys ++ zs) (among_right x ys zs h)

pub among_either : (x : List ℕ) (ys zs : List (List ℕ)) → among x (ys ++ zs) ≡ true → (among x ys ≡ true) ⊎ (among x zs ≡ true)
among_either x [] zs h = inr h
among_either x (y ∷ ys) zs h = go (among_split x y (ys ++ zs) h) (among_either x ys zs)
  where
    later : (among x ys ≡ true) ⊎ (among x zs ≡ true) → (among x (y ∷ ys) ≡ true) ⊎ (among x zs ≡ true)
    later (inl k) = inl (among_there x y ys k)
    later (inr k) = inr k

    go : (x ≡ y) ⊎ (among x (ys ++ zs) ≡ true) → (among x (ys ++ zs) ≡ true → (among x ys ≡ true) ⊎ (among x zs ≡ true))
        → (among x (y ∷ ys) ≡ true) ⊎ (among x zs ≡ true)
    go (inl e) r = inl (front_or x y ys (inl e))
    go (inr k) r = later (r k)
