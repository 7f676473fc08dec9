-- A value as a plain tree.
use Rattle.std.specs.Prelude.{ℕ, ℤ, Bool, List, [], ◌∷◌, ◌+◌}

mutual
  -- a value: texts, paths and blobs are their bytes, lists and tuples are their items
  pub data Tree : Type 0 where
    TUnit : Tree
    TBool : Bool → Tree
    TInt : ℤ → Tree
    TText : List ℕ → Tree
    TPath : List ℕ → Tree
    TList : Trees → Tree
    TTuple : Trees → Tree
    TNull : Tree
    TBytes : List ℕ → Tree

  -- the items of a list or of a tuple
  pub data Trees : Type 0 where
    Nil : Trees
    Cons : Tree → Trees → Trees

-- a plain list of values as items
abbrev pub items_of : List Tree → Trees
items_of [] = Nil
items_of (t ∷ ts) = Cons t (items_of ts)

-- items as a plain list of values
abbrev pub list_of : Trees → List Tree
list_of Nil = []
list_of (Cons t ts) = t ∷ list_of ts

-- how many items there are
abbrev pub count_of : Trees → ℕ
count_of Nil = 0
count_of (Cons t ts) = count_of ts + 1

abbrev mutual
  -- how many parts a value has, those of its items included
  pub mass : Tree → ℕ
  mass TUnit = 1
  mass (TBool b) = 1
  mass (TInt n) = 1
  mass (TText bs) = 1
  mass (TPath bs) = 1
  mass (TList ts) = masses ts + 4
  mass (TTuple ts) = masses ts + 4
  mass TNull = 1
  mass (TBytes bs) = 1

  pub masses : Trees → ℕ
  masses Nil = 0
  masses (Cons t ts) = mass t + masses ts

-- how many parts some values have, and one more
abbrev pub weight : List Tree → ℕ
weight ts = masses (items_of ts) + 1
