-- What the built-in functions on lists compute.
use Rattle.std.specs.Prelude.{ℕ, zero, suc, cond, List, [], ◌∷◌, map, Option, Some, None, option_map, ℤ, pos, ◌+ℤ◌}
use Rattle.std.specs.declared.cmp.Ordering.{Ordering}
use Rattle.std.specs.Ordering.{is_gt}
use Rattle.pie_value.specs.Tree.{Tree, Trees, TInt, TText, TPath, TList, TBytes, Nil, Cons, items_of}
use Rattle.pie_value.specs.BuiltinTexts.{and_then}

-- each item as something, where each one is
abbrev pub all_as : {A : Type 0} → (Tree → Option A) → Trees → Option (List A)
all_as f Nil = Some []
all_as f (Cons t ts) = and_then (f t) (λ a. option_map (λ rest. a ∷ rest) (all_as f ts))

-- an integer
abbrev pub as_int : Tree → Option ℤ
as_int (TInt n) = Some n
as_int t = None

-- a text
abbrev pub as_text : Tree → Option (List ℕ)
as_text (TText s) = Some s
as_text t = None

-- a path
abbrev pub as_path : Tree → Option (List ℕ)
as_path (TPath s) = Some s
as_path t = None

-- bytes
abbrev pub as_bytes : Tree → Option (List ℕ)
as_bytes (TBytes s) = Some s
as_bytes t = None

-- a list
abbrev pub as_list : Tree → Option Trees
as_list (TList ts) = Some ts
as_list t = None

-- a list with an element put before the first one that is greater
abbrev pub put_in : {A : Type 0} → (A → A → Ordering) → A → List A → List A
put_in order x [] = x ∷ []
put_in order x (y ∷ ys) = cond (is_gt (order x y)) (y ∷ put_in order x ys) (x ∷ y ∷ ys)

-- a list in ascending order
abbrev pub sorted_by : {A : Type 0} → (A → A → Ordering) → List A → List A
sorted_by order [] = []
sorted_by order (x ∷ xs) = put_in order x (sorted_by order xs)

-- so many integers from one on
abbrev pub ints_from : ℤ → ℕ → Trees
ints_from n zero = Nil
ints_from n (suc k) = Cons (TInt n) (ints_from (n +ℤ pos 1) k)

-- items and then others
abbrev pub joined : Trees → Trees → Trees
joined Nil us = us
joined (Cons t ts) us = Cons t (joined ts us)

-- the items of some lists, one after another
abbrev pub all_joined : List Trees → Trees
all_joined [] = Nil
all_joined (ts ∷ rest) = joined ts (all_joined rest)

-- a list of texts as a value
abbrev pub text_list : List (List ℕ) → Tree
text_list texts = TList (items_of (map TText texts))
