-- Lists that grow, as items.
use Rattle.std.proofs.Common.{◌≡◌, List, [], ◌∷◌, ◌++◌, refl, ap}
use Rattle.pie_value.specs.Tree.{Tree, Nil, Cons, items_of}
use Rattle.pie_value.specs.BuiltinItems.{joined}

-- items and others
pub joined_items : (ts us : List Tree) → items_of (ts ++ us) ≡ joined (items_of ts) (items_of us)
joined_items [] us = refl
joined_items (t ∷ ts) us = ap (Cons t) (joined_items ts us)

-- items and one more
pub pushed_items : (ts : List Tree) (t : Tree) → items_of (ts ++ t ∷ []) ≡ joined (items_of ts) (Cons t Nil)
pushed_items ts t = joined_items ts (t ∷ [])
