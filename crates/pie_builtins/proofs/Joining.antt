-- Items that grow by one at their end, and lists that are too large already.
use Rattle.std.proofs.Common.{◌≡◌, ℕ, ◌+◌, ◌<◌, Bool, true, false, ◌&&◌, List, [], ◌∷◌, ◌++◌, length, refl, ap, arith, Err}
use Rattle.std.specs.Prelude.{nat_le}
use Rattle.std.proofs.lemmas.List.{length-append}
use Rattle.pie_base.specs.declared.fault.FaultKind.TheVariants.{Big}
use Rattle.pie_value.specs.Tree.{Tree, Trees, TList, TText, Nil, Cons, items_of}
use Rattle.pie_value.specs.Size.{size_of, sizes_of, capped_64}
use Rattle.pie_value.specs.Limits.{is_small}
use Rattle.pie_value.specs.BuiltinItems.{joined}
use Rattle.pie_value.specs.BuiltinForms.{made}

not_both : (a b : Bool) → a ≡ false → (a && b) ≡ false
not_both false b h = refl
not_both true b h = cc

-- a value of too many bytes is not made
pub large : (t : Tree) → 1048576 < size_of t → made t ≡ Err Big
large t h =
    let n : nat_le (size_of t) 1048576 ≡ false = grind arith in
    let small : is_small t ≡ false = not_both _ _ n in
    rw small refl

pub sizes_of_joined : (ts us : Trees) → sizes_of (joined ts us) ≡ sizes_of ts + sizes_of us
sizes_of_joined Nil us = omega arith
sizes_of_joined (Cons t ts) us = omega (arith, sizes_of_joined ts us)

-- items that are too large already are too large with more
pub too_many : (ts : List Tree) (us : Trees) → 1048576 < capped_64 (sizes_of (items_of ts))
    → made (TList (joined (items_of ts) us)) ≡ Err Big
too_many ts us h = large (TList (joined (items_of ts) us)) (omega (arith, sizes_of_joined (items_of ts) us))

-- one more item before the rest
pub joined_more : (ts : List Tree) (t : Tree) (us : Trees) → joined (items_of (ts ++ t ∷ [])) us ≡ joined (items_of ts) (Cons t us)
joined_more [] t us = refl
joined_more (x ∷ xs) t us = ap (λ rest. Cons x rest) (joined_more xs t us)

pub joined_none : (ts : List Tree) → joined (items_of ts) Nil ≡ items_of ts
joined_none [] = refl
joined_none (x ∷ xs) = ap (λ rest. Cons x rest) (joined_none xs)

sizes_of_append : (ts us : List Tree) → sizes_of (items_of (ts ++ us)) ≡ sizes_of (items_of ts) + sizes_of (items_of us)
sizes_of_append [] us = omega arith
sizes_of_append (t ∷ ts) us = omega (arith, sizes_of_append ts us)

-- a list that is too large already is too large with more items
pub too_many_items : (ts us : List Tree) → 1048576 < capped_64 (sizes_of (items_of ts)) → made (TList (items_of (ts ++ us))) ≡ Err Big
too_many_items ts us h = large (TList (items_of (ts ++ us))) (omega (arith, sizes_of_append ts us))

-- a text that is too long already is too long with more bytes
pub too_long : (s t : List ℕ) → 1048576 < length s → made (TText (s ++ t)) ≡ Err Big
too_long s t h = large (TText (s ++ t)) (omega (arith, length-append s t))
