-- The last entry is the top.
use Rattle.std.proofs.Common.{◌≡◌, List, [], ◌∷◌, ◌++◌, reverse}
use Rattle.std.proofs.lemmas.List.{reverse-append}
use Rattle.pie_walk.specs.declared.stack.Entry.{Entry}

pub reversed_end : (es : List Entry) (e : Entry) → reverse (es ++ e ∷ []) ≡ e ∷ reverse es
reversed_end es e = reverse-append es (e ∷ [])
