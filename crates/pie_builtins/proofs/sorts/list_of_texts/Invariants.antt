-- What is done, and then what the rest gives.
use Rattle.std.proofs.Common.{◌≡◌, ◌++◌, drop, map}
use Rattle.pie_value.specs.Tree.{TText}
use Rattle.pie_builtins.proofs.sorts.list_of_texts.Given as goal

abbrev pub invariant-loop-text : goal.invariant-loop-text
invariant-loop-text l = l.items ++ map TText (map (λ text. text.now) (drop l.text-index l.texts)) ≡ map TText (map (λ text. text.now) l.texts)
