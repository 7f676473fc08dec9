-- Worked cases of printable tasks, and of tasks that aren't.
use Rattle.std.proofs.Common.{◌≡◌, ◌-◌, ◌^◌, List, [], ◌∷◌, negsuc, refl, arith}
use Rattle.std.specs.Prelude.{codes}
use Rattle.pie_lexer.specs.declared.token.TokenKind.TheVariants as kinds
use Rattle.pie_value.specs.declared.task.Task.{Task}
use Rattle.pie_value.specs.Tree.{Tree, TInt, TText, TPath, TTuple, TBytes, Nil, Cons}
use Rattle.pie_value.specs.Shown.{shown_task}
use Rattle.pie_roots.specs.Written.{task_tokens}
use Rattle.pie_root_laws.specs.Printed.{IsName, name, IsPrintable, IsCutInto}
use Rattle.pie_root_laws.proofs.Values.{task_cut}

-- f of these values
abbrev f_of : List Tree → Task
f_of ts = record { func = codes "f"; args = ts }

-- each text, path and blob may stand there, and a tuple of any number of items
abbrev many : Task
many = f_of (TText (34 ∷ 92 ∷ 10 ∷ 9 ∷ 0 ∷ 255 ∷ []) ∷ TPath (codes "//") ∷ TBytes (0 ∷ []) ∷ TTuple (Cons (TInt (negsuc 0)) Nil) ∷ [])

many_printable : IsPrintable many
many_printable = record { func = name refl refl refl; numbers = (tt, (tt, (tt, ((omega arith, tt), tt)))) }

many_cut : IsCutInto (shown_task many) (task_tokens many)
many_cut = task_cut many many_printable

-- the least number of 64 bits has digits that are too wide
least_is_not : IsPrintable (f_of (TInt (negsuc (2 ^ 63 - 1)) ∷ [])) → ⊥
least_is_not p = let h = p.numbers.0 in omega arith

-- a keyword is no name
keyword_is_none : IsName (codes "list") → ⊥
keyword_is_none (name l h e) = let k : kinds.List ≡ kinds.Name (codes "list") = e in cc
