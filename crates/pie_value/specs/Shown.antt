-- How values and tasks are shown.
use Rattle.std.specs.Prelude.{ℕ, ◌==◌, List, [], ◌∷◌, ◌++◌, cond, codes}
use Rattle.std.specs.Fmt.{signed_decimal}
use Rattle.hex.specs.Hex.{encode_lower}
use Rattle.pie_value.specs.declared.task.Task.{Task}
use Rattle.pie_value.specs.Tree.{Tree, Trees, TUnit, TBool, TInt, TText, TPath, TList, TTuple, TNull, TBytes, Nil, Cons, items_of}

-- the four bytes that a text shows by a backslash and another: quote, backslash, newline and tab
abbrev pub escape_byte : ℕ → List ℕ
escape_byte b =
    cond (b == 34) (92 ∷ 34 ∷ []) (cond (b == 92) (92 ∷ 92 ∷ []) (cond (b == 10) (92 ∷ 110 ∷ []) (cond (b == 9) (92 ∷ 116 ∷ []) (b ∷ []))))

-- a text with its escapes
abbrev pub escaped : List ℕ → List ℕ
escaped [] = []
escaped (b ∷ bs) = escape_byte b ++ escaped bs

-- a text in quotes
abbrev pub quoted : List ℕ → List ℕ
quoted bs = 34 ∷ (escaped bs ++ 34 ∷ [])

-- bytes as digits in quotes
abbrev pub shown_bytes : List ℕ → List ℕ
shown_bytes bs = codes "bytes(" ++ (quoted (encode_lower bs) ++ codes ")")

abbrev mutual
  -- a value as it is printed
  pub shown : Tree → List ℕ
  shown TUnit = codes "unit"
  shown (TBool b) = cond b (codes "true") (codes "false")
  shown (TInt n) = signed_decimal n
  shown (TText bs) = quoted bs
  shown (TPath bs) = codes "path(" ++ (quoted bs ++ codes ")")
  shown (TList ts) = codes "[" ++ (listed ts ++ codes "]")
  shown (TTuple ts) = codes "(" ++ (listed ts ++ codes ")")
  shown TNull = codes "null"
  shown (TBytes bs) = shown_bytes bs

  -- items with a comma and a space between them
  pub listed : Trees → List ℕ
  listed Nil = []
  listed (Cons t ts) = shown t ++ listed_on ts

  -- items that others stand before
  pub listed_on : Trees → List ℕ
  listed_on Nil = []
  listed_on (Cons t ts) = codes ", " ++ (shown t ++ listed_on ts)

-- a task as it is printed
abbrev pub shown_task : Task → List ℕ
shown_task t = t.func ++ (codes "(" ++ (listed (items_of t.args) ++ codes ")"))
