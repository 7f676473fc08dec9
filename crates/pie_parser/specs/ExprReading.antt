-- Reading an expression. Each definition is named for what it reads; the production stands above it.
use Rattle.std.specs.Prelude.{ℕ, zero, suc, Bool, true, false, cond, ◌==◌, List, [], ◌∷◌, length, Option, Some, None}
use Rattle.pie_lexer.specs.declared.token.Token.{Token}
use Rattle.pie_lexer.specs.declared.token.TokenKind.{TokenKind}
use Rattle.pie_lexer.specs.declared.token.TokenKind.TheVariants as tokens
use Rattle.pie_parser.specs.declared.kind.Kind.{Kind}
use Rattle.pie_parser.specs.declared.kind.Kind.TheVariants as kinds
use Rattle.pie_parser.specs.declared.chain.Level.{Level}
use Rattle.pie_parser.specs.declared.chain.Level.TheVariants as levels
use Rattle.pie_parser.specs.declared.error.ParseFault.TheVariants.{Expected, OutOfMemory}
use Rattle.pie_parser.specs.declared.tree.Name.{Name}
use Rattle.pie_parser.specs.declared.tree.Index.{Index}
use Rattle.pie_parser.specs.declared.tree.Step.{Step}
use Rattle.pie_parser.specs.declared.tree.Line.{Line}
use Rattle.pie_parser.specs.declared.tree.Line.TheVariants as line_kinds
use Rattle.pie_parser.specs.declared.tree.Literal.{Literal}
use Rattle.pie_parser.specs.declared.tree.Literal.TheVariants as literals
use Rattle.pie_parser.specs.declared.tree.Operator.{Operator}
use Rattle.pie_parser.specs.declared.tree.Comparison.{Comparison}
use Rattle.pie_parser.specs.declared.tree.Prefix.{Prefix}
use Rattle.pie_parser.specs.declared.tree.CallKind.{CallKind}
use Rattle.pie_parser.specs.declared.tree.CallKind.TheVariants as calls
use Rattle.pie_parser.specs.declared.tree.EffectKind.{EffectKind}
use Rattle.pie_parser.specs.declared.tree.EffectKind.TheVariants as effects
use Rattle.pie_parser.specs.declared.reader.Room.{Room}
use Rattle.pie_parser.specs.Kinds.{is}
use Rattle.pie_parser.specs.Tests.{operator_at, comparison_at, prefix_at, effect_at}
use Rattle.pie_parser.specs.Plain.{Tree, TLiteral, TName, TNull, TEmpty, TChain, TCompare, TPrefix, TProject, TTuple, TList, TEach, TIf, TCall, TEffect, TWrite}
use Rattle.pie_parser.specs.Plain.{TFail, Trees, BlockTree, TBlock, ElseTree, NoElse, AnElse}
use Rattle.pie_parser.specs.TreeView.{trees_of, steps_of, lines_of, last_of}
use Rattle.pie_parser.specs.At.{At}
use Rattle.pie_parser.specs.Places.{Parsed, Got, Miss, Parser, then_on, Passed, done, next, start, passed, want, open_bracket, name, index}
use Rattle.pie_parser.specs.inner.Turns.{Turn, Stop, Part, all_behind}
use Rattle.pie_parser.specs.inner.Pieces.{Piece, ALine, TheLast, on_piece, onto_lines}
use Rattle.pie_parser.specs.TypeReading.{plain_type, written_type, inner_type}

-- the literal that a token is
abbrev pub literal_by : At → TokenKind → Parsed Literal
literal_by s (tokens.Int n) = Got (literals.Int n) s
literal_by s (tokens.Text t) = Got (literals.Text t) s
literal_by s tokens.True = Got (literals.Bool true) s
literal_by s tokens.False = Got (literals.Bool false) s
literal_by s tokens.UnitWord = Got literals.Unit s
literal_by s k = Miss Expected s

-- the literal at the front of these tokens
abbrev pub literal_in : At → List Token → Parsed Literal
literal_in s [] = Miss Expected s
literal_in s (t ∷ _) = literal_by s t.kind

-- the literal that is next
abbrev pub literal_here : Parser Literal
literal_here s = cond s.marked (Miss Expected s) (literal_in s s.rest)

-- int | text | "true" | "false" | "unit"
abbrev pub literal : Parser Tree
literal s = then_on (literal_here s) (λ l a. Got (TLiteral (start s) (passed a).past l) (passed a))

-- "." int
abbrev pub another_index : At → Turn Index
another_index s = cond (is (next s) kinds.Dot) (Part (index (passed s))) Stop

-- { "." int }
abbrev pub indices : Parser (List Index)
indices s = all_behind [] another_index s

-- a projection chain, or the tuple alone where it has no number
abbrev pub projection : ℕ → ℕ → Tree → List Index → Tree
projection i j t [] = t
projection i j t (n ∷ ns) = TProject i j t (n ∷ ns)

-- a chain, or its first operand alone where it has no step
abbrev pub chain : ℕ → ℕ → Tree → List Step → Tree
chain i j t [] = t
chain i j t (x ∷ xs) = TChain i j t (steps_of (x ∷ xs))

-- a step, where there is its operator
abbrev pub step_by : Parser Tree → At → Option Operator → Turn Step
step_by part s (Some o) = Part (then_on (part (passed s)) (λ t m. Got (record { operator = o; operand = t }) m))
step_by part s None = Stop

-- operator operand
abbrev pub another_step : Parser Tree → Level → At → Turn Step
another_step part level s = step_by part s (operator_at level (next s))

-- operand { operator operand }
abbrev pub chain_of : Parser Tree → Level → Parser Tree
chain_of part level s = then_on (part s) (λ t a. then_on (all_behind [] (another_step part level) a) (λ xs m. Got (chain (start s) m.past t xs) m))

-- [ "by" ("hash" | "mark") ], by what is behind "by"
abbrev pub read_by : At → Kind → Parsed EffectKind
read_by s kinds.Hash = Got effects.ReadByHash (passed s)
read_by s kinds.Mark = Got effects.ReadByMark (passed s)
read_by s k = Miss Expected s

-- [ "by" ("hash" | "mark") ], where a `require` in front may have passed a `by mark`
abbrev pub by_of_read : Parser EffectKind
by_of_read s = cond s.marked (Got effects.ReadByMark (record s { marked = false }))
    (cond (is (next s) kinds.By) (read_by (passed s) (next (passed s))) (Got effects.Read s))

-- [ "by" "hash" ]; a `by mark` is passed where it belongs to the `read` around, and the place before it counts as the end
abbrev pub by_of_require : Bool → Parser CallKind
by_of_require in_read s = cond (is (next s) kinds.By)
    (cond (is (next (passed s)) kinds.Hash) (Got calls.RequireByHash (passed (passed s)))
    (cond in_read (then_on (want kinds.Mark (passed s)) (λ _ m. Got calls.Require (record m { past = s.past; marked = true }))) (Miss Expected (passed s))))
    (Got calls.Require s)

-- what may still be opened, and the readings inside a bracket and of a condition
pub record Around : Type 0 where
  pub room : ℕ
  pub in_read : Bool
  pub conditions : ℕ
  pub inner : Bool → Parser Tree
  pub test : Parser Tree

module _ (e : Around) where
  -- "," expr
  abbrev pub another : At → Turn Tree
  another s = cond (is (next s) kinds.Comma) (Part (e.inner false (passed s))) Stop

  -- { "," expr }, behind a first
  abbrev pub listed : Tree → Parser (List Tree)
  listed t s = all_behind (t ∷ []) another s

  -- "(" [ expr { "," expr } ] ")", behind the bracket
  abbrev pub arguments_in : At → Parsed (List Tree)
  arguments_in s = cond (is (next s) kinds.CloseRound) (Got [] (passed s))
      (then_on (e.inner false s) (λ t a. then_on (listed t a) (λ ts b. then_on (want kinds.CloseRound b) (λ _ m. Got ts m))))

  -- "(" [ expr { "," expr } ] ")"
  abbrev pub arguments : Parser (List Tree)
  arguments s = then_on (open_bracket kinds.OpenRound e.room s) (λ _ a. arguments_in a)

  -- the arguments of a call that began at this place
  abbrev pub call : ℕ → CallKind → Name → Parser Tree
  call i k n s = then_on (arguments s) (λ ts m. Got (TCall i m.past k n (trees_of ts)) m)

  -- name | name "(" [ args ] ")"
  abbrev pub name_or_call : Parser Tree
  name_or_call s = then_on (name s) (λ n a. cond (is (next a) kinds.OpenRound) (call n.at calls.Plain n a) (Got (TName n.at n.end n.text) a))

  -- "null" plain
  abbrev pub null : Parser Tree
  null s = then_on (want kinds.Null s) (λ _ a. then_on (plain_type e.room (inner_type e.room) a) (λ t m. Got (TNull (start s) m.past t) m))

  -- "empty" type
  abbrev pub empty : Parser Tree
  empty s = then_on (want kinds.Empty s) (λ _ a. then_on (written_type e.room (inner_type e.room) a) (λ t m. Got (TEmpty (start s) m.past t) m))

  -- expr ")" | expr "," expr { "," expr } ")"
  abbrev pub rounds_in : ℕ → At → Parsed Tree
  rounds_in i s = then_on (e.inner false s) (λ t a. cond (is (next a) kinds.Comma)
      (then_on (listed t a) (λ ts b. then_on (want kinds.CloseRound b) (λ _ m. Got (TTuple i m.past (trees_of ts)) m)))
      (then_on (want kinds.CloseRound a) (λ _ m. Got t m)))

  -- "(" expr ")" | "(" expr "," expr { "," expr } ")"
  abbrev pub rounds : Parser Tree
  rounds s = then_on (open_bracket kinds.OpenRound e.room s) (λ _ a. rounds_in (start s) a)

  -- "for" name "in" expr "]", behind the item of a comprehension
  abbrev pub each : ℕ → Tree → Parser Tree
  each i t s = then_on (want kinds.For s) (λ _ a. then_on (name a) (λ n b. then_on (want kinds.In b) (λ _ c.
      then_on (e.inner false c) (λ u d. then_on (want kinds.CloseSquare d) (λ _ m. Got (TEach i m.past t n u) m)))))

  -- expr { "," expr } "]" | expr "for" name "in" expr "]"
  abbrev pub squares_in : ℕ → At → Parsed Tree
  squares_in i s = then_on (e.inner false s) (λ t a. cond (is (next a) kinds.For) (each i t a)
      (then_on (listed t a) (λ ts b. then_on (want kinds.CloseSquare b) (λ _ m. Got (TList i m.past (trees_of ts)) m))))

  -- "[" expr { "," expr } "]" | "[" expr "for" name "in" expr "]"
  abbrev pub squares : Parser Tree
  squares s = then_on (open_bracket kinds.OpenSquare e.room s) (λ _ a. squares_in (start s) a)

  -- "val" name "=" expr ";"
  abbrev pub val : Parser Line
  val s = then_on (want kinds.Val s) (λ _ a. then_on (name a) (λ n b. then_on (want kinds.Assign b) (λ _ c.
      then_on (e.inner false c) (λ t d. then_on (want kinds.Semicolon d) (λ _ m. Got (line_kinds.Val (start s) m.past n t) m)))))

  -- expr [ ";" ]
  abbrev pub expr_piece : Parser Piece
  expr_piece s = then_on (e.inner false s) (λ t m. cond (is (next m) kinds.Semicolon) (Got (ALine (line_kinds.Expr t)) (passed m)) (Got (TheLast t) m))

  -- a piece, by what is next
  abbrev pub piece_by : At → Kind → Turn Piece
  piece_by s kinds.CloseBrace = Stop
  piece_by s kinds.Val = Part (then_on (val s) (λ l m. Got (ALine l) m))
  piece_by s k = Part (expr_piece s)

  abbrev pub piece : At → Turn Piece
  piece s = piece_by s (next s)

  -- { "val" name "=" expr ";" | expr ";" } [ expr ], no more than so many
  abbrev pub pieces : ℕ → Parser (List Line × Option Tree)
  pieces zero s = Got ([], None) s
  pieces (suc n) s = on_piece (piece s) s (pieces n)

  -- all pieces of a block
  abbrev pub all_pieces : Parser (List Line × Option Tree)
  all_pieces s = onto_lines [] (pieces (length s.rest) s)

  -- block = "{" { "val" name "=" expr ";" | expr ";" } [ expr ] "}"
  abbrev pub block : Parser BlockTree
  block s = then_on (open_bracket kinds.OpenBrace e.room s) (λ _ a. then_on (all_pieces a) (λ x b.
      then_on (want kinds.CloseBrace b) (λ _ m. Got (TBlock (start s) m.past (lines_of x.0) (last_of x.1)) m)))

  -- block [ "else" block ], behind the test of a condition
  abbrev pub branches : ℕ → Tree → Parser Tree
  branches i t s = then_on (block s) (λ b a. cond (is (next a) kinds.Else)
      (then_on (block (passed a)) (λ c m. Got (TIf i m.past t b (AnElse c)) m)) (Got (TIf i a.past t b NoElse) a))

  -- "if" expr block [ "else" block ]
  abbrev pub condition : Parser Tree
  condition s = cond (e.conditions == 0) (Miss OutOfMemory s)
      (then_on (want kinds.If s) (λ _ a. then_on (e.test a) (λ t b. branches (start s) t b)))

  -- "(" expr ")", behind a keyword that began at this place
  abbrev pub operand_in : ℕ → EffectKind → Parser Tree
  operand_in i k s = then_on (open_bracket kinds.OpenRound e.room s) (λ _ a. then_on (e.inner false a) (λ t b.
      then_on (want kinds.CloseRound b) (λ _ m. Got (TEffect i m.past k t) m)))

  abbrev pub effect_by : At → Option EffectKind → Parsed Tree
  effect_by s (Some k) = operand_in (start s) k (passed s)
  effect_by s None = Miss Expected s

  -- ("path" | "exists" | "digest" | "list") "(" expr ")"
  abbrev pub effect : Parser Tree
  effect s = effect_by s (effect_at (next s))

  -- "read" "(" expr [ "by" ("hash" | "mark") ] ")"
  abbrev pub read : Parser Tree
  read s = then_on (want kinds.Read s) (λ _ a. then_on (open_bracket kinds.OpenRound e.room a) (λ _ b. then_on (e.inner true b) (λ t c.
      then_on (by_of_read c) (λ k d. then_on (want kinds.CloseRound d) (λ _ m. Got (TEffect (start s) m.past k t) m)))))

  -- "write" "(" expr "," expr ")"
  abbrev pub write : Parser Tree
  write s = then_on (want kinds.Write s) (λ _ a. then_on (open_bracket kinds.OpenRound e.room a) (λ _ b. then_on (e.inner false b) (λ t c.
      then_on (want kinds.Comma c) (λ _ d. then_on (e.inner false d) (λ u f. then_on (want kinds.CloseRound f) (λ _ m. Got (TWrite (start s) m.past t u) m))))))

  -- "fail" type "(" expr ")"
  abbrev pub fail : Parser Tree
  fail s = then_on (want kinds.Fail s) (λ _ a. then_on (written_type e.room (inner_type e.room) a) (λ t b.
      then_on (open_bracket kinds.OpenRound e.room b) (λ _ c. then_on (e.inner false c) (λ u d.
      then_on (want kinds.CloseRound d) (λ _ m. Got (TFail (start s) m.past t u) m)))))

  -- "require" name "(" [ args ] ")" [ "by" "hash" ]
  abbrev pub require : Parser Tree
  require s = then_on (want kinds.Require s) (λ _ a. then_on (name a) (λ n b. then_on (arguments b) (λ ts c.
      then_on (by_of_require e.in_read c) (λ k m. Got (TCall (start s) m.past k n (trees_of ts)) m))))

  -- "run" name "(" [ args ] ")"
  abbrev pub run : Parser Tree
  run s = then_on (want kinds.Run s) (λ _ a. then_on (name a) (λ n b. call (start s) calls.Run n b))

  -- what operators stand on, by what is next
  abbrev pub primary_by : At → Kind → Parsed Tree
  primary_by s kinds.Name = name_or_call s
  primary_by s kinds.Null = null s
  primary_by s kinds.Empty = empty s
  primary_by s kinds.OpenRound = rounds s
  primary_by s kinds.OpenSquare = squares s
  primary_by s kinds.If = condition s
  primary_by s kinds.Path = effect s
  primary_by s kinds.Exists = effect s
  primary_by s kinds.Digest = effect s
  primary_by s kinds.List = effect s
  primary_by s kinds.Read = read s
  primary_by s kinds.Write = write s
  primary_by s kinds.Fail = fail s
  primary_by s kinds.Require = require s
  primary_by s kinds.Run = run s
  primary_by s k = literal s

  -- prim
  abbrev pub primary : Parser Tree
  primary s = primary_by s (next s)

  -- proj = prim { "." int }
  abbrev pub projected : Parser Tree
  projected s = then_on (primary s) (λ t a. then_on (indices a) (λ ns m. Got (projection (start s) m.past t ns) m))

  abbrev pub prefixed_by : At → Option Prefix → Parsed Tree
  prefixed_by s (Some p) = then_on (projected (passed s)) (λ t m. Got (TPrefix (start s) m.past p t) m)
  prefixed_by s None = projected s

  -- prefix = [ "!" | "-" ] proj
  abbrev pub prefixed : Parser Tree
  prefixed s = prefixed_by s (prefix_at (next s))

  -- mul = prefix { ("*" | "/" | "%") prefix }, add = mul { ("+" | "-") mul }
  abbrev pub sum : Parser Tree
  sum = chain_of (chain_of prefixed levels.Product) levels.Sum

  abbrev pub compared : ℕ → Tree → At → Option Comparison → Parsed Tree
  compared i t s (Some c) = then_on (sum (passed s)) (λ u m. Got (TCompare i m.past c t u) m)
  compared i t s None = Got t s

  -- cmp = add [ ("==" | "!=" | "<" | "<=" | ">" | ">=") add ]
  abbrev pub comparison : Parser Tree
  comparison s = then_on (sum s) (λ t a. compared (start s) t a (comparison_at (next a)))

  -- what the operators of a level stand between
  abbrev pub operand : Level → Parser Tree
  operand levels.Or = chain_of comparison levels.And
  operand levels.And = comparison
  operand levels.Sum = chain_of prefixed levels.Product
  operand levels.Product = prefixed

  -- expr = and { "||" and }, and = cmp { "&&" cmp }
  abbrev pub expr : Parser Tree
  expr = chain_of (operand levels.Or) levels.Or

-- nothing is read where no room is left: it is never asked for
abbrev pub nowhere : Parser Tree
nowhere s = Miss OutOfMemory s

-- an expression where so many conditions may be opened still: the readings inside a bracket are given
abbrev pub by_conditions : ℕ → (ℕ → Bool → Parser Tree) → ℕ → Bool → Parser Tree
by_conditions d inner zero r = expr (record { room = d; in_read = r; conditions = zero; inner = inner zero; test = nowhere })
by_conditions d inner (suc c) r = expr (record { room = d; in_read = r; conditions = suc c; inner = inner (suc c); test = by_conditions d inner c false })

-- an expression where so many brackets and conditions may be opened still, and whether a `read` stands around
abbrev pub expr_at : ℕ → ℕ → Bool → Parser Tree
expr_at zero = by_conditions zero (λ c r. nowhere)
expr_at (suc d) = by_conditions (suc d) (expr_at d)

-- an expression inside a bracket
abbrev pub inner_at : ℕ → ℕ → Bool → Parser Tree
inner_at zero c r = nowhere
inner_at (suc d) c r = expr_at d c r

-- the test of a condition
abbrev pub test_at : ℕ → ℕ → Parser Tree
test_at d zero = nowhere
test_at d (suc c) = expr_at d c false

-- what stands around, where there is this room
abbrev pub around : Room → Around
around r = record {
  room = r.brackets;
  in_read = r.in_read;
  conditions = r.conditions;
  inner = inner_at r.brackets r.conditions;
  test = test_at r.brackets
      r.conditions;
}
