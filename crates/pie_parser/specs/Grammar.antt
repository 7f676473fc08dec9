-- The grammar of expressions: between two places stands this tree. A rule for each production.
-- `r` says whether a `read` stands around, whose `by mark` may stand behind the expression: it leaves a marked place.
use Rattle.std.specs.Prelude.{◌≡◌, ℕ, Bool, true, false, List, [], ◌∷◌, Option, Some, None}
use Rattle.pie_parser.specs.declared.kind.Kind.{Kind}
use Rattle.pie_parser.specs.declared.kind.Kind.TheVariants as kinds
use Rattle.pie_parser.specs.declared.chain.Level.{Level}
use Rattle.pie_parser.specs.declared.chain.Level.TheVariants as levels
use Rattle.pie_parser.specs.declared.tree.Name.{Name}
use Rattle.pie_parser.specs.declared.tree.Index.{Index}
use Rattle.pie_parser.specs.declared.tree.Step.{Step}
use Rattle.pie_parser.specs.declared.tree.Line.{Line}
use Rattle.pie_parser.specs.declared.tree.Line.TheVariants as line_kinds
use Rattle.pie_parser.specs.declared.tree.Literal.{Literal}
use Rattle.pie_parser.specs.declared.tree.Operator.{Operator}
use Rattle.pie_parser.specs.declared.tree.Comparison.{Comparison}
use Rattle.pie_parser.specs.declared.tree.Prefix.{Prefix}
use Rattle.pie_parser.specs.declared.tree.CallKind.{CallKind}
use Rattle.pie_parser.specs.declared.tree.CallKind.TheVariants as calls
use Rattle.pie_parser.specs.declared.tree.EffectKind.{EffectKind}
use Rattle.pie_parser.specs.declared.tree.EffectKind.TheVariants as effects
use Rattle.pie_parser.specs.declared.tree.Param.{Param}
use Rattle.pie_parser.specs.Tests.{operator_at, comparison_at, prefix_at, effect_at}
use Rattle.pie_parser.specs.PlainTypes.{TypeTree}
use Rattle.pie_parser.specs.Plain.{Tree, TLiteral, TName, TNull, TEmpty, TChain, TCompare, TPrefix, TProject, TTuple, TList, TEach, TIf, TCall, TEffect, TWrite}
use Rattle.pie_parser.specs.Plain.{TFail, BlockTree, TBlock, ElseTree, NoElse, AnElse}
use Rattle.pie_parser.specs.TreeView.{trees_of, steps_of, lines_of, last_of}
use Rattle.pie_parser.specs.At.{At}
use Rattle.pie_parser.specs.Places.{Got, next, start, passed, index}
use Rattle.pie_parser.specs.TypeGrammar.{Eats, IsName, IsType, IsPlain}
use Rattle.pie_parser.specs.ExprReading.{literal_here, projection, chain}

-- the number of a projection stands between two places
abbrev pub IsIndex : At → At → Index → Type 0
IsIndex s m n = index s ≡ Got n m

-- { "." int }
pub data Indices : At → At → List Index → Type 0 where
  no_index : {s : At} → Indices s s []
  an_index : {s a b m : At} {n : Index} {ns : List Index} → Eats kinds.Dot s a → IsIndex a b n → Indices b m ns → Indices s m (n ∷ ns)

-- [ "by" "hash" ] of a `require`: a `by` right behind it is its own. Where a `read` stands around, a `by mark` may be passed: the end stays,
-- and the place is marked
pub data ByOfRequire : Bool → At → At → CallKind → Type 0 where
  nothing : {r : Bool} {s : At} → (next s ≡ kinds.By → ⊥) → ByOfRequire r s s calls.Require
  by_hash : {r : Bool} {s a m : At} → Eats kinds.By s a → Eats kinds.Hash a m → ByOfRequire r s m calls.RequireByHash
  passes_mark : {s a b : At} → Eats kinds.By s a → Eats kinds.Mark a b → ByOfRequire true s (record b { past = s.past; marked = true }) calls.Require

-- [ "by" ("hash" | "mark") ] of a `read`, or the marked place that a `require` in front has left
pub data ByOfRead : At → At → EffectKind → Type 0 where
  nothing : {s : At} → ByOfRead s s effects.Read
  by_hash : {s a m : At} → Eats kinds.By s a → Eats kinds.Hash a m → ByOfRead s m effects.ReadByHash
  by_mark : {s a m : At} → Eats kinds.By s a → Eats kinds.Mark a m → ByOfRead s m effects.ReadByMark
  marked : {s : At} → s.marked ≡ true → ByOfRead s (record s { marked = false }) effects.ReadByMark

mutual
  -- expr = and { "||" and }
  pub data IsExpr : Bool → At → At → Tree → Type 0 where
    expr : {r : Bool} {s m : At} {t : Tree} → IsChain levels.Or r s m t → IsExpr r s m t

  -- operand { operator operand }: one operand alone is no node
  pub data IsChain : Level → Bool → At → At → Tree → Type 0 where
    chained : {l : Level} {r : Bool} {s a m : At} {t u : Tree} {xs : List Step} → IsOperand l r s a t → Steps l r a m xs → u ≡ chain (start s) m.past t xs
        → IsChain l r s m u

  -- what the operators of a level stand between
  pub data IsOperand : Level → Bool → At → At → Tree → Type 0 where
    of_or : {r : Bool} {s m : At} {t : Tree} → IsChain levels.And r s m t → IsOperand levels.Or r s m t
    of_and : {r : Bool} {s m : At} {t : Tree} → IsComparison r s m t → IsOperand levels.And r s m t
    of_sum : {r : Bool} {s m : At} {t : Tree} → IsChain levels.Product r s m t → IsOperand levels.Sum r s m t
    of_product : {r : Bool} {s m : At} {t : Tree} → IsPrefixed r s m t → IsOperand levels.Product r s m t

  -- { operator operand }
  pub data Steps : Level → Bool → At → At → List Step → Type 0 where
    no_step : {l : Level} {r : Bool} {s : At} → Steps l r s s []
    a_step : {l : Level} {r : Bool} {s a m : At} {o : Operator} {t : Tree} {xs : List Step} → operator_at l (next s) ≡ Some o → IsOperand l r (passed s) a t
        → Steps l r a m xs
        → Steps l r s m (record { operator = o; operand = t } ∷ xs)

  -- cmp = add [ ("==" | "!=" | "<" | "<=" | ">" | ">=") add ]
  pub data IsComparison : Bool → At → At → Tree → Type 0 where
    alone : {r : Bool} {s m : At} {t : Tree} → IsChain levels.Sum r s m t → IsComparison r s m t
    compared : {r : Bool} {s a m : At} {c : Comparison} {t u : Tree} → IsChain levels.Sum r s a t → comparison_at (next a) ≡ Some c
        → IsChain levels.Sum r (passed a) m u
        → IsComparison r s m (TCompare (start s) m.past c t u)

  -- prefix = [ "!" | "-" ] proj
  pub data IsPrefixed : Bool → At → At → Tree → Type 0 where
    plain : {r : Bool} {s m : At} {t : Tree} → IsProjected r s m t → IsPrefixed r s m t
    prefixed : {r : Bool} {s m : At} {p : Prefix} {t : Tree} → prefix_at (next s) ≡ Some p → IsProjected r (passed s) m t
        → IsPrefixed r s m (TPrefix (start s) m.past p t)

  -- proj = prim { "." int }
  pub data IsProjected : Bool → At → At → Tree → Type 0 where
    projected : {r : Bool} {s a m : At} {t u : Tree} {ns : List Index} → IsPrimary r s a t → Indices a m ns → u ≡ projection (start s) m.past t ns
        → IsProjected r s m u

  -- prim
  pub data IsPrimary : Bool → At → At → Tree → Type 0 where
    literal : {r : Bool} {s : At} {l : Literal} → literal_here s ≡ Got l s → IsPrimary r s (passed s) (TLiteral (start s) (passed s).past l)
    a_name : {r : Bool} {s m : At} {n : Name} → IsName s m n → IsPrimary r s m (TName n.at n.end n.text)
    call : {r : Bool} {s a m : At} {n : Name} {ts : List Tree} → IsName s a n → Arguments a m ts
        → IsPrimary r s m (TCall n.at m.past calls.Plain n (trees_of ts))
    null : {r : Bool} {s a m : At} {t : TypeTree} → Eats kinds.Null s a → IsPlain a m t → IsPrimary r s m (TNull (start s) m.past t)
    empty : {r : Bool} {s a m : At} {t : TypeTree} → Eats kinds.Empty s a → IsType a m t → IsPrimary r s m (TEmpty (start s) m.past t)
    brackets : {r : Bool} {s a b m : At} {t : Tree} → Eats kinds.OpenRound s a → IsExpr false a b t → Eats kinds.CloseRound b m → IsPrimary r s m t
    tuple : {r : Bool} {s a b c m : At} {t : Tree} {ts : List Tree} → Eats kinds.OpenRound s a → IsExpr false a b t → next b ≡ kinds.Comma → More b c ts
        → Eats kinds.CloseRound c m
        → IsPrimary r s m (TTuple (start s) m.past (trees_of (t ∷ ts)))
    list : {r : Bool} {s a b c m : At} {t : Tree} {ts : List Tree} → Eats kinds.OpenSquare s a → IsExpr false a b t → More b c ts → Eats kinds.CloseSquare c m
        → IsPrimary r s m (TList (start s) m.past (trees_of (t ∷ ts)))
    each : {r : Bool} {s a b c d e f m : At} {t u : Tree} {n : Name} → Eats kinds.OpenSquare s a → IsExpr false a b t → Eats kinds.For b c → IsName c d n
        → Eats kinds.In d e
        → IsExpr false e f u → Eats kinds.CloseSquare f m → IsPrimary r s m (TEach (start s) m.past t n u)
    if_alone : {r : Bool} {s a b m : At} {t : Tree} {x : BlockTree} → Eats kinds.If s a → IsExpr false a b t → IsBlock b m x
        → IsPrimary r s m (TIf (start s) m.past t x NoElse)
    if_else : {r : Bool} {s a b c d m : At} {t : Tree} {x y : BlockTree} → Eats kinds.If s a → IsExpr false a b t → IsBlock b c x → Eats kinds.Else c d
        → IsBlock d m y
        → IsPrimary r s m (TIf (start s) m.past t x (AnElse y))
    effect : {r : Bool} {s a b m : At} {k : EffectKind} {t : Tree} → effect_at (next s) ≡ Some k → Eats kinds.OpenRound (passed s) a → IsExpr false a b t
        → Eats kinds.CloseRound b m
        → IsPrimary r s m (TEffect (start s) m.past k t)
    read : {r : Bool} {s a b c d m : At} {k : EffectKind} {t : Tree} → Eats kinds.Read s a → Eats kinds.OpenRound a b → IsExpr true b c t → ByOfRead c d k
        → Eats kinds.CloseRound d m
        → IsPrimary r s m (TEffect (start s) m.past k t)
    write : {r : Bool} {s a b c d e m : At} {t u : Tree} → Eats kinds.Write s a → Eats kinds.OpenRound a b → IsExpr false b c t → Eats kinds.Comma c d
        → IsExpr false d e u
        → Eats kinds.CloseRound e m → IsPrimary r s m (TWrite (start s) m.past t u)
    fail : {r : Bool} {s a b c d m : At} {t : TypeTree} {u : Tree} → Eats kinds.Fail s a → IsType a b t → Eats kinds.OpenRound b c → IsExpr false c d u
        → Eats kinds.CloseRound d m
        → IsPrimary r s m (TFail (start s) m.past t u)
    require : {r : Bool} {s a b c m : At} {n : Name} {ts : List Tree} {k : CallKind} → Eats kinds.Require s a → IsName a b n → Arguments b c ts
        → ByOfRequire r c m k
        → IsPrimary r s m (TCall (start s) m.past k n (trees_of ts))
    run : {r : Bool} {s a b m : At} {n : Name} {ts : List Tree} → Eats kinds.Run s a → IsName a b n → Arguments b m ts
        → IsPrimary r s m (TCall (start s) m.past calls.Run n (trees_of ts))

  -- "(" [ expr { "," expr } ] ")"
  pub data Arguments : At → At → List Tree → Type 0 where
    none : {s a m : At} → Eats kinds.OpenRound s a → Eats kinds.CloseRound a m → Arguments s m []
    some : {s a b c m : At} {t : Tree} {ts : List Tree} → Eats kinds.OpenRound s a → IsExpr false a b t → More b c ts → Eats kinds.CloseRound c m
        → Arguments s m (t ∷ ts)

  -- { "," expr }
  pub data More : At → At → List Tree → Type 0 where
    no_more : {s : At} → More s s []
    one_more : {s a b m : At} {t : Tree} {ts : List Tree} → Eats kinds.Comma s a → IsExpr false a b t → More b m ts → More s m (t ∷ ts)

  -- block = "{" { "val" name "=" expr ";" | expr ";" } [ expr ] "}"
  pub data IsBlock : At → At → BlockTree → Type 0 where
    block : {s a b m : At} {ls : List Line} {u : Option Tree} → Eats kinds.OpenBrace s a → Lines a b ls u → Eats kinds.CloseBrace b m
        → IsBlock s m (TBlock (start s) m.past (lines_of ls) (last_of u))

  -- { "val" name "=" expr ";" | expr ";" } [ expr ]
  pub data Lines : At → At → List Line → Option Tree → Type 0 where
    no_line : {s : At} → Lines s s [] None
    the_last : {s m : At} {t : Tree} → IsExpr false s m t → Lines s m [] (Some t)
    an_expr : {s a b m : At} {t : Tree} {ls : List Line} {u : Option Tree} → IsExpr false s a t → Eats kinds.Semicolon a b → Lines b m ls u
        → Lines s m (line_kinds.Expr t ∷ ls) u
    a_val : {s a b c d e m : At} {n : Name} {t : Tree} {ls : List Line} {u : Option Tree} → Eats kinds.Val s a → IsName a b n → Eats kinds.Assign b c
        → IsExpr false c d t
        → Eats kinds.Semicolon d e → Lines e m ls u → Lines s m (line_kinds.Val (start s) e.past n t ∷ ls) u
