-- The rules of typing, one for each form. `hs` are the headings of all functions, and `sc` are the names in scope with their types.
use Rattle.std.specs.Prelude.{◌≡◌, ℕ, ◌+◌, ◌<◌, true, false, List, [], ◌∷◌, length, Some, None}
use Rattle.pie_value.specs.Types.{TyTree, TyTrees, UnitTy, BoolTy, TextTy, PathTy, ListTy, TupleTy, NullableTy, parts_of}
use Rattle.pie_parser.specs.PlainTypes.{TypeTree}
use Rattle.pie_parser.specs.Plain.{Tree, TLiteral, TName, TNull, TEmpty, TChain, TCompare, TPrefix, TProject, TTuple, TList, TEach, TIf, TCall, TEffect}
use Rattle.pie_parser.specs.Plain.{TWrite, TFail, Trees, Nil, Cons, Steps, NoStep, AStep, BlockTree, TBlock, LineTrees, NoLine, ValLine, ExprLine}
use Rattle.pie_parser.specs.Plain.{NoLast, ALast, NoElse, AnElse}
use Rattle.pie_parser.specs.declared.tree.Index.{Index}
use Rattle.pie_parser.specs.declared.tree.Name.{Name}
use Rattle.pie_parser.specs.declared.tree.Operator.{Operator}
use Rattle.pie_parser.specs.declared.tree.Literal.{Literal}
use Rattle.pie_parser.specs.declared.tree.Comparison.{Comparison}
use Rattle.pie_parser.specs.declared.tree.Prefix.{Prefix}
use Rattle.pie_parser.specs.declared.tree.CallKind.{CallKind}
use Rattle.pie_parser.specs.declared.tree.EffectKind.{EffectKind}
use Rattle.pie_types.specs.inner.WrittenRules.{Denotes}
use Rattle.pie_types.specs.Scope.{Entry, type_in, with_name}
use Rattle.pie_types.specs.Headings.{Heading}
use Rattle.pie_types.specs.Operators.{literal_type, all_plus, is_addable, operands_type, is_equality, is_ordered, prefix_type, numbered, effect_takes}
use Rattle.pie_types.specs.Operators.{effect_gives, is_writable}
use Rattle.pie_types.specs.Calls.{Callee, callee_of, taken, misfit, answer}
use Rattle.pie_types.specs.Checking.{count}

-- the numbers of a projection chain lead from one type to another, through tuples
pub data Leads : TyTree → List Index → TyTree → Type 0 where
  stays : {t : TyTree} → Leads t [] t
  goes : {ts : TyTrees} {t u : TyTree} {n : Index} {ns : List Index} → numbered n.number ts ≡ Some t → Leads t ns u → Leads (TupleTy ts) (n ∷ ns) u

-- a name may come into scope: it isn't there, and makes no 256th
pub data IsFresh : List ℕ → List Entry → Type 0 where
  fresh : {n : List ℕ} {sc : List Entry} → type_in n sc ≡ None → length sc < 255 → IsFresh n sc

-- the first operand of a chain has a type that its operators take: any that can be added in a chain of `+` alone
pub data OperandsHave : Steps → TyTree → Type 0 where
  in_sum : {ss : Steps} {t : TyTree} → all_plus ss ≡ true → is_addable t ≡ true → OperandsHave ss t
  in_other : {ss : Steps} → all_plus ss ≡ false → OperandsHave ss (operands_type ss)

-- what stands before a comparison has a type that it takes
pub data LeftHas : Comparison → TyTree → Type 0 where
  of_any : {c : Comparison} {t : TyTree} → is_equality c ≡ true → LeftHas c t
  by_size : {c : Comparison} {t : TyTree} → is_equality c ≡ false → is_ordered t ≡ true → LeftHas c t

-- arguments of these types, counted on from this number, fit
pub data Fit : Callee → ℕ → List TyTree → Type 0 where
  no_argument : {c : Callee} {n : ℕ} → Fit c n []
  an_argument : {c : Callee} {n : ℕ} {t : TyTree} {ts : List TyTree} → misfit c n t ≡ None → Fit c (n + 1) ts → Fit c n (t ∷ ts)

mutual
  -- an expression has a type
  pub data HasType : List Heading → List Entry → Tree → TyTree → Type 0 where
    literal : {hs : List Heading} {sc : List Entry} {i j : ℕ} {l : Literal} → HasType hs sc (TLiteral i j l) (literal_type l)
    name : {hs : List Heading} {sc : List Entry} {i j : ℕ} {n : List ℕ} {t : TyTree} → type_in n sc ≡ Some t → HasType hs sc (TName i j n) t
    null : {hs : List Heading} {sc : List Entry} {i j : ℕ} {w : TypeTree} {t : TyTree} → Denotes w t → HasType hs sc (TNull i j w) (NullableTy t)
    empty : {hs : List Heading} {sc : List Entry} {i j : ℕ} {w : TypeTree} {t : TyTree} → Denotes w t → HasType hs sc (TEmpty i j w) (ListTy t)
    chain : {hs : List Heading} {sc : List Entry} {i j : ℕ} {a : Tree} {ss : Steps} {t : TyTree}
        → HasType hs sc a t → OperandsHave ss t → StepsHave hs sc ss t → HasType hs sc (TChain i j a ss) t
    compare : {hs : List Heading} {sc : List Entry} {i j : ℕ} {c : Comparison} {a b : Tree} {t : TyTree}
        → HasType hs sc a t → LeftHas c t → HasType hs sc b t → HasType hs sc (TCompare i j c a b) BoolTy
    prefix : {hs : List Heading} {sc : List Entry} {i j : ℕ} {p : Prefix} {a : Tree} → HasType hs sc a (prefix_type p)
        → HasType hs sc (TPrefix i j p a) (prefix_type p)
    project : {hs : List Heading} {sc : List Entry} {i j : ℕ} {a : Tree} {ns : List Index} {t u : TyTree} → HasType hs sc a t → Leads t ns u
        → HasType hs sc (TProject i j a ns) u
    tuple : {hs : List Heading} {sc : List Entry} {i j : ℕ} {es : Trees} {ts : List TyTree} → HaveTypes hs sc es ts
        → HasType hs sc (TTuple i j es) (TupleTy (parts_of ts))
    list : {hs : List Heading} {sc : List Entry} {i j : ℕ} {e : Tree} {es : Trees} {t : TyTree}
        → HasType hs sc e t → AllHave hs sc es t → HasType hs sc (TList i j (Cons e es)) (ListTy t)
    each : {hs : List Heading} {sc : List Entry} {i j : ℕ} {a b : Tree} {n : Name} {t u : TyTree}
        → HasType hs sc b (ListTy t) → IsFresh n.text sc → HasType hs (with_name sc n.text t) a u → HasType hs sc (TEach i j a n b) (ListTy u)
    if_alone : {hs : List Heading} {sc : List Entry} {i j : ℕ} {a : Tree} {b : BlockTree} → HasType hs sc a BoolTy → BlockHas hs sc b UnitTy
        → HasType hs sc (TIf i j a b NoElse) UnitTy
    if_else : {hs : List Heading} {sc : List Entry} {i j : ℕ} {a : Tree} {b o : BlockTree} {t : TyTree}
        → HasType hs sc a BoolTy → BlockHas hs sc b t → BlockHas hs sc o t → HasType hs sc (TIf i j a b (AnElse o)) t
    call : {hs : List Heading} {sc : List Entry} {i j : ℕ} {k : CallKind} {n : Name} {es : Trees} {c : Callee} {ts : List TyTree}
        → callee_of hs k n.text ≡ Some c → count es ≡ taken c → HaveTypes hs sc es ts → Fit c 0 ts → HasType hs sc (TCall i j k n es) (answer k c ts)
    effect : {hs : List Heading} {sc : List Entry} {i j : ℕ} {k : EffectKind} {a : Tree} → HasType hs sc a (effect_takes k)
        → HasType hs sc (TEffect i j k a) (effect_gives k)
    write : {hs : List Heading} {sc : List Entry} {i j : ℕ} {a b : Tree} {t : TyTree}
        → HasType hs sc a PathTy → HasType hs sc b t → is_writable t ≡ true → HasType hs sc (TWrite i j a b) UnitTy
    fail : {hs : List Heading} {sc : List Entry} {i j : ℕ} {w : TypeTree} {a : Tree} {t : TyTree} → Denotes w t → HasType hs sc a TextTy
        → HasType hs sc (TFail i j w a) t

  -- each operand behind the first one has this type
  pub data StepsHave : List Heading → List Entry → Steps → TyTree → Type 0 where
    no_step : {hs : List Heading} {sc : List Entry} {t : TyTree} → StepsHave hs sc NoStep t
    a_step : {hs : List Heading} {sc : List Entry} {o : Operator} {e : Tree} {ss : Steps} {t : TyTree}
        → HasType hs sc e t → StepsHave hs sc ss t → StepsHave hs sc (AStep o e ss) t

  -- all expressions have this type
  pub data AllHave : List Heading → List Entry → Trees → TyTree → Type 0 where
    no_item : {hs : List Heading} {sc : List Entry} {t : TyTree} → AllHave hs sc Nil t
    an_item : {hs : List Heading} {sc : List Entry} {e : Tree} {es : Trees} {t : TyTree} → HasType hs sc e t → AllHave hs sc es t → AllHave hs sc (Cons e es) t

  -- expressions have these types, one each
  pub data HaveTypes : List Heading → List Entry → Trees → List TyTree → Type 0 where
    no_part : {hs : List Heading} {sc : List Entry} → HaveTypes hs sc Nil []
    a_part : {hs : List Heading} {sc : List Entry} {e : Tree} {es : Trees} {t : TyTree} {ts : List TyTree}
        → HasType hs sc e t → HaveTypes hs sc es ts → HaveTypes hs sc (Cons e es) (t ∷ ts)

  -- a block has the type of its last expression, and is of no value without one
  pub data BlockHas : List Heading → List Entry → BlockTree → TyTree → Type 0 where
    no_last : {hs : List Heading} {sc inner : List Entry} {i j : ℕ} {ls : LineTrees} → LinesBring hs sc ls inner → BlockHas hs sc (TBlock i j ls NoLast) UnitTy
    a_last : {hs : List Heading} {sc inner : List Entry} {i j : ℕ} {ls : LineTrees} {e : Tree} {t : TyTree}
        → LinesBring hs sc ls inner → HasType hs inner e t → BlockHas hs sc (TBlock i j ls (ALast e)) t

  -- lines bring their names into scope
  pub data LinesBring : List Heading → List Entry → LineTrees → List Entry → Type 0 where
    no_line : {hs : List Heading} {sc : List Entry} → LinesBring hs sc NoLine sc
    a_val : {hs : List Heading} {sc inner : List Entry} {i j : ℕ} {n : Name} {e : Tree} {ls : LineTrees} {t : TyTree}
        → HasType hs sc e t → IsFresh n.text sc → LinesBring hs (with_name sc n.text t) ls inner → LinesBring hs sc (ValLine i j n e ls) inner
    an_expr : {hs : List Heading} {sc inner : List Entry} {e : Tree} {ls : LineTrees} {t : TyTree}
        → HasType hs sc e t → LinesBring hs sc ls inner → LinesBring hs sc (ExprLine e ls) inner
