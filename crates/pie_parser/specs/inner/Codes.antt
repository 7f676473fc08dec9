-- How the logic stores expressions: a map into its own trees that is one to one.
use Rattle.std.specs.Prelude.{◌≡◌, ℕ, cond, ◌==◌, List, refl, ℤ, Bool}
use Rattle.std.proofs.Common.{sym, ◌∙◌, ap, arith}
use base.Stored.{Gv, gnil, gnum, gcons, num, Coded, coded_ℕ, coded_list, coded_bool, coded_ℤ, coded×, coded_via}
use Rattle.pie_parser.specs.PlainTypes.{TypeTree}
use Rattle.pie_parser.specs.inner.TypeCodes.{coded_type}
use Rattle.pie_parser.specs.Plain.{Tree, TLiteral, TName, TNull, TEmpty, TChain, TCompare, TPrefix, TProject, TTuple, TList, TEach, TIf, TCall, TEffect, TWrite}
use Rattle.pie_parser.specs.Plain.{TFail, Trees, Nil, Cons, Steps, NoStep, AStep, BlockTree, TBlock, LineTrees, NoLine, ValLine, ExprLine, LastTree, NoLast}
use Rattle.pie_parser.specs.Plain.{ALast, ElseTree, NoElse, AnElse}
use Rattle.pie_parser.specs.declared.tree.Name.{Name}
use Rattle.pie_parser.specs.declared.tree.Index.{Index}
use Rattle.pie_parser.specs.declared.tree.Literal.{Literal}
use Rattle.pie_parser.specs.declared.tree.Literal.TheVariants as literals
use Rattle.pie_parser.specs.declared.tree.Operator.{Operator}
use Rattle.pie_parser.specs.declared.tree.Operator.TheVariants as operators
use Rattle.pie_parser.specs.declared.tree.Comparison.{Comparison}
use Rattle.pie_parser.specs.declared.tree.Comparison.TheVariants as comparisons
use Rattle.pie_parser.specs.declared.tree.Prefix.{Prefix}
use Rattle.pie_parser.specs.declared.tree.Prefix.TheVariants as prefixes
use Rattle.pie_parser.specs.declared.tree.CallKind.{CallKind}
use Rattle.pie_parser.specs.declared.tree.CallKind.TheVariants as calls
use Rattle.pie_parser.specs.declared.tree.EffectKind.{EffectKind}
use Rattle.pie_parser.specs.declared.tree.EffectKind.TheVariants as effects

-- the parts of a code
abbrev head : Gv → Gv
head (gcons a b) = a
head g = gnil

abbrev tail : Gv → Gv
tail (gcons a b) = b
tail g = gnil

same_number : (x y : ℕ) → gnum x ≡ gnum y → x ≡ y
same_number x y p = ap num p

-- two codes with different numbers in front are different
apart : {A : Type 0} (m n : ℕ) {g h : Gv} → gcons (gnum m) g ≡ gcons (gnum n) h → (m ≡ n → ⊥) → A
apart m n p differ = absurd (differ (ap (λ g. num (head g)) p))

abbrev coded_text : Coded (List ℕ)
coded_text = coded_list coded_ℕ

-- Operator as a number
abbrev pub operator_number : Operator → ℕ
operator_number operators.Or = 0
operator_number operators.And = 1
operator_number operators.Plus = 2
operator_number operators.Minus = 3
operator_number operators.Times = 4
operator_number operators.Divide = 5
operator_number operators.Remainder = 6

-- the one of that number
abbrev pub operator_of : ℕ → Operator
operator_of n = cond (n == 0) operators.Or (cond (n == 1) operators.And
    (cond (n == 2) operators.Plus (cond (n == 3) operators.Minus (cond (n == 4) operators.Times (cond (n == 5) operators.Divide (operators.Remainder))))))

pub operator_back : (k : Operator) → operator_of (operator_number k) ≡ k
operator_back operators.Or = refl
operator_back operators.And = refl
operator_back operators.Plus = refl
operator_back operators.Minus = refl
operator_back operators.Times = refl
operator_back operators.Divide = refl
operator_back operators.Remainder = refl

abbrev pub coded_operator : Coded Operator
coded_operator = record { code = λ k. gnum (operator_number k); inj = λ x y p. sym (operator_back x) ∙ ap (λ g. operator_of (num g)) p ∙ operator_back y }

-- Comparison as a number
abbrev pub comparison_number : Comparison → ℕ
comparison_number comparisons.Equal = 0
comparison_number comparisons.NotEqual = 1
comparison_number comparisons.Less = 2
comparison_number comparisons.LessEqual = 3
comparison_number comparisons.Greater = 4
comparison_number comparisons.GreaterEqual = 5

-- the one of that number
abbrev pub comparison_of : ℕ → Comparison
comparison_of n = cond (n == 0) comparisons.Equal (cond (n == 1) comparisons.NotEqual
    (cond (n == 2) comparisons.Less (cond (n == 3) comparisons.LessEqual (cond (n == 4) comparisons.Greater (comparisons.GreaterEqual)))))

pub comparison_back : (k : Comparison) → comparison_of (comparison_number k) ≡ k
comparison_back comparisons.Equal = refl
comparison_back comparisons.NotEqual = refl
comparison_back comparisons.Less = refl
comparison_back comparisons.LessEqual = refl
comparison_back comparisons.Greater = refl
comparison_back comparisons.GreaterEqual = refl

abbrev pub coded_comparison : Coded Comparison
coded_comparison = record {
  code = λ k. gnum (comparison_number k);
  inj = λ x y p. sym (comparison_back x) ∙ ap (λ g. comparison_of (num g)) p
      ∙ comparison_back y;
}

-- Prefix as a number
abbrev pub prefix_number : Prefix → ℕ
prefix_number prefixes.Not = 0
prefix_number prefixes.Minus = 1

-- the one of that number
abbrev pub prefix_of : ℕ → Prefix
prefix_of n = cond (n == 0) prefixes.Not (prefixes.Minus)

pub prefix_back : (k : Prefix) → prefix_of (prefix_number k) ≡ k
prefix_back prefixes.Not = refl
prefix_back prefixes.Minus = refl

abbrev pub coded_prefix : Coded Prefix
coded_prefix = record { code = λ k. gnum (prefix_number k); inj = λ x y p. sym (prefix_back x) ∙ ap (λ g. prefix_of (num g)) p ∙ prefix_back y }

-- CallKind as a number
abbrev pub call_number : CallKind → ℕ
call_number calls.Plain = 0
call_number calls.Require = 1
call_number calls.RequireByHash = 2
call_number calls.Run = 3

-- the one of that number
abbrev pub call_of : ℕ → CallKind
call_of n = cond (n == 0) calls.Plain (cond (n == 1) calls.Require (cond (n == 2) calls.RequireByHash (calls.Run)))

pub call_back : (k : CallKind) → call_of (call_number k) ≡ k
call_back calls.Plain = refl
call_back calls.Require = refl
call_back calls.RequireByHash = refl
call_back calls.Run = refl

abbrev pub coded_call : Coded CallKind
coded_call = record { code = λ k. gnum (call_number k); inj = λ x y p. sym (call_back x) ∙ ap (λ g. call_of (num g)) p ∙ call_back y }

-- EffectKind as a number
abbrev pub effect_number : EffectKind → ℕ
effect_number effects.Path = 0
effect_number effects.Exists = 1
effect_number effects.Digest = 2
effect_number effects.List = 3
effect_number effects.Read = 4
effect_number effects.ReadByHash = 5
effect_number effects.ReadByMark = 6

-- the one of that number
abbrev pub effect_of : ℕ → EffectKind
effect_of n = cond (n == 0) effects.Path (cond (n == 1) effects.Exists
    (cond (n == 2) effects.Digest (cond (n == 3) effects.List (cond (n == 4) effects.Read (cond (n == 5) effects.ReadByHash (effects.ReadByMark))))))

pub effect_back : (k : EffectKind) → effect_of (effect_number k) ≡ k
effect_back effects.Path = refl
effect_back effects.Exists = refl
effect_back effects.Digest = refl
effect_back effects.List = refl
effect_back effects.Read = refl
effect_back effects.ReadByHash = refl
effect_back effects.ReadByMark = refl

abbrev pub coded_effect : Coded EffectKind
coded_effect = record { code = λ k. gnum (effect_number k); inj = λ x y p. sym (effect_back x) ∙ ap (λ g. effect_of (num g)) p ∙ effect_back y }

abbrev mutual
  pub code_literal : Literal → Gv
  code_literal (literals.Int x0) = gcons (gnum 0) (gcons (coded_ℤ.code x0) gnil)
  code_literal (literals.Text x0) = gcons (gnum 1) (gcons (coded_text.code x0) gnil)
  code_literal (literals.Bool x0) = gcons (gnum 2) (gcons (coded_bool.code x0) gnil)
  code_literal literals.Unit = gcons (gnum 3) (gnil)

mutual
  pub inj_literal : (x y : Literal) → code_literal x ≡ code_literal y → x ≡ y
  inj_literal (literals.Int x0) (literals.Int y0) p = λ i. literals.Int (coded_ℤ.inj x0 y0 (ap (λ g. head (tail (g))) p) i)
  inj_literal (literals.Int x0) (literals.Text y0) p = apart 0 1 p (λ e. omega arith)
  inj_literal (literals.Int x0) (literals.Bool y0) p = apart 0 2 p (λ e. omega arith)
  inj_literal (literals.Int x0) literals.Unit p = apart 0 3 p (λ e. omega arith)
  inj_literal (literals.Text x0) (literals.Int y0) p = apart 1 0 p (λ e. omega arith)
  inj_literal (literals.Text x0) (literals.Text y0) p = λ i. literals.Text (coded_text.inj x0 y0 (ap (λ g. head (tail (g))) p) i)
  inj_literal (literals.Text x0) (literals.Bool y0) p = apart 1 2 p (λ e. omega arith)
  inj_literal (literals.Text x0) literals.Unit p = apart 1 3 p (λ e. omega arith)
  inj_literal (literals.Bool x0) (literals.Int y0) p = apart 2 0 p (λ e. omega arith)
  inj_literal (literals.Bool x0) (literals.Text y0) p = apart 2 1 p (λ e. omega arith)
  inj_literal (literals.Bool x0) (literals.Bool y0) p = λ i. literals.Bool (coded_bool.inj x0 y0 (ap (λ g. head (tail (g))) p) i)
  inj_literal (literals.Bool x0) literals.Unit p = apart 2 3 p (λ e. omega arith)
  inj_literal literals.Unit (literals.Int y0) p = apart 3 0 p (λ e. omega arith)
  inj_literal literals.Unit (literals.Text y0) p = apart 3 1 p (λ e. omega arith)
  inj_literal literals.Unit (literals.Bool y0) p = apart 3 2 p (λ e. omega arith)
  inj_literal literals.Unit literals.Unit p = refl

abbrev pub coded_literal : Coded Literal
coded_literal = record { code = code_literal; inj = inj_literal }

-- a name as its parts
abbrev pub name_parts : Name → ℕ × (ℕ × List ℕ)
name_parts n = (n.at, (n.end, n.text))

abbrev pub coded_name : Coded Name
coded_name = coded_via (coded× coded_ℕ (coded× coded_ℕ coded_text)) name_parts (λ x y p i. record { at = (p i).0; end = (p i).1.0; text = (p i).1.1 })

-- an index as its parts
abbrev pub index_parts : Index → ℕ × (ℕ × ℤ)
index_parts n = (n.at, (n.end, n.number))

abbrev pub coded_index : Coded Index
coded_index = coded_via (coded× coded_ℕ (coded× coded_ℕ coded_ℤ)) index_parts (λ x y p i. record { at = (p i).0; end = (p i).1.0; number = (p i).1.1 })

abbrev pub coded_indices : Coded (List Index)
coded_indices = coded_list coded_index

abbrev mutual
  pub code_tree : Tree → Gv
  code_tree (TLiteral x0 x1 x2) = gcons (gnum 0) (gcons (gnum x0) (gcons (gnum x1) (gcons (coded_literal.code x2) gnil)))
  code_tree (TName x0 x1 x2) = gcons (gnum 1) (gcons (gnum x0) (gcons (gnum x1) (gcons (coded_text.code x2) gnil)))
  code_tree (TNull x0 x1 x2) = gcons (gnum 2) (gcons (gnum x0) (gcons (gnum x1) (gcons (coded_type.code x2) gnil)))
  code_tree (TEmpty x0 x1 x2) = gcons (gnum 3) (gcons (gnum x0) (gcons (gnum x1) (gcons (coded_type.code x2) gnil)))
  code_tree (TChain x0 x1 x2 x3) = gcons (gnum 4) (gcons (gnum x0) (gcons (gnum x1) (gcons (code_tree x2) (gcons (code_steps x3) gnil))))
  code_tree (TCompare x0 x1 x2 x3 x4) = gcons (gnum 5) (gcons (gnum x0)
      (gcons (gnum x1) (gcons (coded_comparison.code x2) (gcons (code_tree x3) (gcons (code_tree x4) gnil)))))
  code_tree (TPrefix x0 x1 x2 x3) = gcons (gnum 6) (gcons (gnum x0) (gcons (gnum x1) (gcons (coded_prefix.code x2) (gcons (code_tree x3) gnil))))
  code_tree (TProject x0 x1 x2 x3) = gcons (gnum 7) (gcons (gnum x0) (gcons (gnum x1) (gcons (code_tree x2) (gcons (coded_indices.code x3) gnil))))
  code_tree (TTuple x0 x1 x2) = gcons (gnum 8) (gcons (gnum x0) (gcons (gnum x1) (gcons (code_trees x2) gnil)))
  code_tree (TList x0 x1 x2) = gcons (gnum 9) (gcons (gnum x0) (gcons (gnum x1) (gcons (code_trees x2) gnil)))
  code_tree (TEach x0 x1 x2 x3 x4) = gcons (gnum 10) (gcons (gnum x0)
      (gcons (gnum x1) (gcons (code_tree x2) (gcons (coded_name.code x3) (gcons (code_tree x4) gnil)))))
  code_tree (TIf x0 x1 x2 x3 x4) = gcons (gnum 11) (gcons (gnum x0)
      (gcons (gnum x1) (gcons (code_tree x2) (gcons (code_block x3) (gcons (code_otherwise x4) gnil)))))
  code_tree (TCall x0 x1 x2 x3 x4) = gcons (gnum 12) (gcons (gnum x0)
      (gcons (gnum x1) (gcons (coded_call.code x2) (gcons (coded_name.code x3) (gcons (code_trees x4) gnil)))))
  code_tree (TEffect x0 x1 x2 x3) = gcons (gnum 13) (gcons (gnum x0) (gcons (gnum x1) (gcons (coded_effect.code x2) (gcons (code_tree x3) gnil))))
  code_tree (TWrite x0 x1 x2 x3) = gcons (gnum 14) (gcons (gnum x0) (gcons (gnum x1) (gcons (code_tree x2) (gcons (code_tree x3) gnil))))
  code_tree (TFail x0 x1 x2 x3) = gcons (gnum 15) (gcons (gnum x0) (gcons (gnum x1) (gcons (coded_type.code x2) (gcons (code_tree x3) gnil))))

  pub code_trees : Trees → Gv
  code_trees Nil = gcons (gnum 0) (gnil)
  code_trees (Cons x0 x1) = gcons (gnum 1) (gcons (code_tree x0) (gcons (code_trees x1) gnil))

  pub code_steps : Steps → Gv
  code_steps NoStep = gcons (gnum 0) (gnil)
  code_steps (AStep x0 x1 x2) = gcons (gnum 1) (gcons (coded_operator.code x0) (gcons (code_tree x1) (gcons (code_steps x2) gnil)))

  pub code_block : BlockTree → Gv
  code_block (TBlock x0 x1 x2 x3) = gcons (gnum 0) (gcons (gnum x0) (gcons (gnum x1) (gcons (code_lines x2) (gcons (code_last x3) gnil))))

  pub code_lines : LineTrees → Gv
  code_lines NoLine = gcons (gnum 0) (gnil)
  code_lines (ValLine x0 x1 x2 x3 x4) = gcons (gnum 1) (gcons (gnum x0)
      (gcons (gnum x1) (gcons (coded_name.code x2) (gcons (code_tree x3) (gcons (code_lines x4) gnil)))))
  code_lines (ExprLine x0 x1) = gcons (gnum 2) (gcons (code_tree x0) (gcons (code_lines x1) gnil))

  pub code_last : LastTree → Gv
  code_last NoLast = gcons (gnum 0) (gnil)
  code_last (ALast x0) = gcons (gnum 1) (gcons (code_tree x0) gnil)

  pub code_otherwise : ElseTree → Gv
  code_otherwise NoElse = gcons (gnum 0) (gnil)
  code_otherwise (AnElse x0) = gcons (gnum 1) (gcons (code_block x0) gnil)

mutual
  pub inj_tree : (x y : Tree) → code_tree x ≡ code_tree y → x ≡ y
  inj_tree (TLiteral x0 x1 x2) (TLiteral y0 y1 y2) p = λ i. TLiteral (same_number x0 y0 (ap (λ g. head (tail (g))) p) i)
      (same_number x1 y1 (ap (λ g. head (tail (tail (g)))) p) i) (coded_literal.inj x2 y2 (ap (λ g. head (tail (tail (tail (g))))) p) i)
  inj_tree (TLiteral x0 x1 x2) (TName y0 y1 y2) p = apart 0 1 p (λ e. omega arith)
  inj_tree (TLiteral x0 x1 x2) (TNull y0 y1 y2) p = apart 0 2 p (λ e. omega arith)
  inj_tree (TLiteral x0 x1 x2) (TEmpty y0 y1 y2) p = apart 0 3 p (λ e. omega arith)
  inj_tree (TLiteral x0 x1 x2) (TChain y0 y1 y2 y3) p = apart 0 4 p (λ e. omega arith)
  inj_tree (TLiteral x0 x1 x2) (TCompare y0 y1 y2 y3 y4) p = apart 0 5 p (λ e. omega arith)
  inj_tree (TLiteral x0 x1 x2) (TPrefix y0 y1 y2 y3) p = apart 0 6 p (λ e. omega arith)
  inj_tree (TLiteral x0 x1 x2) (TProject y0 y1 y2 y3) p = apart 0 7 p (λ e. omega arith)
  inj_tree (TLiteral x0 x1 x2) (TTuple y0 y1 y2) p = apart 0 8 p (λ e. omega arith)
  inj_tree (TLiteral x0 x1 x2) (TList y0 y1 y2) p = apart 0 9 p (λ e. omega arith)
  inj_tree (TLiteral x0 x1 x2) (TEach y0 y1 y2 y3 y4) p = apart 0 10 p (λ e. omega arith)
  inj_tree (TLiteral x0 x1 x2) (TIf y0 y1 y2 y3 y4) p = apart 0 11 p (λ e. omega arith)
  inj_tree (TLiteral x0 x1 x2) (TCall y0 y1 y2 y3 y4) p = apart 0 12 p (λ e. omega arith)
  inj_tree (TLiteral x0 x1 x2) (TEffect y0 y1 y2 y3) p = apart 0 13 p (λ e. omega arith)
  inj_tree (TLiteral x0 x1 x2) (TWrite y0 y1 y2 y3) p = apart 0 14 p (λ e. omega arith)
  inj_tree (TLiteral x0 x1 x2) (TFail y0 y1 y2 y3) p = apart 0 15 p (λ e. omega arith)
  inj_tree (TName x0 x1 x2) (TLiteral y0 y1 y2) p = apart 1 0 p (λ e. omega arith)
  inj_tree (TName x0 x1 x2) (TName y0 y1 y2) p = λ i. TName (same_number x0 y0 (ap (λ g. head (tail (g))) p) i)
      (same_number x1 y1 (ap (λ g. head (tail (tail (g)))) p) i) (coded_text.inj x2 y2 (ap (λ g. head (tail (tail (tail (g))))) p) i)
  inj_tree (TName x0 x1 x2) (TNull y0 y1 y2) p = apart 1 2 p (λ e. omega arith)
  inj_tree (TName x0 x1 x2) (TEmpty y0 y1 y2) p = apart 1 3 p (λ e. omega arith)
  inj_tree (TName x0 x1 x2) (TChain y0 y1 y2 y3) p = apart 1 4 p (λ e. omega arith)
  inj_tree (TName x0 x1 x2) (TCompare y0 y1 y2 y3 y4) p = apart 1 5 p (λ e. omega arith)
  inj_tree (TName x0 x1 x2) (TPrefix y0 y1 y2 y3) p = apart 1 6 p (λ e. omega arith)
  inj_tree (TName x0 x1 x2) (TProject y0 y1 y2 y3) p = apart 1 7 p (λ e. omega arith)
  inj_tree (TName x0 x1 x2) (TTuple y0 y1 y2) p = apart 1 8 p (λ e. omega arith)
  inj_tree (TName x0 x1 x2) (TList y0 y1 y2) p = apart 1 9 p (λ e. omega arith)
  inj_tree (TName x0 x1 x2) (TEach y0 y1 y2 y3 y4) p = apart 1 10 p (λ e. omega arith)
  inj_tree (TName x0 x1 x2) (TIf y0 y1 y2 y3 y4) p = apart 1 11 p (λ e. omega arith)
  inj_tree (TName x0 x1 x2) (TCall y0 y1 y2 y3 y4) p = apart 1 12 p (λ e. omega arith)
  inj_tree (TName x0 x1 x2) (TEffect y0 y1 y2 y3) p = apart 1 13 p (λ e. omega arith)
  inj_tree (TName x0 x1 x2) (TWrite y0 y1 y2 y3) p = apart 1 14 p (λ e. omega arith)
  inj_tree (TName x0 x1 x2) (TFail y0 y1 y2 y3) p = apart 1 15 p (λ e. omega arith)
  inj_tree (TNull x0 x1 x2) (TLiteral y0 y1 y2) p = apart 2 0 p (λ e. omega arith)
  inj_tree (TNull x0 x1 x2) (TName y0 y1 y2) p = apart 2 1 p (λ e. omega arith)
  inj_tree (TNull x0 x1 x2) (TNull y0 y1 y2) p = λ i. TNull (same_number x0 y0 (ap (λ g. head (tail (g))) p) i)
      (same_number x1 y1 (ap (λ g. head (tail (tail (g)))) p) i) (coded_type.inj x2 y2 (ap (λ g. head (tail (tail (tail (g))))) p) i)
  inj_tree (TNull x0 x1 x2) (TEmpty y0 y1 y2) p = apart 2 3 p (λ e. omega arith)
  inj_tree (TNull x0 x1 x2) (TChain y0 y1 y2 y3) p = apart 2 4 p (λ e. omega arith)
  inj_tree (TNull x0 x1 x2) (TCompare y0 y1 y2 y3 y4) p = apart 2 5 p (λ e. omega arith)
  inj_tree (TNull x0 x1 x2) (TPrefix y0 y1 y2 y3) p = apart 2 6 p (λ e. omega arith)
  inj_tree (TNull x0 x1 x2) (TProject y0 y1 y2 y3) p = apart 2 7 p (λ e. omega arith)
  inj_tree (TNull x0 x1 x2) (TTuple y0 y1 y2) p = apart 2 8 p (λ e. omega arith)
  inj_tree (TNull x0 x1 x2) (TList y0 y1 y2) p = apart 2 9 p (λ e. omega arith)
  inj_tree (TNull x0 x1 x2) (TEach y0 y1 y2 y3 y4) p = apart 2 10 p (λ e. omega arith)
  inj_tree (TNull x0 x1 x2) (TIf y0 y1 y2 y3 y4) p = apart 2 11 p (λ e. omega arith)
  inj_tree (TNull x0 x1 x2) (TCall y0 y1 y2 y3 y4) p = apart 2 12 p (λ e. omega arith)
  inj_tree (TNull x0 x1 x2) (TEffect y0 y1 y2 y3) p = apart 2 13 p (λ e. omega arith)
  inj_tree (TNull x0 x1 x2) (TWrite y0 y1 y2 y3) p = apart 2 14 p (λ e. omega arith)
  inj_tree (TNull x0 x1 x2) (TFail y0 y1 y2 y3) p = apart 2 15 p (λ e. omega arith)
  inj_tree (TEmpty x0 x1 x2) (TLiteral y0 y1 y2) p = apart 3 0 p (λ e. omega arith)
  inj_tree (TEmpty x0 x1 x2) (TName y0 y1 y2) p = apart 3 1 p (λ e. omega arith)
  inj_tree (TEmpty x0 x1 x2) (TNull y0 y1 y2) p = apart 3 2 p (λ e. omega arith)
  inj_tree (TEmpty x0 x1 x2) (TEmpty y0 y1 y2) p = λ i. TEmpty (same_number x0 y0 (ap (λ g. head (tail (g))) p) i)
      (same_number x1 y1 (ap (λ g. head (tail (tail (g)))) p) i) (coded_type.inj x2 y2 (ap (λ g. head (tail (tail (tail (g))))) p) i)
  inj_tree (TEmpty x0 x1 x2) (TChain y0 y1 y2 y3) p = apart 3 4 p (λ e. omega arith)
  inj_tree (TEmpty x0 x1 x2) (TCompare y0 y1 y2 y3 y4) p = apart 3 5 p (λ e. omega arith)
  inj_tree (TEmpty x0 x1 x2) (TPrefix y0 y1 y2 y3) p = apart 3 6 p (λ e. omega arith)
  inj_tree (TEmpty x0 x1 x2) (TProject y0 y1 y2 y3) p = apart 3 7 p (λ e. omega arith)
  inj_tree (TEmpty x0 x1 x2) (TTuple y0 y1 y2) p = apart 3 8 p (λ e. omega arith)
  inj_tree (TEmpty x0 x1 x2) (TList y0 y1 y2) p = apart 3 9 p (λ e. omega arith)
  inj_tree (TEmpty x0 x1 x2) (TEach y0 y1 y2 y3 y4) p = apart 3 10 p (λ e. omega arith)
  inj_tree (TEmpty x0 x1 x2) (TIf y0 y1 y2 y3 y4) p = apart 3 11 p (λ e. omega arith)
  inj_tree (TEmpty x0 x1 x2) (TCall y0 y1 y2 y3 y4) p = apart 3 12 p (λ e. omega arith)
  inj_tree (TEmpty x0 x1 x2) (TEffect y0 y1 y2 y3) p = apart 3 13 p (λ e. omega arith)
  inj_tree (TEmpty x0 x1 x2) (TWrite y0 y1 y2 y3) p = apart 3 14 p (λ e. omega arith)
  inj_tree (TEmpty x0 x1 x2) (TFail y0 y1 y2 y3) p = apart 3 15 p (λ e. omega arith)
  inj_tree (TChain x0 x1 x2 x3) (TLiteral y0 y1 y2) p = apart 4 0 p (λ e. omega arith)
  inj_tree (TChain x0 x1 x2 x3) (TName y0 y1 y2) p = apart 4 1 p (λ e. omega arith)
  inj_tree (TChain x0 x1 x2 x3) (TNull y0 y1 y2) p = apart 4 2 p (λ e. omega arith)
  inj_tree (TChain x0 x1 x2 x3) (TEmpty y0 y1 y2) p = apart 4 3 p (λ e. omega arith)
  inj_tree (TChain x0 x1 x2 x3) (TChain y0 y1 y2 y3) p = λ i.
      TChain (same_number x0 y0 (ap (λ g. head (tail (g))) p) i) (same_number x1 y1 (ap (λ g. head (tail (tail (g)))) p) i)
      (inj_tree x2 y2 (ap (λ g. head (tail (tail (tail (g))))) p) i) (inj_steps x3 y3 (ap (λ g. head (tail (tail (tail (tail (g)))))) p) i)
  inj_tree (TChain x0 x1 x2 x3) (TCompare y0 y1 y2 y3 y4) p = apart 4 5 p (λ e. omega arith)
  inj_tree (TChain x0 x1 x2 x3) (TPrefix y0 y1 y2 y3) p = apart 4 6 p (λ e. omega arith)
  inj_tree (TChain x0 x1 x2 x3) (TProject y0 y1 y2 y3) p = apart 4 7 p (λ e. omega arith)
  inj_tree (TChain x0 x1 x2 x3) (TTuple y0 y1 y2) p = apart 4 8 p (λ e. omega arith)
  inj_tree (TChain x0 x1 x2 x3) (TList y0 y1 y2) p = apart 4 9 p (λ e. omega arith)
  inj_tree (TChain x0 x1 x2 x3) (TEach y0 y1 y2 y3 y4) p = apart 4 10 p (λ e. omega arith)
  inj_tree (TChain x0 x1 x2 x3) (TIf y0 y1 y2 y3 y4) p = apart 4 11 p (λ e. omega arith)
  inj_tree (TChain x0 x1 x2 x3) (TCall y0 y1 y2 y3 y4) p = apart 4 12 p (λ e. omega arith)
  inj_tree (TChain x0 x1 x2 x3) (TEffect y0 y1 y2 y3) p = apart 4 13 p (λ e. omega arith)
  inj_tree (TChain x0 x1 x2 x3) (TWrite y0 y1 y2 y3) p = apart 4 14 p (λ e. omega arith)
  inj_tree (TChain x0 x1 x2 x3) (TFail y0 y1 y2 y3) p = apart 4 15 p (λ e. omega arith)
  inj_tree (TCompare x0 x1 x2 x3 x4) (TLiteral y0 y1 y2) p = apart 5 0 p (λ e. omega arith)
  inj_tree (TCompare x0 x1 x2 x3 x4) (TName y0 y1 y2) p = apart 5 1 p (λ e. omega arith)
  inj_tree (TCompare x0 x1 x2 x3 x4) (TNull y0 y1 y2) p = apart 5 2 p (λ e. omega arith)
  inj_tree (TCompare x0 x1 x2 x3 x4) (TEmpty y0 y1 y2) p = apart 5 3 p (λ e. omega arith)
  inj_tree (TCompare x0 x1 x2 x3 x4) (TChain y0 y1 y2 y3) p = apart 5 4 p (λ e. omega arith)
  inj_tree (TCompare x0 x1 x2 x3 x4) (TCompare y0 y1 y2 y3 y4) p = λ i.
      TCompare (same_number x0 y0 (ap (λ g. head (tail (g))) p) i) (same_number x1 y1 (ap (λ g. head (tail (tail (g)))) p) i)
      (coded_comparison.inj x2 y2 (ap (λ g. head (tail (tail (tail (g))))) p) i) (inj_tree x3 y3 (ap (λ g. head (tail (tail (tail (tail (g)))))) p) i)
      (inj_tree x4 y4 (ap (λ g. head (tail (tail (tail (tail (tail (g))))))) p) i)
  inj_tree (TCompare x0 x1 x2 x3 x4) (TPrefix y0 y1 y2 y3) p = apart 5 6 p (λ e. omega arith)
  inj_tree (TCompare x0 x1 x2 x3 x4) (TProject y0 y1 y2 y3) p = apart 5 7 p (λ e. omega arith)
  inj_tree (TCompare x0 x1 x2 x3 x4) (TTuple y0 y1 y2) p = apart 5 8 p (λ e. omega arith)
  inj_tree (TCompare x0 x1 x2 x3 x4) (TList y0 y1 y2) p = apart 5 9 p (λ e. omega arith)
  inj_tree (TCompare x0 x1 x2 x3 x4) (TEach y0 y1 y2 y3 y4) p = apart 5 10 p (λ e. omega arith)
  inj_tree (TCompare x0 x1 x2 x3 x4) (TIf y0 y1 y2 y3 y4) p = apart 5 11 p (λ e. omega arith)
  inj_tree (TCompare x0 x1 x2 x3 x4) (TCall y0 y1 y2 y3 y4) p = apart 5 12 p (λ e. omega arith)
  inj_tree (TCompare x0 x1 x2 x3 x4) (TEffect y0 y1 y2 y3) p = apart 5 13 p (λ e. omega arith)
  inj_tree (TCompare x0 x1 x2 x3 x4) (TWrite y0 y1 y2 y3) p = apart 5 14 p (λ e. omega arith)
  inj_tree (TCompare x0 x1 x2 x3 x4) (TFail y0 y1 y2 y3) p = apart 5 15 p (λ e. omega arith)
  inj_tree (TPrefix x0 x1 x2 x3) (TLiteral y0 y1 y2) p = apart 6 0 p (λ e. omega arith)
  inj_tree (TPrefix x0 x1 x2 x3) (TName y0 y1 y2) p = apart 6 1 p (λ e. omega arith)
  inj_tree (TPrefix x0 x1 x2 x3) (TNull y0 y1 y2) p = apart 6 2 p (λ e. omega arith)
  inj_tree (TPrefix x0 x1 x2 x3) (TEmpty y0 y1 y2) p = apart 6 3 p (λ e. omega arith)
  inj_tree (TPrefix x0 x1 x2 x3) (TChain y0 y1 y2 y3) p = apart 6 4 p (λ e. omega arith)
  inj_tree (TPrefix x0 x1 x2 x3) (TCompare y0 y1 y2 y3 y4) p = apart 6 5 p (λ e. omega arith)
  inj_tree (TPrefix x0 x1 x2 x3) (TPrefix y0 y1 y2 y3) p = λ i.
      TPrefix (same_number x0 y0 (ap (λ g. head (tail (g))) p) i) (same_number x1 y1 (ap (λ g. head (tail (tail (g)))) p) i)
      (coded_prefix.inj x2 y2 (ap (λ g. head (tail (tail (tail (g))))) p) i) (inj_tree x3 y3 (ap (λ g. head (tail (tail (tail (tail (g)))))) p) i)
  inj_tree (TPrefix x0 x1 x2 x3) (TProject y0 y1 y2 y3) p = apart 6 7 p (λ e. omega arith)
  inj_tree (TPrefix x0 x1 x2 x3) (TTuple y0 y1 y2) p = apart 6 8 p (λ e. omega arith)
  inj_tree (TPrefix x0 x1 x2 x3) (TList y0 y1 y2) p = apart 6 9 p (λ e. omega arith)
  inj_tree (TPrefix x0 x1 x2 x3) (TEach y0 y1 y2 y3 y4) p = apart 6 10 p (λ e. omega arith)
  inj_tree (TPrefix x0 x1 x2 x3) (TIf y0 y1 y2 y3 y4) p = apart 6 11 p (λ e. omega arith)
  inj_tree (TPrefix x0 x1 x2 x3) (TCall y0 y1 y2 y3 y4) p = apart 6 12 p (λ e. omega arith)
  inj_tree (TPrefix x0 x1 x2 x3) (TEffect y0 y1 y2 y3) p = apart 6 13 p (λ e. omega arith)
  inj_tree (TPrefix x0 x1 x2 x3) (TWrite y0 y1 y2 y3) p = apart 6 14 p (λ e. omega arith)
  inj_tree (TPrefix x0 x1 x2 x3) (TFail y0 y1 y2 y3) p = apart 6 15 p (λ e. omega arith)
  inj_tree (TProject x0 x1 x2 x3) (TLiteral y0 y1 y2) p = apart 7 0 p (λ e. omega arith)
  inj_tree (TProject x0 x1 x2 x3) (TName y0 y1 y2) p = apart 7 1 p (λ e. omega arith)
  inj_tree (TProject x0 x1 x2 x3) (TNull y0 y1 y2) p = apart 7 2 p (λ e. omega arith)
  inj_tree (TProject x0 x1 x2 x3) (TEmpty y0 y1 y2) p = apart 7 3 p (λ e. omega arith)
  inj_tree (TProject x0 x1 x2 x3) (TChain y0 y1 y2 y3) p = apart 7 4 p (λ e. omega arith)
  inj_tree (TProject x0 x1 x2 x3) (TCompare y0 y1 y2 y3 y4) p = apart 7 5 p (λ e. omega arith)
  inj_tree (TProject x0 x1 x2 x3) (TPrefix y0 y1 y2 y3) p = apart 7 6 p (λ e. omega arith)
  inj_tree (TProject x0 x1 x2 x3) (TProject y0 y1 y2 y3) p = λ i.
      TProject (same_number x0 y0 (ap (λ g. head (tail (g))) p) i) (same_number x1 y1 (ap (λ g. head (tail (tail (g)))) p) i)
      (inj_tree x2 y2 (ap (λ g. head (tail (tail (tail (g))))) p) i) (coded_indices.inj x3 y3 (ap (λ g. head (tail (tail (tail (tail (g)))))) p) i)
  inj_tree (TProject x0 x1 x2 x3) (TTuple y0 y1 y2) p = apart 7 8 p (λ e. omega arith)
  inj_tree (TProject x0 x1 x2 x3) (TList y0 y1 y2) p = apart 7 9 p (λ e. omega arith)
  inj_tree (TProject x0 x1 x2 x3) (TEach y0 y1 y2 y3 y4) p = apart 7 10 p (λ e. omega arith)
  inj_tree (TProject x0 x1 x2 x3) (TIf y0 y1 y2 y3 y4) p = apart 7 11 p (λ e. omega arith)
  inj_tree (TProject x0 x1 x2 x3) (TCall y0 y1 y2 y3 y4) p = apart 7 12 p (λ e. omega arith)
  inj_tree (TProject x0 x1 x2 x3) (TEffect y0 y1 y2 y3) p = apart 7 13 p (λ e. omega arith)
  inj_tree (TProject x0 x1 x2 x3) (TWrite y0 y1 y2 y3) p = apart 7 14 p (λ e. omega arith)
  inj_tree (TProject x0 x1 x2 x3) (TFail y0 y1 y2 y3) p = apart 7 15 p (λ e. omega arith)
  inj_tree (TTuple x0 x1 x2) (TLiteral y0 y1 y2) p = apart 8 0 p (λ e. omega arith)
  inj_tree (TTuple x0 x1 x2) (TName y0 y1 y2) p = apart 8 1 p (λ e. omega arith)
  inj_tree (TTuple x0 x1 x2) (TNull y0 y1 y2) p = apart 8 2 p (λ e. omega arith)
  inj_tree (TTuple x0 x1 x2) (TEmpty y0 y1 y2) p = apart 8 3 p (λ e. omega arith)
  inj_tree (TTuple x0 x1 x2) (TChain y0 y1 y2 y3) p = apart 8 4 p (λ e. omega arith)
  inj_tree (TTuple x0 x1 x2) (TCompare y0 y1 y2 y3 y4) p = apart 8 5 p (λ e. omega arith)
  inj_tree (TTuple x0 x1 x2) (TPrefix y0 y1 y2 y3) p = apart 8 6 p (λ e. omega arith)
  inj_tree (TTuple x0 x1 x2) (TProject y0 y1 y2 y3) p = apart 8 7 p (λ e. omega arith)
  inj_tree (TTuple x0 x1 x2) (TTuple y0 y1 y2) p = λ i. TTuple (same_number x0 y0 (ap (λ g. head (tail (g))) p) i)
      (same_number x1 y1 (ap (λ g. head (tail (tail (g)))) p) i) (inj_trees x2 y2 (ap (λ g. head (tail (tail (tail (g))))) p) i)
  inj_tree (TTuple x0 x1 x2) (TList y0 y1 y2) p = apart 8 9 p (λ e. omega arith)
  inj_tree (TTuple x0 x1 x2) (TEach y0 y1 y2 y3 y4) p = apart 8 10 p (λ e. omega arith)
  inj_tree (TTuple x0 x1 x2) (TIf y0 y1 y2 y3 y4) p = apart 8 11 p (λ e. omega arith)
  inj_tree (TTuple x0 x1 x2) (TCall y0 y1 y2 y3 y4) p = apart 8 12 p (λ e. omega arith)
  inj_tree (TTuple x0 x1 x2) (TEffect y0 y1 y2 y3) p = apart 8 13 p (λ e. omega arith)
  inj_tree (TTuple x0 x1 x2) (TWrite y0 y1 y2 y3) p = apart 8 14 p (λ e. omega arith)
  inj_tree (TTuple x0 x1 x2) (TFail y0 y1 y2 y3) p = apart 8 15 p (λ e. omega arith)
  inj_tree (TList x0 x1 x2) (TLiteral y0 y1 y2) p = apart 9 0 p (λ e. omega arith)
  inj_tree (TList x0 x1 x2) (TName y0 y1 y2) p = apart 9 1 p (λ e. omega arith)
  inj_tree (TList x0 x1 x2) (TNull y0 y1 y2) p = apart 9 2 p (λ e. omega arith)
  inj_tree (TList x0 x1 x2) (TEmpty y0 y1 y2) p = apart 9 3 p (λ e. omega arith)
  inj_tree (TList x0 x1 x2) (TChain y0 y1 y2 y3) p = apart 9 4 p (λ e. omega arith)
  inj_tree (TList x0 x1 x2) (TCompare y0 y1 y2 y3 y4) p = apart 9 5 p (λ e. omega arith)
  inj_tree (TList x0 x1 x2) (TPrefix y0 y1 y2 y3) p = apart 9 6 p (λ e. omega arith)
  inj_tree (TList x0 x1 x2) (TProject y0 y1 y2 y3) p = apart 9 7 p (λ e. omega arith)
  inj_tree (TList x0 x1 x2) (TTuple y0 y1 y2) p = apart 9 8 p (λ e. omega arith)
  inj_tree (TList x0 x1 x2) (TList y0 y1 y2) p = λ i. TList (same_number x0 y0 (ap (λ g. head (tail (g))) p) i)
      (same_number x1 y1 (ap (λ g. head (tail (tail (g)))) p) i) (inj_trees x2 y2 (ap (λ g. head (tail (tail (tail (g))))) p) i)
  inj_tree (TList x0 x1 x2) (TEach y0 y1 y2 y3 y4) p = apart 9 10 p (λ e. omega arith)
  inj_tree (TList x0 x1 x2) (TIf y0 y1 y2 y3 y4) p = apart 9 11 p (λ e. omega arith)
  inj_tree (TList x0 x1 x2) (TCall y0 y1 y2 y3 y4) p = apart 9 12 p (λ e. omega arith)
  inj_tree (TList x0 x1 x2) (TEffect y0 y1 y2 y3) p = apart 9 13 p (λ e. omega arith)
  inj_tree (TList x0 x1 x2) (TWrite y0 y1 y2 y3) p = apart 9 14 p (λ e. omega arith)
  inj_tree (TList x0 x1 x2) (TFail y0 y1 y2 y3) p = apart 9 15 p (λ e. omega arith)
  inj_tree (TEach x0 x1 x2 x3 x4) (TLiteral y0 y1 y2) p = apart 10 0 p (λ e. omega arith)
  inj_tree (TEach x0 x1 x2 x3 x4) (TName y0 y1 y2) p = apart 10 1 p (λ e. omega arith)
  inj_tree (TEach x0 x1 x2 x3 x4) (TNull y0 y1 y2) p = apart 10 2 p (λ e. omega arith)
  inj_tree (TEach x0 x1 x2 x3 x4) (TEmpty y0 y1 y2) p = apart 10 3 p (λ e. omega arith)
  inj_tree (TEach x0 x1 x2 x3 x4) (TChain y0 y1 y2 y3) p = apart 10 4 p (λ e. omega arith)
  inj_tree (TEach x0 x1 x2 x3 x4) (TCompare y0 y1 y2 y3 y4) p = apart 10 5 p (λ e. omega arith)
  inj_tree (TEach x0 x1 x2 x3 x4) (TPrefix y0 y1 y2 y3) p = apart 10 6 p (λ e. omega arith)
  inj_tree (TEach x0 x1 x2 x3 x4) (TProject y0 y1 y2 y3) p = apart 10 7 p (λ e. omega arith)
  inj_tree (TEach x0 x1 x2 x3 x4) (TTuple y0 y1 y2) p = apart 10 8 p (λ e. omega arith)
  inj_tree (TEach x0 x1 x2 x3 x4) (TList y0 y1 y2) p = apart 10 9 p (λ e. omega arith)
  inj_tree (TEach x0 x1 x2 x3 x4) (TEach y0 y1 y2 y3 y4) p = λ i.
      TEach (same_number x0 y0 (ap (λ g. head (tail (g))) p) i) (same_number x1 y1 (ap (λ g. head (tail (tail (g)))) p) i)
      (inj_tree x2 y2 (ap (λ g. head (tail (tail (tail (g))))) p) i) (coded_name.inj x3 y3 (ap (λ g. head (tail (tail (tail (tail (g)))))) p) i)
      (inj_tree x4 y4 (ap (λ g. head (tail (tail (tail (tail (tail (g))))))) p) i)
  inj_tree (TEach x0 x1 x2 x3 x4) (TIf y0 y1 y2 y3 y4) p = apart 10 11 p (λ e. omega arith)
  inj_tree (TEach x0 x1 x2 x3 x4) (TCall y0 y1 y2 y3 y4) p = apart 10 12 p (λ e. omega arith)
  inj_tree (TEach x0 x1 x2 x3 x4) (TEffect y0 y1 y2 y3) p = apart 10 13 p (λ e. omega arith)
  inj_tree (TEach x0 x1 x2 x3 x4) (TWrite y0 y1 y2 y3) p = apart 10 14 p (λ e. omega arith)
  inj_tree (TEach x0 x1 x2 x3 x4) (TFail y0 y1 y2 y3) p = apart 10 15 p (λ e. omega arith)
  inj_tree (TIf x0 x1 x2 x3 x4) (TLiteral y0 y1 y2) p = apart 11 0 p (λ e. omega arith)
  inj_tree (TIf x0 x1 x2 x3 x4) (TName y0 y1 y2) p = apart 11 1 p (λ e. omega arith)
  inj_tree (TIf x0 x1 x2 x3 x4) (TNull y0 y1 y2) p = apart 11 2 p (λ e. omega arith)
  inj_tree (TIf x0 x1 x2 x3 x4) (TEmpty y0 y1 y2) p = apart 11 3 p (λ e. omega arith)
  inj_tree (TIf x0 x1 x2 x3 x4) (TChain y0 y1 y2 y3) p = apart 11 4 p (λ e. omega arith)
  inj_tree (TIf x0 x1 x2 x3 x4) (TCompare y0 y1 y2 y3 y4) p = apart 11 5 p (λ e. omega arith)
  inj_tree (TIf x0 x1 x2 x3 x4) (TPrefix y0 y1 y2 y3) p = apart 11 6 p (λ e. omega arith)
  inj_tree (TIf x0 x1 x2 x3 x4) (TProject y0 y1 y2 y3) p = apart 11 7 p (λ e. omega arith)
  inj_tree (TIf x0 x1 x2 x3 x4) (TTuple y0 y1 y2) p = apart 11 8 p (λ e. omega arith)
  inj_tree (TIf x0 x1 x2 x3 x4) (TList y0 y1 y2) p = apart 11 9 p (λ e. omega arith)
  inj_tree (TIf x0 x1 x2 x3 x4) (TEach y0 y1 y2 y3 y4) p = apart 11 10 p (λ e. omega arith)
  inj_tree (TIf x0 x1 x2 x3 x4) (TIf y0 y1 y2 y3 y4) p = λ i.
      TIf (same_number x0 y0 (ap (λ g. head (tail (g))) p) i) (same_number x1 y1 (ap (λ g. head (tail (tail (g)))) p) i)
      (inj_tree x2 y2 (ap (λ g. head (tail (tail (tail (g))))) p) i) (inj_block x3 y3 (ap (λ g. head (tail (tail (tail (tail (g)))))) p) i)
      (inj_otherwise x4 y4 (ap (λ g. head (tail (tail (tail (tail (tail (g))))))) p) i)
  inj_tree (TIf x0 x1 x2 x3 x4) (TCall y0 y1 y2 y3 y4) p = apart 11 12 p (λ e. omega arith)
  inj_tree (TIf x0 x1 x2 x3 x4) (TEffect y0 y1 y2 y3) p = apart 11 13 p (λ e. omega arith)
  inj_tree (TIf x0 x1 x2 x3 x4) (TWrite y0 y1 y2 y3) p = apart 11 14 p (λ e. omega arith)
  inj_tree (TIf x0 x1 x2 x3 x4) (TFail y0 y1 y2 y3) p = apart 11 15 p (λ e. omega arith)
  inj_tree (TCall x0 x1 x2 x3 x4) (TLiteral y0 y1 y2) p = apart 12 0 p (λ e. omega arith)
  inj_tree (TCall x0 x1 x2 x3 x4) (TName y0 y1 y2) p = apart 12 1 p (λ e. omega arith)
  inj_tree (TCall x0 x1 x2 x3 x4) (TNull y0 y1 y2) p = apart 12 2 p (λ e. omega arith)
  inj_tree (TCall x0 x1 x2 x3 x4) (TEmpty y0 y1 y2) p = apart 12 3 p (λ e. omega arith)
  inj_tree (TCall x0 x1 x2 x3 x4) (TChain y0 y1 y2 y3) p = apart 12 4 p (λ e. omega arith)
  inj_tree (TCall x0 x1 x2 x3 x4) (TCompare y0 y1 y2 y3 y4) p = apart 12 5 p (λ e. omega arith)
  inj_tree (TCall x0 x1 x2 x3 x4) (TPrefix y0 y1 y2 y3) p = apart 12 6 p (λ e. omega arith)
  inj_tree (TCall x0 x1 x2 x3 x4) (TProject y0 y1 y2 y3) p = apart 12 7 p (λ e. omega arith)
  inj_tree (TCall x0 x1 x2 x3 x4) (TTuple y0 y1 y2) p = apart 12 8 p (λ e. omega arith)
  inj_tree (TCall x0 x1 x2 x3 x4) (TList y0 y1 y2) p = apart 12 9 p (λ e. omega arith)
  inj_tree (TCall x0 x1 x2 x3 x4) (TEach y0 y1 y2 y3 y4) p = apart 12 10 p (λ e. omega arith)
  inj_tree (TCall x0 x1 x2 x3 x4) (TIf y0 y1 y2 y3 y4) p = apart 12 11 p (λ e. omega arith)
  inj_tree (TCall x0 x1 x2 x3 x4) (TCall y0 y1 y2 y3 y4) p = λ i.
      TCall (same_number x0 y0 (ap (λ g. head (tail (g))) p) i) (same_number x1 y1 (ap (λ g. head (tail (tail (g)))) p) i)
      (coded_call.inj x2 y2 (ap (λ g. head (tail (tail (tail (g))))) p) i) (coded_name.inj x3 y3 (ap (λ g. head (tail (tail (tail (tail (g)))))) p) i)
      (inj_trees x4 y4 (ap (λ g. head (tail (tail (tail (tail (tail (g))))))) p) i)
  inj_tree (TCall x0 x1 x2 x3 x4) (TEffect y0 y1 y2 y3) p = apart 12 13 p (λ e. omega arith)
  inj_tree (TCall x0 x1 x2 x3 x4) (TWrite y0 y1 y2 y3) p = apart 12 14 p (λ e. omega arith)
  inj_tree (TCall x0 x1 x2 x3 x4) (TFail y0 y1 y2 y3) p = apart 12 15 p (λ e. omega arith)
  inj_tree (TEffect x0 x1 x2 x3) (TLiteral y0 y1 y2) p = apart 13 0 p (λ e. omega arith)
  inj_tree (TEffect x0 x1 x2 x3) (TName y0 y1 y2) p = apart 13 1 p (λ e. omega arith)
  inj_tree (TEffect x0 x1 x2 x3) (TNull y0 y1 y2) p = apart 13 2 p (λ e. omega arith)
  inj_tree (TEffect x0 x1 x2 x3) (TEmpty y0 y1 y2) p = apart 13 3 p (λ e. omega arith)
  inj_tree (TEffect x0 x1 x2 x3) (TChain y0 y1 y2 y3) p = apart 13 4 p (λ e. omega arith)
  inj_tree (TEffect x0 x1 x2 x3) (TCompare y0 y1 y2 y3 y4) p = apart 13 5 p (λ e. omega arith)
  inj_tree (TEffect x0 x1 x2 x3) (TPrefix y0 y1 y2 y3) p = apart 13 6 p (λ e. omega arith)
  inj_tree (TEffect x0 x1 x2 x3) (TProject y0 y1 y2 y3) p = apart 13 7 p (λ e. omega arith)
  inj_tree (TEffect x0 x1 x2 x3) (TTuple y0 y1 y2) p = apart 13 8 p (λ e. omega arith)
  inj_tree (TEffect x0 x1 x2 x3) (TList y0 y1 y2) p = apart 13 9 p (λ e. omega arith)
  inj_tree (TEffect x0 x1 x2 x3) (TEach y0 y1 y2 y3 y4) p = apart 13 10 p (λ e. omega arith)
  inj_tree (TEffect x0 x1 x2 x3) (TIf y0 y1 y2 y3 y4) p = apart 13 11 p (λ e. omega arith)
  inj_tree (TEffect x0 x1 x2 x3) (TCall y0 y1 y2 y3 y4) p = apart 13 12 p (λ e. omega arith)
  inj_tree (TEffect x0 x1 x2 x3) (TEffect y0 y1 y2 y3) p = λ i.
      TEffect (same_number x0 y0 (ap (λ g. head (tail (g))) p) i) (same_number x1 y1 (ap (λ g. head (tail (tail (g)))) p) i)
      (coded_effect.inj x2 y2 (ap (λ g. head (tail (tail (tail (g))))) p) i) (inj_tree x3 y3 (ap (λ g. head (tail (tail (tail (tail (g)))))) p) i)
  inj_tree (TEffect x0 x1 x2 x3) (TWrite y0 y1 y2 y3) p = apart 13 14 p (λ e. omega arith)
  inj_tree (TEffect x0 x1 x2 x3) (TFail y0 y1 y2 y3) p = apart 13 15 p (λ e. omega arith)
  inj_tree (TWrite x0 x1 x2 x3) (TLiteral y0 y1 y2) p = apart 14 0 p (λ e. omega arith)
  inj_tree (TWrite x0 x1 x2 x3) (TName y0 y1 y2) p = apart 14 1 p (λ e. omega arith)
  inj_tree (TWrite x0 x1 x2 x3) (TNull y0 y1 y2) p = apart 14 2 p (λ e. omega arith)
  inj_tree (TWrite x0 x1 x2 x3) (TEmpty y0 y1 y2) p = apart 14 3 p (λ e. omega arith)
  inj_tree (TWrite x0 x1 x2 x3) (TChain y0 y1 y2 y3) p = apart 14 4 p (λ e. omega arith)
  inj_tree (TWrite x0 x1 x2 x3) (TCompare y0 y1 y2 y3 y4) p = apart 14 5 p (λ e. omega arith)
  inj_tree (TWrite x0 x1 x2 x3) (TPrefix y0 y1 y2 y3) p = apart 14 6 p (λ e. omega arith)
  inj_tree (TWrite x0 x1 x2 x3) (TProject y0 y1 y2 y3) p = apart 14 7 p (λ e. omega arith)
  inj_tree (TWrite x0 x1 x2 x3) (TTuple y0 y1 y2) p = apart 14 8 p (λ e. omega arith)
  inj_tree (TWrite x0 x1 x2 x3) (TList y0 y1 y2) p = apart 14 9 p (λ e. omega arith)
  inj_tree (TWrite x0 x1 x2 x3) (TEach y0 y1 y2 y3 y4) p = apart 14 10 p (λ e. omega arith)
  inj_tree (TWrite x0 x1 x2 x3) (TIf y0 y1 y2 y3 y4) p = apart 14 11 p (λ e. omega arith)
  inj_tree (TWrite x0 x1 x2 x3) (TCall y0 y1 y2 y3 y4) p = apart 14 12 p (λ e. omega arith)
  inj_tree (TWrite x0 x1 x2 x3) (TEffect y0 y1 y2 y3) p = apart 14 13 p (λ e. omega arith)
  inj_tree (TWrite x0 x1 x2 x3) (TWrite y0 y1 y2 y3) p = λ i.
      TWrite (same_number x0 y0 (ap (λ g. head (tail (g))) p) i) (same_number x1 y1 (ap (λ g. head (tail (tail (g)))) p) i)
      (inj_tree x2 y2 (ap (λ g. head (tail (tail (tail (g))))) p) i) (inj_tree x3 y3 (ap (λ g. head (tail (tail (tail (tail (g)))))) p) i)
  inj_tree (TWrite x0 x1 x2 x3) (TFail y0 y1 y2 y3) p = apart 14 15 p (λ e. omega arith)
  inj_tree (TFail x0 x1 x2 x3) (TLiteral y0 y1 y2) p = apart 15 0 p (λ e. omega arith)
  inj_tree (TFail x0 x1 x2 x3) (TName y0 y1 y2) p = apart 15 1 p (λ e. omega arith)
  inj_tree (TFail x0 x1 x2 x3) (TNull y0 y1 y2) p = apart 15 2 p (λ e. omega arith)
  inj_tree (TFail x0 x1 x2 x3) (TEmpty y0 y1 y2) p = apart 15 3 p (λ e. omega arith)
  inj_tree (TFail x0 x1 x2 x3) (TChain y0 y1 y2 y3) p = apart 15 4 p (λ e. omega arith)
  inj_tree (TFail x0 x1 x2 x3) (TCompare y0 y1 y2 y3 y4) p = apart 15 5 p (λ e. omega arith)
  inj_tree (TFail x0 x1 x2 x3) (TPrefix y0 y1 y2 y3) p = apart 15 6 p (λ e. omega arith)
  inj_tree (TFail x0 x1 x2 x3) (TProject y0 y1 y2 y3) p = apart 15 7 p (λ e. omega arith)
  inj_tree (TFail x0 x1 x2 x3) (TTuple y0 y1 y2) p = apart 15 8 p (λ e. omega arith)
  inj_tree (TFail x0 x1 x2 x3) (TList y0 y1 y2) p = apart 15 9 p (λ e. omega arith)
  inj_tree (TFail x0 x1 x2 x3) (TEach y0 y1 y2 y3 y4) p = apart 15 10 p (λ e. omega arith)
  inj_tree (TFail x0 x1 x2 x3) (TIf y0 y1 y2 y3 y4) p = apart 15 11 p (λ e. omega arith)
  inj_tree (TFail x0 x1 x2 x3) (TCall y0 y1 y2 y3 y4) p = apart 15 12 p (λ e. omega arith)
  inj_tree (TFail x0 x1 x2 x3) (TEffect y0 y1 y2 y3) p = apart 15 13 p (λ e. omega arith)
  inj_tree (TFail x0 x1 x2 x3) (TWrite y0 y1 y2 y3) p = apart 15 14 p (λ e. omega arith)
  inj_tree (TFail x0 x1 x2 x3) (TFail y0 y1 y2 y3) p = λ i. TFail (same_number x0 y0 (ap (λ g. head (tail (g))) p) i)
      (same_number x1 y1 (ap (λ g. head (tail (tail (g)))) p) i) (coded_type.inj x2 y2 (ap (λ g. head (tail (tail (tail (g))))) p) i)
      (inj_tree x3 y3 (ap (λ g. head (tail (tail (tail (tail (g)))))) p) i)

  pub inj_trees : (x y : Trees) → code_trees x ≡ code_trees y → x ≡ y
  inj_trees Nil Nil p = refl
  inj_trees Nil (Cons y0 y1) p = apart 0 1 p (λ e. omega arith)
  inj_trees (Cons x0 x1) Nil p = apart 1 0 p (λ e. omega arith)
  inj_trees (Cons x0 x1) (Cons y0 y1) p = λ i. Cons (inj_tree x0 y0 (ap (λ g. head (tail (g))) p) i) (inj_trees x1 y1 (ap (λ g. head (tail (tail (g)))) p) i)

  pub inj_steps : (x y : Steps) → code_steps x ≡ code_steps y → x ≡ y
  inj_steps NoStep NoStep p = refl
  inj_steps NoStep (AStep y0 y1 y2) p = apart 0 1 p (λ e. omega arith)
  inj_steps (AStep x0 x1 x2) NoStep p = apart 1 0 p (λ e. omega arith)
  inj_steps (AStep x0 x1 x2) (AStep y0 y1 y2) p = λ i. AStep (coded_operator.inj x0 y0 (ap (λ g. head (tail (g))) p) i)
      (inj_tree x1 y1 (ap (λ g. head (tail (tail (g)))) p) i) (inj_steps x2 y2 (ap (λ g. head (tail (tail (tail (g))))) p) i)

  pub inj_block : (x y : BlockTree) → code_block x ≡ code_block y → x ≡ y
  inj_block (TBlock x0 x1 x2 x3) (TBlock y0 y1 y2 y3) p = λ i.
      TBlock (same_number x0 y0 (ap (λ g. head (tail (g))) p) i) (same_number x1 y1 (ap (λ g. head (tail (tail (g)))) p) i)
      (inj_lines x2 y2 (ap (λ g. head (tail (tail (tail (g))))) p) i) (inj_last x3 y3 (ap (λ g. head (tail (tail (tail (tail (g)))))) p) i)

  pub inj_lines : (x y : LineTrees) → code_lines x ≡ code_lines y → x ≡ y
  inj_lines NoLine NoLine p = refl
  inj_lines NoLine (ValLine y0 y1 y2 y3 y4) p = apart 0 1 p (λ e. omega arith)
  inj_lines NoLine (ExprLine y0 y1) p = apart 0 2 p (λ e. omega arith)
  inj_lines (ValLine x0 x1 x2 x3 x4) NoLine p = apart 1 0 p (λ e. omega arith)
  inj_lines (ValLine x0 x1 x2 x3 x4) (ValLine y0 y1 y2 y3 y4) p = λ i.
      ValLine (same_number x0 y0 (ap (λ g. head (tail (g))) p) i) (same_number x1 y1 (ap (λ g. head (tail (tail (g)))) p) i)
      (coded_name.inj x2 y2 (ap (λ g. head (tail (tail (tail (g))))) p) i) (inj_tree x3 y3 (ap (λ g. head (tail (tail (tail (tail (g)))))) p) i)
      (inj_lines x4 y4 (ap (λ g. head (tail (tail (tail (tail (tail (g))))))) p) i)
  inj_lines (ValLine x0 x1 x2 x3 x4) (ExprLine y0 y1) p = apart 1 2 p (λ e. omega arith)
  inj_lines (ExprLine x0 x1) NoLine p = apart 2 0 p (λ e. omega arith)
  inj_lines (ExprLine x0 x1) (ValLine y0 y1 y2 y3 y4) p = apart 2 1 p (λ e. omega arith)
  inj_lines (ExprLine x0 x1) (ExprLine y0 y1) p = λ i. ExprLine (inj_tree x0 y0 (ap (λ g. head (tail (g))) p) i)
      (inj_lines x1 y1 (ap (λ g. head (tail (tail (g)))) p) i)

  pub inj_last : (x y : LastTree) → code_last x ≡ code_last y → x ≡ y
  inj_last NoLast NoLast p = refl
  inj_last NoLast (ALast y0) p = apart 0 1 p (λ e. omega arith)
  inj_last (ALast x0) NoLast p = apart 1 0 p (λ e. omega arith)
  inj_last (ALast x0) (ALast y0) p = λ i. ALast (inj_tree x0 y0 (ap (λ g. head (tail (g))) p) i)

  pub inj_otherwise : (x y : ElseTree) → code_otherwise x ≡ code_otherwise y → x ≡ y
  inj_otherwise NoElse NoElse p = refl
  inj_otherwise NoElse (AnElse y0) p = apart 0 1 p (λ e. omega arith)
  inj_otherwise (AnElse x0) NoElse p = apart 1 0 p (λ e. omega arith)
  inj_otherwise (AnElse x0) (AnElse y0) p = λ i. AnElse (inj_block x0 y0 (ap (λ g. head (tail (g))) p) i)

abbrev pub coded_tree : Coded Tree
coded_tree = record { code = code_tree; inj = inj_tree }
