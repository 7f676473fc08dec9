-- How the logic stores types: a map into its own trees that is one to one.
use Rattle.std.specs.Prelude.{◌≡◌, ℕ, cond, ◌==◌, List, refl}
use Rattle.std.proofs.Common.{sym, ◌∙◌, ap, arith}
use base.Stored.{Gv, gnil, gnum, gcons, num, Coded, coded_ℕ, coded_list}
use Rattle.pie_parser.specs.declared.type_tree.PlainType.{PlainType}
use Rattle.pie_parser.specs.declared.type_tree.PlainType.TheVariants as plains
use Rattle.pie_parser.specs.PlainTypes.{TypeTree, PlainT, NamedT, ListT, TupleT, NullableT, TypeTrees, NilT, ConsT}

-- the parts of a code
abbrev head : Gv → Gv
head (gcons a b) = a
head g = gnil

abbrev tail : Gv → Gv
tail (gcons a b) = b
tail g = gnil

same_number : (x y : ℕ) → gnum x ≡ gnum y → x ≡ y
same_number x y p = ap num p

-- two codes with different numbers in front are different
apart : {A : Type 0} (m n : ℕ) {g h : Gv} → gcons (gnum m) g ≡ gcons (gnum n) h → (m ≡ n → ⊥) → A
apart m n p differ = absurd (differ (ap (λ g. num (head g)) p))

abbrev coded_text : Coded (List ℕ)
coded_text = coded_list coded_ℕ

-- PlainType as a number
abbrev pub plain_number : PlainType → ℕ
plain_number plains.Unit = 0
plain_number plains.Bool = 1
plain_number plains.Int = 2
plain_number plains.Text = 3
plain_number plains.Path = 4

-- the one of that number
abbrev pub plain_of : ℕ → PlainType
plain_of n = cond (n == 0) plains.Unit (cond (n == 1) plains.Bool (cond (n == 2) plains.Int (cond (n == 3) plains.Text (plains.Path))))

pub plain_back : (k : PlainType) → plain_of (plain_number k) ≡ k
plain_back plains.Unit = refl
plain_back plains.Bool = refl
plain_back plains.Int = refl
plain_back plains.Text = refl
plain_back plains.Path = refl

abbrev pub coded_plain : Coded PlainType
coded_plain = record { code = λ k. gnum (plain_number k); inj = λ x y p. sym (plain_back x) ∙ ap (λ g. plain_of (num g)) p ∙ plain_back y }

abbrev mutual
  pub code_type : TypeTree → Gv
  code_type (PlainT x0 x1 x2) = gcons (gnum 0) (gcons (gnum x0) (gcons (gnum x1) (gcons (coded_plain.code x2) gnil)))
  code_type (NamedT x0 x1 x2) = gcons (gnum 1) (gcons (gnum x0) (gcons (gnum x1) (gcons (coded_text.code x2) gnil)))
  code_type (ListT x0 x1 x2) = gcons (gnum 2) (gcons (gnum x0) (gcons (gnum x1) (gcons (code_type x2) gnil)))
  code_type (TupleT x0 x1 x2) = gcons (gnum 3) (gcons (gnum x0) (gcons (gnum x1) (gcons (code_types x2) gnil)))
  code_type (NullableT x0 x1 x2) = gcons (gnum 4) (gcons (gnum x0) (gcons (gnum x1) (gcons (code_type x2) gnil)))

  pub code_types : TypeTrees → Gv
  code_types NilT = gcons (gnum 0) (gnil)
  code_types (ConsT x0 x1) = gcons (gnum 1) (gcons (code_type x0) (gcons (code_types x1) gnil))

mutual
  pub inj_type : (x y : TypeTree) → code_type x ≡ code_type y → x ≡ y
  inj_type (PlainT x0 x1 x2) (PlainT y0 y1 y2) p = λ i. PlainT (same_number x0 y0 (ap (λ g. head (tail (g))) p) i)
      (same_number x1 y1 (ap (λ g. head (tail (tail (g)))) p) i) (coded_plain.inj x2 y2 (ap (λ g. head (tail (tail (tail (g))))) p) i)
  inj_type (PlainT x0 x1 x2) (NamedT y0 y1 y2) p = apart 0 1 p (λ e. omega arith)
  inj_type (PlainT x0 x1 x2) (ListT y0 y1 y2) p = apart 0 2 p (λ e. omega arith)
  inj_type (PlainT x0 x1 x2) (TupleT y0 y1 y2) p = apart 0 3 p (λ e. omega arith)
  inj_type (PlainT x0 x1 x2) (NullableT y0 y1 y2) p = apart 0 4 p (λ e. omega arith)
  inj_type (NamedT x0 x1 x2) (PlainT y0 y1 y2) p = apart 1 0 p (λ e. omega arith)
  inj_type (NamedT x0 x1 x2) (NamedT y0 y1 y2) p = λ i. NamedT (same_number x0 y0 (ap (λ g. head (tail (g))) p) i)
      (same_number x1 y1 (ap (λ g. head (tail (tail (g)))) p) i) (coded_text.inj x2 y2 (ap (λ g. head (tail (tail (tail (g))))) p) i)
  inj_type (NamedT x0 x1 x2) (ListT y0 y1 y2) p = apart 1 2 p (λ e. omega arith)
  inj_type (NamedT x0 x1 x2) (TupleT y0 y1 y2) p = apart 1 3 p (λ e. omega arith)
  inj_type (NamedT x0 x1 x2) (NullableT y0 y1 y2) p = apart 1 4 p (λ e. omega arith)
  inj_type (ListT x0 x1 x2) (PlainT y0 y1 y2) p = apart 2 0 p (λ e. omega arith)
  inj_type (ListT x0 x1 x2) (NamedT y0 y1 y2) p = apart 2 1 p (λ e. omega arith)
  inj_type (ListT x0 x1 x2) (ListT y0 y1 y2) p = λ i. ListT (same_number x0 y0 (ap (λ g. head (tail (g))) p) i)
      (same_number x1 y1 (ap (λ g. head (tail (tail (g)))) p) i) (inj_type x2 y2 (ap (λ g. head (tail (tail (tail (g))))) p) i)
  inj_type (ListT x0 x1 x2) (TupleT y0 y1 y2) p = apart 2 3 p (λ e. omega arith)
  inj_type (ListT x0 x1 x2) (NullableT y0 y1 y2) p = apart 2 4 p (λ e. omega arith)
  inj_type (TupleT x0 x1 x2) (PlainT y0 y1 y2) p = apart 3 0 p (λ e. omega arith)
  inj_type (TupleT x0 x1 x2) (NamedT y0 y1 y2) p = apart 3 1 p (λ e. omega arith)
  inj_type (TupleT x0 x1 x2) (ListT y0 y1 y2) p = apart 3 2 p (λ e. omega arith)
  inj_type (TupleT x0 x1 x2) (TupleT y0 y1 y2) p = λ i. TupleT (same_number x0 y0 (ap (λ g. head (tail (g))) p) i)
      (same_number x1 y1 (ap (λ g. head (tail (tail (g)))) p) i) (inj_types x2 y2 (ap (λ g. head (tail (tail (tail (g))))) p) i)
  inj_type (TupleT x0 x1 x2) (NullableT y0 y1 y2) p = apart 3 4 p (λ e. omega arith)
  inj_type (NullableT x0 x1 x2) (PlainT y0 y1 y2) p = apart 4 0 p (λ e. omega arith)
  inj_type (NullableT x0 x1 x2) (NamedT y0 y1 y2) p = apart 4 1 p (λ e. omega arith)
  inj_type (NullableT x0 x1 x2) (ListT y0 y1 y2) p = apart 4 2 p (λ e. omega arith)
  inj_type (NullableT x0 x1 x2) (TupleT y0 y1 y2) p = apart 4 3 p (λ e. omega arith)
  inj_type (NullableT x0 x1 x2) (NullableT y0 y1 y2) p = λ i.
      NullableT (same_number x0 y0 (ap (λ g. head (tail (g))) p) i) (same_number x1 y1 (ap (λ g. head (tail (tail (g)))) p) i)
      (inj_type x2 y2 (ap (λ g. head (tail (tail (tail (g))))) p) i)

  pub inj_types : (x y : TypeTrees) → code_types x ≡ code_types y → x ≡ y
  inj_types NilT NilT p = refl
  inj_types NilT (ConsT y0 y1) p = apart 0 1 p (λ e. omega arith)
  inj_types (ConsT x0 x1) NilT p = apart 1 0 p (λ e. omega arith)
  inj_types (ConsT x0 x1) (ConsT y0 y1) p = λ i. ConsT (inj_type x0 y0 (ap (λ g. head (tail (g))) p) i) (inj_types x1 y1 (ap (λ g. head (tail (tail (g)))) p) i)

abbrev pub coded_type : Coded TypeTree
coded_type = record { code = code_type; inj = inj_type }
