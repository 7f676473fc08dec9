-- How the logic stores a value: a map into plain data that is one to one.
use Rattle.std.proofs.Common.{◌≡◌, ◌≢◌, ℕ, List, refl, ap, arith}
use Rattle.std.specs.Coded.{Coded, coded_ℕ, coded_ℤ, coded_bool, coded_list}
use base.Stored.{Gv, gnil, gnum, gcons}
use Rattle.pie_value.specs.Tree.{Tree, Trees, TUnit, TBool, TInt, TText, TPath, TList, TTuple, TNull, TBytes, Nil, Cons}

abbrev head : Gv → Gv
head gnil = gnil
head (gnum n) = gnil
head (gcons a b) = a

abbrev tail : Gv → Gv
tail gnil = gnil
tail (gnum n) = gnil
tail (gcons a b) = b

apart : (m n : ℕ) {a b : Gv} → gcons (gnum m) a ≡ gcons (gnum n) b → m ≢ n → ⊥
apart m n p other = other (cc)

-- the number of a kind of value
abbrev kind : Tree → ℕ
kind TUnit = 0
kind (TBool b) = 1
kind (TInt n) = 2
kind (TText bs) = 3
kind (TPath bs) = 4
kind (TList ts) = 5
kind (TTuple ts) = 6
kind TNull = 7
kind (TBytes bs) = 8

abbrev mutual
  -- the number of the kind, and then what the value holds
  pub code_of : Tree → Gv
  code_of TUnit = gcons (gnum 0) gnil
  code_of (TBool b) = gcons (gnum 1) (coded_bool.code b)
  code_of (TInt n) = gcons (gnum 2) (coded_ℤ.code n)
  code_of (TText bs) = gcons (gnum 3) ((coded_list coded_ℕ).code bs)
  code_of (TPath bs) = gcons (gnum 4) ((coded_list coded_ℕ).code bs)
  code_of (TList ts) = gcons (gnum 5) (codes_of ts)
  code_of (TTuple ts) = gcons (gnum 6) (codes_of ts)
  code_of TNull = gcons (gnum 7) gnil
  code_of (TBytes bs) = gcons (gnum 8) ((coded_list coded_ℕ).code bs)

  pub codes_of : Trees → Gv
  codes_of Nil = gnil
  codes_of (Cons t ts) = gcons (code_of t) (codes_of ts)

mutual
  -- values that are stored alike are equal
  pub inj_of : (x y : Tree) → code_of x ≡ code_of y → x ≡ y
  inj_of TUnit TUnit p = refl
  inj_of (TBool x) (TBool y) p = ap TBool (coded_bool.inj x y (ap tail p))
  inj_of (TInt x) (TInt y) p = ap TInt (coded_ℤ.inj x y (ap tail p))
  inj_of (TText x) (TText y) p = ap TText ((coded_list coded_ℕ).inj x y (ap tail p))
  inj_of (TPath x) (TPath y) p = ap TPath ((coded_list coded_ℕ).inj x y (ap tail p))
  inj_of (TList x) (TList y) p = ap TList (injs_of x y (ap tail p))
  inj_of (TTuple x) (TTuple y) p = ap TTuple (injs_of x y (ap tail p))
  inj_of TNull TNull p = refl
  inj_of (TBytes x) (TBytes y) p = ap TBytes ((coded_list coded_ℕ).inj x y (ap tail p))
  inj_of x y p = absurd (apart (kind x) (kind y) p (omega arith))

  pub injs_of : (xs ys : Trees) → codes_of xs ≡ codes_of ys → xs ≡ ys
  injs_of Nil Nil p = refl
  injs_of (Cons x xs) (Cons y ys) p = λ i. Cons (inj_of x y (ap head p) i) (injs_of xs ys (ap tail p) i)
  injs_of Nil (Cons y ys) p = cc
  injs_of (Cons x xs) Nil p = cc

abbrev pub coded_tree : Coded Tree
coded_tree = record { code = code_of; inj = inj_of }

abbrev pub coded_trees : Coded (List Tree)
coded_trees = coded_list coded_tree
