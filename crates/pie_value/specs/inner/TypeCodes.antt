-- How the logic stores a type: a map into plain data that is one to one.
use Rattle.std.proofs.Common.{◌≡◌, ◌≢◌, ℕ, List, refl, ap, arith}
use Rattle.std.specs.Coded.{Coded, coded_list}
use base.Stored.{Gv, gnil, gnum, gcons}
use Rattle.pie_value.specs.Types.{TyTree, TyTrees, UnitTy, BoolTy, IntTy, TextTy, PathTy, ListTy, TupleTy, NullableTy, BytesTy, NoTy, MoreTy}

abbrev head : Gv → Gv
head gnil = gnil
head (gnum n) = gnil
head (gcons a b) = a

abbrev tail : Gv → Gv
tail gnil = gnil
tail (gnum n) = gnil
tail (gcons a b) = b

apart : (m n : ℕ) {a b : Gv} → gcons (gnum m) a ≡ gcons (gnum n) b → m ≢ n → ⊥
apart m n p other = other (cc)

-- the number of a kind of type
abbrev kind : TyTree → ℕ
kind UnitTy = 0
kind BoolTy = 1
kind IntTy = 2
kind TextTy = 3
kind PathTy = 4
kind (ListTy t) = 5
kind (TupleTy ts) = 6
kind (NullableTy t) = 7
kind BytesTy = 8

abbrev mutual
  -- the number of the kind, and then its parts
  pub ty_code : TyTree → Gv
  ty_code UnitTy = gcons (gnum 0) gnil
  ty_code BoolTy = gcons (gnum 1) gnil
  ty_code IntTy = gcons (gnum 2) gnil
  ty_code TextTy = gcons (gnum 3) gnil
  ty_code PathTy = gcons (gnum 4) gnil
  ty_code (ListTy t) = gcons (gnum 5) (ty_code t)
  ty_code (TupleTy ts) = gcons (gnum 6) (ty_codes ts)
  ty_code (NullableTy t) = gcons (gnum 7) (ty_code t)
  ty_code BytesTy = gcons (gnum 8) gnil

  pub ty_codes : TyTrees → Gv
  ty_codes NoTy = gnil
  ty_codes (MoreTy t ts) = gcons (ty_code t) (ty_codes ts)

mutual
  -- types that are stored alike are equal
  pub ty_inj : (x y : TyTree) → ty_code x ≡ ty_code y → x ≡ y
  ty_inj UnitTy UnitTy p = refl
  ty_inj BoolTy BoolTy p = refl
  ty_inj IntTy IntTy p = refl
  ty_inj TextTy TextTy p = refl
  ty_inj PathTy PathTy p = refl
  ty_inj (ListTy x) (ListTy y) p = ap ListTy (ty_inj x y (ap tail p))
  ty_inj (TupleTy x) (TupleTy y) p = ap TupleTy (ty_injs x y (ap tail p))
  ty_inj (NullableTy x) (NullableTy y) p = ap NullableTy (ty_inj x y (ap tail p))
  ty_inj BytesTy BytesTy p = refl
  ty_inj x y p = absurd (apart (kind x) (kind y) p (omega arith))

  pub ty_injs : (xs ys : TyTrees) → ty_codes xs ≡ ty_codes ys → xs ≡ ys
  ty_injs NoTy NoTy p = refl
  ty_injs (MoreTy x xs) (MoreTy y ys) p = λ i. MoreTy (ty_inj x y (ap head p) i) (ty_injs xs ys (ap tail p) i)
  ty_injs NoTy (MoreTy y ys) p = cc
  ty_injs (MoreTy x xs) NoTy p = cc

abbrev pub coded_ty : Coded TyTree
coded_ty = record { code = ty_code; inj = ty_inj }

abbrev pub coded_tys : Coded (List TyTree)
coded_tys = coded_list coded_ty
