-- The test of two types is equality.
use Rattle.std.proofs.Common.{◌≡◌, Bool, true, false, ◌&&◌, refl, ap, sym, ◌∙◌}
use Rattle.std.specs.Prelude.{IsTrue, ◌↔◌}
use Rattle.pie_value.specs.declared.ty.Ty.{Ty}
use Rattle.pie_value.specs.Types.{TyTree, TyTrees, UnitTy, BoolTy, IntTy, TextTy, PathTy, ListTy, TupleTy, NullableTy, BytesTy, NoTy, MoreTy}
use Rattle.pie_value.specs.TypeTrees.{ty_tree}
use Rattle.pie_value.proofs.TypeElements.{ty_tree_inj}
use Rattle.pie_types.specs.Operators.{same_type, same_types}

both : (a b : Bool) → (a && b) ≡ true → (a ≡ true) × (b ≡ true)
both true b h = (refl, h)
both false b h = cc

mutual
  pub same_self : (t : TyTree) → same_type t t ≡ true
  same_self UnitTy = refl
  same_self BoolTy = refl
  same_self IntTy = refl
  same_self TextTy = refl
  same_self PathTy = refl
  same_self (ListTy t) = same_self t
  same_self (TupleTy ts) = same_selves ts
  same_self (NullableTy t) = same_self t
  same_self BytesTy = refl

  same_selves : (ts : TyTrees) → same_types ts ts ≡ true
  same_selves NoTy = refl
  same_selves (MoreTy t ts) = ap (λ (b : Bool). b && same_types ts ts) (same_self t) ∙ same_selves ts

mutual
  pub same_true : (t u : TyTree) → same_type t u ≡ true → t ≡ u
  same_true UnitTy UnitTy h = refl
  same_true BoolTy BoolTy h = refl
  same_true IntTy IntTy h = refl
  same_true TextTy TextTy h = refl
  same_true PathTy PathTy h = refl
  same_true (ListTy t) (ListTy u) h = ap ListTy (same_true t u h)
  same_true (TupleTy ts) (TupleTy us) h = ap TupleTy (same_trues ts us h)
  same_true (NullableTy t) (NullableTy u) h = ap NullableTy (same_true t u h)
  same_true BytesTy BytesTy h = refl
  same_true t u h = cc

  same_trues : (ts us : TyTrees) → same_types ts us ≡ true → ts ≡ us
  same_trues NoTy NoTy h = refl
  same_trues (MoreTy t ts) (MoreTy u us) h =
      let p = both (same_type t u) (same_types ts us) h in
      λ i. MoreTy (same_true t u p.0 i) (same_trues ts us p.1 i)
  same_trues ts us h = cc

-- what decides whether two types are equal is the test of their trees
pub decided : (r b : Bool) (x y : Ty) → b ≡ same_type (ty_tree x) (ty_tree y) → IsTrue r ↔ (x ≡ y) → r ≡ b
decided true true x y e h = refl
decided false false x y e h = refl
decided true false x y e h =
    let p : false ≡ true = e ∙ ap (λ (z : Ty). same_type (ty_tree x) (ty_tree z)) (sym (h.0 refl)) ∙ same_self (ty_tree x) in cc
decided false true x y e h = h.1 (ty_tree_inj x y (same_true (ty_tree x) (ty_tree y) (sym e)))
