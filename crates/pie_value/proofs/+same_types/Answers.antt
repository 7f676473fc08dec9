use Rattle.std.proofs.Common.{◌<◌, ap, arith}
use Rattle.pie_value.specs.declared.ty.Ty.{Ty}
use Rattle.pie_value.specs.Types.{ty_mass, parts_weight}
use Rattle.pie_value.specs.TypeTrees.{ty_tree, ty_trees}
use Rattle.pie_value.proofs.TypeElements.{ty_mass_at, ty_decided, tys_decided}
use Rattle.pie_value.proofs.+same_types.Goals as goal

pub typing::same_each-same-requires : goal.typing::same_each-same-requires
typing::same_each-same-requires t c =
    let h : ty_mass (ty_tree c.index-a-i.result) < parts_weight (ty_trees c.args.a.now) =
    omega (arith, ty_mass_at c.args.a.now c.loop-i.i c.index-a-i.result (omega arith), ap (λ (v : Ty). ty_mass (ty_tree v)) c.index-a-i.is) in
    (omega arith, tt)

pub ty::Ty::same-returns-in-List-List : goal.ty::Ty::same-returns-in-List-List
ty::Ty::same-returns-in-List-List t c =
    let e = ty_decided c.in-List-List.a c.in-List-List.b _ _ c.get.ensures c.get-in-List-List.ensures c.same.ensures in
    (λ h. let k = e.0 h in cc, λ h. e.1 (cc))

pub ty::Ty::same-returns-in-Tuple-Tuple : goal.ty::Ty::same-returns-in-Tuple-Tuple
ty::Ty::same-returns-in-Tuple-Tuple t c =
    let e = tys_decided c.in-Tuple-Tuple.a c.in-Tuple-Tuple.b _ _ c.as_slice.ensures c.as_slice-in-Tuple-Tuple.ensures c.same_each.ensures in
    (λ h. let k = e.0 h in cc, λ h. e.1 (cc))

pub ty::Ty::same-returns-in-Nullable-Nullable : goal.ty::Ty::same-returns-in-Nullable-Nullable
ty::Ty::same-returns-in-Nullable-Nullable t c =
    let e = ty_decided c.in-Nullable-Nullable.a c.in-Nullable-Nullable.b
    _ _ c.get-in-Nullable-Nullable.ensures c.get-in-Nullable-Nullable-2.ensures c.same-in-Nullable-Nullable.ensures in
    (λ h. let k = e.0 h in cc, λ h. e.1 (cc))
