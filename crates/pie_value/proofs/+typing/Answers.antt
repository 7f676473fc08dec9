use Rattle.std.proofs.Common.{◌<◌, ap, arith}
use Rattle.pie_value.specs.declared.ty.Ty.{Ty}
use Rattle.pie_value.specs.Types.{ty_mass, parts_weight}
use Rattle.pie_value.specs.TypeTrees.{ty_tree, ty_trees}
use Rattle.pie_value.proofs.TypeElements.{ty_mass_at}
use Rattle.pie_value.proofs.Elements.{trees_left}
use Rattle.pie_value.proofs.+typing.Goals as goal

pub typing::have_types-has_type-requires : goal.typing::have_types-has_type-requires
typing::have_types-has_type-requires t c =
    let h : ty_mass (ty_tree c.index-types-i.result) < parts_weight (ty_trees c.args.types.now) =
    omega (arith, ty_mass_at c.args.types.now c.loop-i.i c.index-types-i.result (omega arith), ap (λ (v : Ty). ty_mass (ty_tree v)) c.index-types-i.is) in
    (omega arith, tt)

pub typing::all_have_type-has_type-requires : goal.typing::all_have_type-has_type-requires
typing::all_have_type-has_type-requires t c = grind (arith, trees_left)
