use Rattle.std.proofs.Common.{◌<◌, ap, arith}
use Rattle.pie_value.specs.declared.value.Value.{Value}
use Rattle.pie_value.specs.Tree.{mass, weight}
use Rattle.pie_value.specs.Values.{tree_of, trees_of}
use Rattle.pie_value.proofs.Elements.{mass_at, trees_decided}
use Rattle.pie_value.proofs.+same.Goals as goal

pub same::same_values-same-requires : goal.same::same_values-same-requires
same::same_values-same-requires t c =
    let h : mass (tree_of c.index-a-i.result) < weight (trees_of c.args.a.now) =
    omega (arith, mass_at c.args.a.now c.loop-i.i c.index-a-i.result (omega arith), ap (λ (v : Value). mass (tree_of v)) c.index-a-i.is) in
    (omega arith, tt)

pub value::Value::same-returns-in-List-List : goal.value::Value::same-returns-in-List-List
value::Value::same-returns-in-List-List t c =
    let e = trees_decided c.in-List-List.a c.in-List-List.b _ _ c.as_slice.ensures c.as_slice-in-List-List.ensures c.same_values.ensures in
    (λ h. let k = e.0 h in cc, λ h. e.1 (cc))

pub value::Value::same-returns-in-Tuple-Tuple : goal.value::Value::same-returns-in-Tuple-Tuple
value::Value::same-returns-in-Tuple-Tuple t c =
    let e = trees_decided c.in-Tuple-Tuple.a c.in-Tuple-Tuple.b
    _ _ c.as_slice-in-Tuple-Tuple.ensures c.as_slice-in-Tuple-Tuple-2.ensures c.same_values-in-Tuple-Tuple.ensures in
    (λ h. let k = e.0 h in cc, λ h. e.1 (cc))
