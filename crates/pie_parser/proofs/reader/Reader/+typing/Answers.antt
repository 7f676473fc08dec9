use Rattle.std.proofs.Common.{Vec, Global, [], ◌∷◌, ◌-◌, sym, subst}
use Rattle.std.proofs.lemmas.Result.{err_from_is_err_and}
use Rattle.pie_parser.specs.declared.type_tree.Type.{«Type»}
use Rattle.pie_parser.specs.Places.{ParseAgrees}
use Rattle.pie_parser.specs.inner.Turns.{all_behind}
use Rattle.pie_parser.specs.TypeReading.{another_type, inner_type}
use Rattle.pie_parser.proofs.Nesting.{inner_type_is}
use Rattle.pie_parser.proofs.Turning.{fails_so}
use Rattle.std.proofs.Common.{arith}
use Rattle.pie_parser.proofs.Turning.{goes_on, stops}
use Rattle.pie_parser.proofs.reader.Reader.+typing.Goals as goal

pub inner_type-returns : goal.inner_type-returns
inner_type-returns t c =
    subst (ParseAgrees (λ (t : «Type»). t) c.written_type.result c.written_type.new.self)
    (sym (inner_type_is c.args.room c.args.self.now c.requires)) c.written_type.ensures

pub more_types-returns-in_err-item : goal.more_types-returns-in_err-item
more_types-returns-in_err-item t c =
    let turn = another_type c.args.room (inner_type c.args.room) in
    let p = err_from_is_err_and c.from_residual-in_err-item.result c.from_residual-in_err-item.ensures.1 in
    rw (p.1, p.2)
    (fails_so
    (λ (v : Vec «Type» Global).
    v.items) turn c.left-end.result c.loop.counter c.loop.self c.another_type.new.self c.loop.items.items c.in_err-item.field-0.0
    (all_behind (c.args.first ∷ c.args.second ∷ []) turn c.args.self.now) c.loop-test.true c.in_err-item.ensures c.loop.invariant)

pub more_types-returns-in_default : goal.more_types-returns-in_default
more_types-returns-in_default t c = grind (arith, stops)

pub more_types-loop-preserved : goal.more_types-loop-preserved
more_types-loop-preserved t c = grind (arith, goes_on)
