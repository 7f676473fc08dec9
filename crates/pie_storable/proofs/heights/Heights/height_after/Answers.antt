use Rattle.std.proofs.Common.{rules, Bool, List, sym, ap, ◌∙◌}
use Rattle.std.specs.Prelude.{◌&&◌}
use Rattle.pie_record.specs.declared.dep.Dep.{Dep}
use Rattle.pie_store.specs.Ranks.{above}
use Rattle.pie_store.specs.inner.Known.{set_has}
use Rattle.pie_storable.proofs.Placing.{ranked_as, last_as, present, barred, passes}
use Rattle.pie_storable.proofs.heights.Heights.height_after.Goals as goal

pub returns-then-is_some-clause-height : goal.returns-then-is_some-clause-height
returns-then-is_some-clause-height c = λ rows are.
    let r = c.args.row.now in
    present (set_has c.args.known.now) rows r c.at.result (c.at.ensures ∙ ranked_as c.args.self.now rows r.task c.args.bytes.now are c.requires.bytes)
    (sym c.is_some.ensures ∙ c.if-is_some.true)

pub returns-in-Some-clause-height : goal.returns-in-Some-clause-height
returns-in-Some-clause-height c = λ rows are.
    let r = c.args.row.now in
    passes (set_has c.args.known.now) rows r c.at.result c.in-Some.height
    (c.at.ensures ∙ ranked_as c.args.self.now rows r.task c.args.bytes.now are c.requires.bytes)
    (sym c.is_some.ensures ∙ c.if-is_some.false)
    (sym c.in-Some.is ∙ c.in_ok-height.ensures.height rows are ∙ ap (λ (l : List Dep). above rows l 0) c.as_slice.ensures)
    (sym (last_as c.args.self.now rows r.task c.args.bytes.now c.in-Some.height are c.requires.bytes) ∙ sym c.comes_last.ensures ∙ c.if-comes_last.true)
    (search rules)

pub returns-in_default-2-clause-height : goal.returns-in_default-2-clause-height
returns-in_default-2-clause-height c = λ rows are.
    let r = c.args.row.now in
    barred (set_has c.args.known.now) rows r c.at.result c.in-Some.height
    (c.at.ensures ∙ ranked_as c.args.self.now rows r.task c.args.bytes.now are c.requires.bytes)
    (sym c.in-Some.is ∙ c.in_ok-height.ensures.height rows are ∙ ap (λ (l : List Dep). above rows l 0) c.as_slice.ensures)
    (ap (λ (b : Bool). b && set_has c.args.known.now r.task.func)
    (sym (last_as c.args.self.now rows r.task c.args.bytes.now c.in-Some.height are c.requires.bytes) ∙ sym c.comes_last.ensures ∙ c.if-comes_last.false))
