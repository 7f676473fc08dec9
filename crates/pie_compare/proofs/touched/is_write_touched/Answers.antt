use Rattle.std.proofs.Common.{sym, ◌∙◌}
use Rattle.pie_value.specs.declared.stamp.Stamp.TheVariants as stamps
use Rattle.pie_record.specs.declared.dep.DepKind.TheVariants as kinds
use Rattle.pie_named.specs.inner.Names.{is_named}
use Rattle.pie_named.specs.inner.Stamped.{stamp_in, differs_from}
use Rattle.pie_compare.proofs.Touches.{asked}
use Rattle.pie_compare.proofs.touched.is_write_touched.Goals as goal

pub returns-clause-answer : goal.returns-clause-answer
returns-clause-answer g c = λ d held known.
    let compared = c.in_ok-differs.ensures.compares d held known in
    asked d c.write_differs.new.self (is_named c.args.named.now c.args.path.now)
    (differs_from (stamp_in d kinds.ReadHash c.args.path.now) (stamps.Hash c.args.hash)) c.in_ok-differs.differs
    (sym c.is_named.ensures ∙ c.if-not-is_named.false) compared.is compared.known
