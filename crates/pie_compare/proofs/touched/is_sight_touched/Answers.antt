use Rattle.std.proofs.Common.{sym, ◌∙◌}
use Rattle.pie_named.specs.inner.Stamped.{stamp_in, differs_from}
use Rattle.pie_compare.specs.inner.Touching.{is_asked}
use Rattle.pie_compare.proofs.Touches.{asked}
use Rattle.pie_compare.proofs.Asks.{sight_asks}
use Rattle.pie_compare.proofs.touched.is_sight_touched.Goals as goal

pub returns-clause-answer : goal.returns-clause-answer
returns-clause-answer g c = λ d held known.
    let compared = c.in_ok-differs.ensures.compares d held known in
    asked d c.differs.new.self (is_asked c.args.named.now c.args.kind c.args.path.now)
    (differs_from (stamp_in d c.args.kind c.args.path.now) c.args.stamp.now) c.in_ok-differs.differs (sym c.is_asked.ensures ∙ c.if-not-is_asked.false)
    compared.is compared.known

pub returns-in_err-differs-clause-asks : goal.returns-in_err-differs-clause-asks
returns-in_err-differs-clause-asks g c =
    sight_asks c.args.named.now c.args.kind c.args.path.now _ (g.F.Files.asked c.args.files.now) (g.F.Files.asked c.differs.new.files)
    (sym c.is_asked.ensures ∙ c.if-not-is_asked.false) c.differs.ensures.asks

pub returns-clause-asks : goal.returns-clause-asks
returns-clause-asks g c =
    sight_asks c.args.named.now c.args.kind c.args.path.now _ (g.F.Files.asked c.args.files.now) (g.F.Files.asked c.differs.new.files)
    (sym c.is_asked.ensures ∙ c.if-not-is_asked.false) c.differs.ensures.asks
