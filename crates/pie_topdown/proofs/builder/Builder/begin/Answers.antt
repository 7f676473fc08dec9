use Rattle.std.proofs.Common.{Box, Option, subst}
use Rattle.std.specs.Prelude.{IfSome}
use Rattle.std.specs.declared.alloc.Global.{Global}
use Rattle.pie_record.specs.declared.task_record.TaskRecord.{TaskRecord}
use Rattle.pie_topdown.specs.inner.Due.{LacksOwn}
use Rattle.pie_topdown.specs.inner.Frames.{IsOwnRecord}
use Rattle.pie_topdown.proofs.Begun.{none_begins, with_begins}
use Rattle.pie_topdown.proofs.builder.Builder.begin.Goals as goal

pub returns-in-Some-clause-right : goal.returns-in-Some-clause-right
returns-in-Some-clause-right g c =
    with_begins (g.F.Files.holds c.args.files.now) (g.O.Offers.told c.args.offers.now) c.args.self.now c.begin_with.new.self c.args.no.0 c.args.code.now
    c.in-Some.rec.value c.begin_with.result
    (subst (λ (o : Option (Box TaskRecord Global)). IfSome o (λ r. IsOwnRecord c.args.self.now.plan r.value)) c.in-Some.is c.in_ok-rec.ensures.own)
    c.begin_with.ensures.right

pub returns-in-None-clause-right : goal.returns-in-None-clause-right
returns-in-None-clause-right g c =
    none_begins (g.F.Files.holds c.args.files.now) (g.O.Offers.told c.args.offers.now) c.args.self.now c.ask.new.self c.args.no.0 c.args.code.now c.ask.result
    (subst (LacksOwn c.args.self.now c.args.no.0) c.in-None.is c.in_ok-rec.ensures.none) c.ask.ensures.right
