use Rattle.std.proofs.Common.{Ok, refl}
use Rattle.pie_files.specs.declared.files.FilesError.{FilesError}
use Rattle.pie_topdown.specs.declared.entering.Entry.TheVariants.{Full, Unknown}
use Rattle.pie_topdown.specs.inner.Entries.{MayEnter}
use Rattle.pie_topdown.proofs.Stepped.{waits_tried, lost_tried, full_tried}
use Rattle.pie_topdown.proofs.Differing.{pushed_requires, lost_requires, full_requires}
use Rattle.pie_topdown.proofs.builder.Builder.descend.Goals as goal

pub returns-in-May-clause-right : goal.returns-in-May-clause-right
returns-in-May-clause-right g c =
    pushed_requires {E = FilesError} (g.F.Files.holds c.args.files.now) (g.O.Offers.told c.args.offers.now) c.args.self.now c.push_check.new.self
    c.args.check.value c.args.task (Ok c.in_ok-push_check-in-May.field-0) c.in_ok-push_check-in-May.ensures.right

pub returns-in-Unknown-clause-right : goal.returns-in-Unknown-clause-right
returns-in-Unknown-clause-right g c =
    let may : MayEnter c.args.self.now c.args.task Unknown = rw c.in-Unknown.is at c.entry.ensures in
    lost_requires (g.F.Files.holds c.args.files.now) (g.O.Offers.told c.args.offers.now) c.args.self.now c.differs.new.self c.args.check.value c.args.task
    c.differs.result c.requires.check.named c.differs.ensures.right may c.requires.task.encodable c.requires.task.absent

pub returns-clause-right : goal.returns-clause-right
returns-clause-right g c =
    let may : MayEnter c.args.self.now c.args.task Full = rw c.in-Full.is at c.entry.ensures in
    full_requires (g.F.Files.holds c.args.files.now) (g.O.Offers.told c.args.offers.now) c.args.self.now c.args.check.value c.args.task may
    c.requires.task.encodable c.requires.task.absent

pub returns-in-May-clause-own : goal.returns-in-May-clause-own
returns-in-May-clause-own g c = λ o own this. c.in_ok-push_check-in-May.ensures.own this own

pub returns-clause-own : goal.returns-clause-own
returns-clause-own g c = λ o own this. record { stack = own; turn = tt; reused = refl }

pub returns-in-May-clause-tried : goal.returns-in-May-clause-tried
returns-in-May-clause-tried g c =
    waits_tried {E = FilesError} (g.F.Files.holds c.args.files.now) (g.O.Offers.told c.args.offers.now) c.args.self.now c.push_check.new.self
    c.args.check.value c.args.task c.args.runs.now (Ok c.in_ok-push_check-in-May.field-0) c.in_ok-push_check-in-May.ensures.marks
    c.in_ok-push_check-in-May.ensures.tried

pub returns-in-Unknown-clause-tried : goal.returns-in-Unknown-clause-tried
returns-in-Unknown-clause-tried g c =
    let may : MayEnter c.args.self.now c.args.task Unknown = rw c.in-Unknown.is at c.entry.ensures in
    lost_tried (g.F.Files.holds c.args.files.now) (g.O.Offers.told c.args.offers.now) c.args.self.now c.differs.new.self c.args.check.value c.args.task
    c.args.runs.now c.differs.new.runs c.differs.result may c.requires.task.encodable c.differs.ensures.tried

pub returns-clause-tried : goal.returns-clause-tried
returns-clause-tried g c =
    full_tried (g.F.Files.holds c.args.files.now) (g.O.Offers.told c.args.offers.now) c.args.self.now c.args.check.value c.args.task c.args.runs.now
