use Rattle.std.proofs.Common.{◌∙◌}
use Rattle.pie_files.proofs.Reading.{both_before}
use Rattle.pie_topdown.proofs.Writing.{found_more, found_all, found_gone, found_other, none_gone}
use Rattle.pie_topdown.proofs.writes.writes_stand.Goals as goal

pub loop-write-preserved : goal.loop-write-preserved
loop-write-preserved g c =
    let before = c.loop-write.invariant in (
      c.write_stands.ensures.reads.same ∙ before.0,
      c.in_ok-write_stands.ensures.reads.counted.steady ∙ before.1,
      both_before g.F.Files.holds g.F.Files.moment g.F.Files.left_since g.F.Files.images c.args.files.now c.loop-write.files c.write_stands.new.files
          before.0 before.2 c.write_stands.ensures.reads.crash,
      found_more (g.F.Files.holds c.args.files.now) (g.F.Files.holds c.loop-write.files) c.args.named.now c.loop-write.named c.write_stands.new.named c.args.writes.now
          c.loop-write.write-index c.write-item.result c.in_ok-write_stands.field-0 before.0 before.3 c.loop-write-test.true c.write-item.is c.if-not-branch.false
          c.in_ok-write_stands.ensures.there,
    )

pub returns-then-not-branch-clause-there : goal.returns-then-not-branch-clause-there
returns-then-not-branch-clause-there g c =
    found_other (g.F.Files.holds c.args.files.now) (g.F.Files.holds c.loop-write.files) c.args.named.now c.loop-write.named c.write_stands.new.named
    c.args.writes.now c.loop-write.write-index c.write-item.result c.in_ok-write_stands.field-0 c.loop-write.invariant.0 c.loop-write.invariant.3
    c.in_ok-write_stands.ensures.there

pub returns-clause-there : goal.returns-clause-there
returns-clause-there g c =
    found_all (g.F.Files.holds c.args.files.now) c.args.named.now c.loop-write.named c.args.writes.now c.loop-write.write-index c.loop-write-test.false
    c.loop-write.invariant.3

pub returns-then-not-branch-clause-gone : goal.returns-then-not-branch-clause-gone
returns-then-not-branch-clause-gone g c =
    found_gone (g.F.Files.holds c.args.files.now) (g.F.Files.holds c.loop-write.files) c.args.named.now c.loop-write.named c.args.writes.now c.loop-write.write-index
    c.write-item.result c.in_ok-write_stands.field-0 c.loop-write.invariant.0 c.loop-write.invariant.3 c.loop-write-test.true c.write-item.is c.if-not-branch.true
    c.in_ok-write_stands.ensures.gone

pub returns-clause-gone : goal.returns-clause-gone
returns-clause-gone g c = none_gone (g.F.Files.holds c.args.files.now) c.args.named.now c.args.writes.now
