use Rattle.std.proofs.Common.{◌∙◌}
use Rattle.pie_files.proofs.Reading.{both_before}
use Rattle.pie_bottomup.proofs.FirstStep.{tested_on, due_more}
use Rattle.pie_bottomup.proofs.Asking.{tests_more}
use Rattle.pie_bottomup.proofs.Holding.{learns_on, held_more, only_on}
use Rattle.pie_bottomup.proofs.state.Core.test_all.Goals as goal

pub loop-n-preserved : goal.loop-n-preserved
loop-n-preserved g c =
    let before = c.loop-n.invariant in
    let more = c.in_ok-test.ensures in (
      tested_on c.args.self.now c.loop-n.self c.test.new.self before.0 more.tested,
      due_more c.loop-n.self c.test.new.self c.loop-n.n more.tested before.1 more.due,
      before.2,
      c.test.ensures.reads.same ∙ before.3,
      more.reads.counted.steady ∙ before.4,
      both_before g.F.Files.holds g.F.Files.moment g.F.Files.left_since g.F.Files.images c.args.files.now c.loop-n.files c.test.new.files before.3 before.5
          c.test.ensures.reads.crash,
      learns_on c.args.self.now c.loop-n.self c.test.new.self before.6 more.learns.learns,
      held_more (g.F.Files.holds c.args.files.now) (g.F.Files.holds c.loop-n.files) c.args.self.now c.loop-n.self c.test.new.self c.loop-n.n before.3
          more.learns.learns before.7 more.held,
      only_on c.args.self.now c.loop-n.self c.test.new.self before.8 more.learns.only,
      tests_more c.args.self.now.named c.loop-n.self.named (g.F.Files.asked c.args.files.now) (g.F.Files.asked c.loop-n.files)
          (g.F.Files.asked c.test.new.files) before.6.names before.9 c.test.ensures.asks,
    )

pub returns-in_err-test-clause-asks : goal.returns-in_err-test-clause-asks
returns-in_err-test-clause-asks g c =
    let before = c.loop-n.invariant in
    tests_more c.args.self.now.named c.loop-n.self.named (g.F.Files.asked c.args.files.now) (g.F.Files.asked c.loop-n.files) (g.F.Files.asked c.test.new.files)
    before.6.names before.9 c.test.ensures.asks
