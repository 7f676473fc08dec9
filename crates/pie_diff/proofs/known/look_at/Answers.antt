use Rattle.std.proofs.Common.{subst, ◌∙◌}
use Rattle.std.specs.Prelude.{IfSome}
use Rattle.pie_files.proofs.Reading.{both_before}
use Rattle.pie_diff.specs.Hashes.{hash_in}
use Rattle.pie_diff.specs.inner.Held.{SetsOut}
use Rattle.pie_diff.proofs.Adding.{look_step}
use Rattle.pie_diff.proofs.Asking.{looks_more}
use Rattle.pie_diff.proofs.known.look_at.Goals as goal

pub loop-path-preserved : goal.loop-path-preserved
loop-path-preserved g c =
    let before = c.loop-path.invariant in
    let reads = c.in_ok-look.ensures.reads in (
      reads.same ∙ before.0,
      reads.counted.steady ∙ before.1,
      both_before g.F.Files.holds g.F.Files.moment g.F.Files.left_since g.F.Files.images c.args.files.now c.loop-path.files c.look.new.files
          before.0 before.2 reads.crash,
      look_step (g.F.Files.holds c.args.files.now) c.args.held.now c.loop-path.held c.look.new.self c.args.names.now c.loop-path.path-index c.path-item.result
          c.loop-path-test.true c.path-item.is
          (subst (λ o. IfSome o (λ d. SetsOut c.loop-path.held c.look.new.self c.path-item.result (hash_in d c.path-item.result))) before.0
          c.in_ok-look.ensures.seen)
          before.3,
      looks_more c.args.names.now c.loop-path.path-index c.path-item.result (g.F.Files.asked c.args.files.now) (g.F.Files.asked c.loop-path.files)
          (g.F.Files.asked c.look.new.files) c.loop-path-test.true c.path-item.is before.4 c.look.ensures.asks,
    )

pub returns-in_err-look-clause-asks : goal.returns-in_err-look-clause-asks
returns-in_err-look-clause-asks g c =
    looks_more c.args.names.now c.loop-path.path-index c.path-item.result (g.F.Files.asked c.args.files.now) (g.F.Files.asked c.loop-path.files)
    (g.F.Files.asked c.look.new.files) c.loop-path-test.true c.path-item.is c.loop-path.invariant.4 c.look.ensures.asks
