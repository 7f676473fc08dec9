use Rattle.std.proofs.Common.{rules, ◌≡◌, [], ◌∷◌, ◌++◌, Err, ◌∙◌, subst}
use Rattle.std.specs.Prelude.{IfSome, map}
use Rattle.std.specs.List.{flat_map}
use Rattle.pie_files.specs.declared.files.Call.TheVariants.{AllUnder}
use Rattle.pie_files.specs.Reading.{ReadsOnly}
use Rattle.pie_files.proofs.Reading.{both_before}
use Rattle.pie_scan.specs.Scanned.{found_below}
use Rattle.pie_scan.proofs.Growing.{if_goes_on, flat_step, asks_on, map_step, reads_fail}
use Rattle.std.proofs.Common.{arith}
use Rattle.pie_files.proofs.Reading.{reads}
use Rattle.pie_scan.proofs.candidates.below_tops.Goals as goal

pub loop-top-preserved : goal.loop-top-preserved
loop-top-preserved g c =
    let before = c.loop-top.invariant in
    let e = c.in_ok-below_top.ensures in (
      e.reads.same ∙ before.0,
      e.reads.counted.steady ∙ before.1,
      both_before g.F.Files.holds g.F.Files.moment g.F.Files.left_since g.F.Files.images c.args.files.now c.loop-top.files c.below_top.new.files
          before.0 before.2 e.reads.crash,
      if_goes_on (g.F.Files.holds c.args.files.now) (λ d. flat_map (found_below d)) (λ d. found_below d) (λ d. flat_step (found_below d))
          c.args.tops.now c.loop-top.top-index c.top-item.result c.loop-top.found.items c.below_top.new.found.items (λ d. c.args.found.now.items ++ flat_map (found_below d) c.args.tops.now)
          c.loop-top-test.true c.top-item.is
          (subst (λ o. IfSome o (λ d. c.below_top.new.found.items ≡ c.loop-top.found.items ++ found_below d c.top-item.result)) before.0 e.found)
          before.3,
      asks_on (map (λ top. AllUnder top)) (λ top. AllUnder top ∷ []) (map_step (λ top. AllUnder top)) _ _ _ _ _ _ c.loop-top-test.true c.top-item.is before.4 e.asks,
    )

pub returns-in_err-below_top-clause-reads : goal.returns-in_err-below_top-clause-reads
returns-in_err-below_top-clause-reads g c =
    let before = c.loop-top.invariant in
    let e = c.in_err-below_top.field-0.0 in
    let failed : Err e ≡ c.from_residual.result = search rules in
    subst (ReadsOnly g.F.Files.holds g.F.Files.moment g.F.Files.left_since g.F.Files.images g.F.Files.faults c.args.files.now c.below_top.new.files) failed
    (reads_fail g.F.Files.holds g.F.Files.moment g.F.Files.left_since g.F.Files.images g.F.Files.faults c.args.files.now c.loop-top.files c.below_top.new.files e
    before.0 before.1 before.2 c.in_err-below_top.ensures.reads)

pub returns-clause-reads : goal.returns-clause-reads
returns-clause-reads g c = grind (arith, reads)
