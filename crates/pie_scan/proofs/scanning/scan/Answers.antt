use Rattle.std.proofs.Common.{◌≡◌, subst}
use Rattle.std.specs.Prelude.{IfSome}
use Rattle.std.specs.List.{filter_map}
use Rattle.pie_scan.specs.Scanned.{entry_in}
use Rattle.pie_scan.proofs.Looking.{scanned_if}
use Rattle.std.proofs.Common.{arith}
use Rattle.pie_files.proofs.Reading.{reads}
use Rattle.pie_scan.proofs.scanning.scan.Goals as goal

pub returns-clause-scanned : goal.returns-clause-scanned
returns-clause-scanned g c =
    let paths = c.in_ok-paths.ensures in
    scanned_if (g.F.Files.holds c.args.files.now) c.args.tops.now c.in_ok-paths.paths.items c.in_ok-entries.entries.items paths.ordered paths.found
    (subst (λ o. IfSome o (λ d. c.in_ok-entries.entries.items ≡ filter_map (entry_in d) c.in_ok-paths.paths.items)) paths.reads.same
    (subst (λ l. IfSome (g.F.Files.holds c.candidates.new.files) (λ d. c.in_ok-entries.entries.items ≡ filter_map (entry_in d) l)) c.as_slice.ensures.value
    c.in_ok-entries.ensures.read))

pub returns-clause-reads : goal.returns-clause-reads
returns-clause-reads g c = grind (arith, reads)

pub returns-in_err-entries-clause-reads : goal.returns-in_err-entries-clause-reads
returns-in_err-entries-clause-reads g c = grind (arith, reads)

pub returns-in_err-paths-clause-reads : goal.returns-in_err-paths-clause-reads
returns-in_err-paths-clause-reads g c = grind (arith, reads)
