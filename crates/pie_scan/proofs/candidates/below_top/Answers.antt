use Rattle.std.proofs.Common.{arith}
use Rattle.pie_files.proofs.Reading.{reads}
use Rattle.pie_scan.proofs.candidates.below_top.Goals as goal

pub returns-clause-reads : goal.returns-clause-reads
returns-clause-reads g c = grind (arith, reads)

pub returns-in_err-note-clause-reads : goal.returns-in_err-note-clause-reads
returns-in_err-note-clause-reads g c = grind (arith, reads)

pub returns-in_err-note_all-clause-reads : goal.returns-in_err-note_all-clause-reads
returns-in_err-note_all-clause-reads g c = grind (arith, reads)

pub returns-in_err-paths-clause-reads : goal.returns-in_err-paths-clause-reads
returns-in_err-paths-clause-reads g c = grind (arith, reads)
