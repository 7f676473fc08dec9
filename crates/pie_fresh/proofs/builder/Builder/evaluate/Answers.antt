use Rattle.std.proofs.Common.{refl, subst}
use Rattle.pie_record.specs.inner.Names.{Numbers}
use Rattle.pie_fresh.proofs.Rooting.{known_rests}
use Rattle.std.proofs.Common.{arith}
use Rattle.pie_fresh.proofs.Growing.{started_same}
use Rattle.pie_files.proofs.Reading.{reads}
use Rattle.pie_fresh.proofs.AskingSince.{begin_asks_none}
use Rattle.pie_fresh.proofs.builder.Builder.evaluate.Goals as goal

pub returns-in-Some-clause-means : goal.returns-in-Some-clause-means
returns-in-Some-clause-means g c = λ _.
    known_rests (g.F.Files.holds c.args.files.now) c.args.self.now c.args.root.now c.in-Some.field-0.0
    (subst (Numbers c.args.self.now.ledger.names c.args.root.now) c.in-Some.is c.in_ok-number.ensures)

pub returns-in-Some-clause-reads : goal.returns-in-Some-clause-reads
returns-in-Some-clause-reads g c = grind (arith, reads)

pub returns-in_err-copy-clause-started : goal.returns-in_err-copy-clause-started
returns-in_err-copy-clause-started g c = started_same _ _ _ _ _ refl refl

pub returns-in_err-copy-clause-reads : goal.returns-in_err-copy-clause-reads
returns-in_err-copy-clause-reads g c = grind (arith, reads)

pub returns-in_err-number-clause-started : goal.returns-in_err-number-clause-started
returns-in_err-number-clause-started g c = started_same _ _ _ _ _ refl refl

pub returns-in_err-number-clause-reads : goal.returns-in_err-number-clause-reads
returns-in_err-number-clause-reads g c = grind (arith, reads)

pub returns-then-not-is_small-clause-started : goal.returns-then-not-is_small-clause-started
returns-then-not-is_small-clause-started g c = started_same _ _ _ _ _ refl refl

pub returns-then-not-is_small-clause-reads : goal.returns-then-not-is_small-clause-reads
returns-then-not-is_small-clause-reads g c = grind (arith, reads)

pub returns-in-Some-clause-asks : goal.returns-in-Some-clause-asks
returns-in-Some-clause-asks g c =
    begin_asks_none (g.F.Files.holds c.args.files.now) c.args.self.now c.args.root.now c.args.runs.now c.args.runs.now (g.F.Files.asked c.args.files.now)

pub returns-in_err-copy-clause-asks : goal.returns-in_err-copy-clause-asks
returns-in_err-copy-clause-asks g c =
    begin_asks_none (g.F.Files.holds c.args.files.now) c.args.self.now c.args.root.now c.args.runs.now c.args.runs.now (g.F.Files.asked c.args.files.now)

pub returns-in_err-number-clause-asks : goal.returns-in_err-number-clause-asks
returns-in_err-number-clause-asks g c =
    begin_asks_none (g.F.Files.holds c.args.files.now) c.args.self.now c.args.root.now c.args.runs.now c.args.runs.now (g.F.Files.asked c.args.files.now)

pub returns-then-not-is_small-clause-asks : goal.returns-then-not-is_small-clause-asks
returns-then-not-is_small-clause-asks g c =
    begin_asks_none (g.F.Files.holds c.args.files.now) c.args.self.now c.args.root.now c.args.runs.now c.args.runs.now (g.F.Files.asked c.args.files.now)
