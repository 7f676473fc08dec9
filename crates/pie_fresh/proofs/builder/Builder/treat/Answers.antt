use Rattle.std.proofs.Common.{refl, subst}
use Rattle.pie_fresh.specs.inner.Means.{IsAsking}
use Rattle.std.proofs.Common.{arith}
use Rattle.pie_fresh.proofs.Growing.{started_same, starts_same}
use Rattle.pie_fresh.proofs.Leaving.{if_ok}
use Rattle.pie_fresh.proofs.Stepping.{answered_steps, stopped_steps, written_steps}
use Rattle.pie_files.proofs.Reading.{reads}
use Rattle.pie_fresh.specs.inner.Asked.{IsAskedBy}
use Rattle.pie_fresh.proofs.Asking.{asks_none}
use Rattle.pie_fresh.proofs.builder.Builder.treat.Goals as goal

pub returns-in-Write-clause-means : goal.returns-in-Write-clause-means
returns-in-Write-clause-means g c = λ s held A.
    c.in_ok-write-in-Write.ensures.means s (subst (IsAsking s c.args.self.now c.args.waiting) c.in-Write.is A)

pub returns-in-Require-clause-means : goal.returns-in-Require-clause-means
returns-in-Require-clause-means g c = λ s held A.
    c.in_ok-require-in-Require.ensures.means s (subst (IsAsking s c.args.self.now c.args.waiting) c.in-Require.is A)

pub returns-in-Exists-clause-steps : goal.returns-in-Exists-clause-steps
returns-in-Exists-clause-steps g c =
    if_ok _ _ c.exists.result (λ t. answered_steps c.args.self.now c.args.waiting t c.requires.awaits) c.exists.ensures.answered

pub returns-in-Exists-clause-started : goal.returns-in-Exists-clause-started
returns-in-Exists-clause-started g c = started_same _ _ _ _ _ refl refl

pub returns-in-Exists-clause-reads : goal.returns-in-Exists-clause-reads
returns-in-Exists-clause-reads g c = grind (arith, reads)

pub returns-in-Read-clause-steps : goal.returns-in-Read-clause-steps
returns-in-Read-clause-steps g c =
    if_ok _ _ c.read.result (λ t. answered_steps c.args.self.now c.args.waiting t c.requires.awaits) c.read.ensures.answered

pub returns-in-Read-clause-started : goal.returns-in-Read-clause-started
returns-in-Read-clause-started g c = started_same _ _ _ _ _ refl refl

pub returns-in-Read-clause-reads : goal.returns-in-Read-clause-reads
returns-in-Read-clause-reads g c = grind (arith, reads)

pub returns-in-Digest-clause-steps : goal.returns-in-Digest-clause-steps
returns-in-Digest-clause-steps g c =
    if_ok _ _ c.digest.result (λ t. answered_steps c.args.self.now c.args.waiting t c.requires.awaits) c.digest.ensures.answered

pub returns-in-Digest-clause-started : goal.returns-in-Digest-clause-started
returns-in-Digest-clause-started g c = started_same _ _ _ _ _ refl refl

pub returns-in-Digest-clause-reads : goal.returns-in-Digest-clause-reads
returns-in-Digest-clause-reads g c = grind (arith, reads)

pub returns-in-List-clause-steps : goal.returns-in-List-clause-steps
returns-in-List-clause-steps g c =
    if_ok _ _ c.list.result (λ t. answered_steps c.args.self.now c.args.waiting t c.requires.awaits) c.list.ensures.answered

pub returns-in-List-clause-started : goal.returns-in-List-clause-started
returns-in-List-clause-started g c = started_same _ _ _ _ _ refl refl

pub returns-in-List-clause-reads : goal.returns-in-List-clause-reads
returns-in-List-clause-reads g c = grind (arith, reads)

pub returns-in-Write-clause-steps : goal.returns-in-Write-clause-steps
returns-in-Write-clause-steps g c =
    written_steps c.args.self.now c.write.new.self c.args.waiting _ c.write.ensures.stages c.requires.awaits c.in_ok-write-in-Write.ensures.answered

pub returns-in-Write-clause-started : goal.returns-in-Write-clause-started
returns-in-Write-clause-started g c = started_same _ _ _ _ _ c.write.ensures.stages.names refl

pub returns-in-Write-clause-reads : goal.returns-in-Write-clause-reads
returns-in-Write-clause-reads g c = grind (arith, reads)

pub returns-in_err-write-in-Write-clause-started : goal.returns-in_err-write-in-Write-clause-started
returns-in_err-write-in-Write-clause-started g c = started_same _ _ _ _ _ c.write.ensures.stages.names refl

pub returns-in_err-write-in-Write-clause-reads : goal.returns-in_err-write-in-Write-clause-reads
returns-in_err-write-in-Write-clause-reads g c = grind (arith, reads)

pub returns-in-Require-clause-steps : goal.returns-in-Require-clause-steps
returns-in-Require-clause-steps g c = c.in_ok-require-in-Require.ensures.steps

pub returns-in-Require-clause-started : goal.returns-in-Require-clause-started
returns-in-Require-clause-started g c = record {
  enters = c.require.ensures.started.enters;
  starts = c.in_ok-require-in-Require.ensures.started.starts;
}

pub returns-in-Require-clause-reads : goal.returns-in-Require-clause-reads
returns-in-Require-clause-reads g c = grind (arith, reads)

pub returns-in_err-require-in-Require-clause-started : goal.returns-in_err-require-in-Require-clause-started
returns-in_err-require-in-Require-clause-started g c = record { enters = c.require.ensures.started.enters; starts = grind (arith, starts_same) }

pub returns-in_err-require-in-Require-clause-reads : goal.returns-in_err-require-in-Require-clause-reads
returns-in_err-require-in-Require-clause-reads g c = grind (arith, reads)

pub returns-clause-steps : goal.returns-clause-steps
returns-clause-steps g c = stopped_steps _ c.args.self.now c.failed.result _ c.failed.ensures

pub returns-clause-started : goal.returns-clause-started
returns-clause-started g c = started_same _ _ _ _ _ refl refl

pub returns-clause-reads : goal.returns-clause-reads
returns-clause-reads g c = grind (arith, reads)

pub returns-clause-asks : goal.returns-clause-asks
returns-clause-asks g c =
    asks_none (IsAskedBy c.args.event) (g.F.Files.asked c.args.files.now)

pub returns-in-Write-clause-asks : goal.returns-in-Write-clause-asks
returns-in-Write-clause-asks g c =
    asks_none (IsAskedBy c.args.event) (g.F.Files.asked c.args.files.now)

pub returns-in-Require-clause-asks : goal.returns-in-Require-clause-asks
returns-in-Require-clause-asks g c =
    asks_none (IsAskedBy c.args.event) (g.F.Files.asked c.args.files.now)

pub returns-in_err-write-in-Write-clause-asks : goal.returns-in_err-write-in-Write-clause-asks
returns-in_err-write-in-Write-clause-asks g c =
    asks_none (IsAskedBy c.args.event) (g.F.Files.asked c.args.files.now)

pub returns-in_err-require-in-Require-clause-asks : goal.returns-in_err-require-in-Require-clause-asks
returns-in_err-require-in-Require-clause-asks g c =
    asks_none (IsAskedBy c.args.event) (g.F.Files.asked c.args.files.now)
