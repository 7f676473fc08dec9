use Rattle.std.proofs.Common.{sym, refl, ◌∙◌}
use Rattle.std.proofs.lemmas.Bool.{false≢true}
use Rattle.pie_commit.proofs.Others.{keeps_same}
use Rattle.pie_commit.proofs.sequence.commit.Goals as goal

pub returns-then-is_empty-clause-outside : goal.returns-then-is_empty-clause-outside
returns-then-is_empty-clause-outside g c = keeps_same c.args.plan.now (g.F.Files.holds c.args.files.now) (g.F.Files.holds c.args.files.now) refl

pub returns-then-is_empty-clause-ends : goal.returns-then-is_empty-clause-ends
returns-then-is_empty-clause-ends g c = record { durable = λ some. absurd (false≢true (sym some ∙ sym c.is_empty.ensures ∙ c.if-is_empty.true)); failed = tt }

pub returns-clause-ends : goal.returns-clause-ends
returns-clause-ends g c = record { durable = λ some. c.commit_all.ensures.durable; failed = c.commit_all.ensures.failed }
