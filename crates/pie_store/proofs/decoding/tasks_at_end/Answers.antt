use Rattle.std.proofs.Common.{◌∙◌, sym, arith}
use Rattle.pie_store.proofs.Closing.{closes_more, closes_whole}
use Rattle.pie_store.proofs.decoding.tasks_at_end.Goals as goal

pub returns-then-left-gt0-clause-fault : goal.returns-then-left-gt0-clause-fault
returns-then-left-gt0-clause-fault c = λ image.
    closes_more _ _ image (sym c.in_ok-at.ensures ∙ c.in_default.is) (omega (arith, c.if-left-gt0.true, c.left.ensures))

pub returns-clause-whole : goal.returns-clause-whole
returns-clause-whole c = λ image.
    closes_whole _ _ image (sym c.in_ok-at.ensures ∙ c.in_default.is) (omega (arith, c.if-left-gt0.false, c.left.ensures))
