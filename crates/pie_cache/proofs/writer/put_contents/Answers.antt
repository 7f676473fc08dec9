use Rattle.std.proofs.Common.{ℕ, List, Vec, Global, ◌++◌, ap, ◌∙◌}
use Rattle.pie_value.specs.Canonical.{counted}
use Rattle.pie_record.proofs.Writing.{grown}
use Rattle.pie_cache.proofs.writer.put_contents.Goals as goal

pub loop-content-preserved : goal.loop-content-preserved
loop-content-preserved c =
    grown (λ (v : Vec ℕ Global). counted v.items) _ _ c.content-item.result _ _ _ c.loop-content-test.true c.content-item.is
    (c.in_ok-put_counted.ensures ∙ ap (λ (b : List ℕ). c.loop-content.out.items ++ counted b) c.as_slice.ensures.value) c.loop-content.invariant
