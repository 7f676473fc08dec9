use Rattle.pie_value.proofs.SizeLemmas.{measures_grow}
use Rattle.pie_value.proofs.value.Items.push.Goals as goal

pub invariant_of-self-2 : goal.invariant_of-self-2
invariant_of-self-2 c =
    rw (c.in_ok-append.ensures.pushed, c.saturating_add-bytes.ensures, c.size.ensures.size, c.deeper-deepest.ensures, c.depth.ensures)
    (measures_grow _ _ _ _ c.self.invariant)
