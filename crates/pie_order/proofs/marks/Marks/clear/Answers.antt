-- Stamps of earlier rounds are no marks.
use Rattle.std.proofs.Common.{◌≡◌, ◌∙◌, ◌+◌, length, ap, sym, subst, arith, refl, replicate, false}
use Rattle.pie_graph.specs.Numbers.{AllBelow}
use Rattle.pie_order.specs.declared.marks.Marks.TheInside.{Inside}
use Rattle.pie_order.proofs.MarkSteps.{no_marks, none_below, resized_below}
use Rattle.pie_order.proofs.marks.Marks.clear.Goals as goal
use Rattle.pie_order.proofs.marks.Marks.clear.Goals.{then-self, else-self}

pub returns : goal.returns
returns c =
    let m = c.if-self.self-inside in
    let below : AllBelow (m.round + 1) m.stamps.items = elim c.if-self.branch [
      | then-self w ↦ subst (λ (n : Inside). AllBelow (n.round + 1) n.stamps.items) (sym w.self-inside-is)
          (none_below 1 w.clear.new.self.items w.clear.ensures.items)
      | else-self w ↦ subst (λ (n : Inside). AllBelow (n.round + 1) n.stamps.items) (sym w.self-inside-is) c.self.invariant
    ] in
    let size : length c.resize.new.self.items ≡ c.args.count = omega (arith, c.in_ok-resize.ensures.len, c.resize.new.self.ok) in
    let all : AllBelow (m.round + 1) c.resize.new.self.items =
    resized_below (m.round + 1) c.args.count m.stamps.items c.resize.new.self.items (omega arith) size
    (λ k d l there. c.in_ok-resize.ensures.by_index.0 k d l (omega (arith, there, m.stamps.ok)))
    (λ k d past l. c.in_ok-resize.ensures.by_index.1 k d refl (omega (arith, past, m.stamps.ok)) l) below in
    no_marks c.resize.new.self.items (m.round + 1) all ∙ ap (λ n. replicate n false) size
