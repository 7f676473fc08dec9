use Rattle.std.proofs.Common.{◌≡◌, ◌∙◌, ℕ, List, drop, ap, subst}
use Rattle.std.specs.List.{Contains}
use Rattle.pie_graph.specs.Numbers.{numbers}
use Rattle.pie_graph.specs.Rows.{Row, row_at, row_of}
use Rattle.pie_walk.specs.States.{settled, with_row}
use Rattle.pie_frames.proofs.Handing.{finished_rests}
use Rattle.pie_frames.proofs.Rest.{numbers_from, in_rest, is_row_from}
use Rattle.pie_frames.proofs.frames.Frames.finish.Goals as goal
use Rattle.pie_frames.proofs.frames.Frames.finish.Goals.{In_ok-needs}

needs : (c : In_ok-needs) → numbers c.in_ok-needs.needs.items ≡ drop c.args.from (row_at c.args.self.now.walk.rows c.args.no.0).needs
needs c = numbers_from c.args.from c.callees.result.now c.in_ok-needs.needs.items (row_at c.args.self.now.walk.rows c.args.no.0).needs c.in_ok-needs.ensures
    (c.callees.ensures.callees ∙ ap (λ (rows : List Row). (row_at rows c.args.no.0).needs) c.rows.ensures)

pub finish-requires-clause-needs : goal.finish-requires-clause-needs
finish-requires-clause-needs c = λ k h.
    in_rest c.args.from (row_at c.args.self.now.walk.rows c.args.no.0).needs k
    (subst (λ (ns : List ℕ). Contains ns k) (needs (goal.at.finish-requires-clause-needs c).In_ok-needs) h)

pub returns-clause-finished : goal.returns-clause-finished
returns-clause-finished c =
    c.in_ok-finish.ensures.finished ∙ ap (λ (row : Row). settled (with_row c.args.self.now.walk c.args.no.0 row) c.args.no.0)
    (is_row_from (row_at c.args.self.now.walk.rows c.args.no.0) c.args.from (numbers c.in_ok-needs.needs.items) c.new.result.items c.new-2.result.items
    c.args.writes.items (needs (goal.at.returns-clause-finished c).In_ok-needs) c.new.ensures.items c.new-2.ensures.items)

pub returns-clause-rests : goal.returns-clause-rests
returns-clause-rests c =
    finished_rests c.args.self.now c.finish.new.self c.args.no (row_of (record { needs = c.in_ok-needs.needs; reads = c.new.result; lists = c.new-2.result; writes = c.args.writes }))
    c.requires c.in_ok-finish.ensures.stands c.in_ok-finish.ensures.finished c.in_ok-finish.ensures.counts
