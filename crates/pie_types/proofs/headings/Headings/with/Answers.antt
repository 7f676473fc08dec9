use Rattle.std.proofs.Common.{rules}
use Rattle.pie_types.proofs.Found.{one_more_place}
use Rattle.pie_types.proofs.headings.Headings.with.Goals as goal

pub invariant_of-result : goal.invariant_of-result
invariant_of-result c = λ q. rw (c.in_ok-push.ensures.items)
    (one_more_place c.self.inside.numbers c.note.new.numbers c.self.inside.rows.items c.args.heading c.in-Ok.number c.as_str.result.now c.as_str.ensures
    (search rules) c.self.invariant c.in_ok-note.ensures q)
