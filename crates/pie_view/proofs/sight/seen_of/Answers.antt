use Rattle.std.proofs.Common.{Bool, List, refl, subst}
use Rattle.pie_graph.specs.Numbers.{numbers}
use Rattle.pie_view.specs.Seen.{IsOnly, Marked}
use Rattle.pie_view.proofs.Sights.{one_unmet, seen_by_marks}
use Rattle.pie_view.proofs.sight.seen_of.Goals as goal

pub returns-else-branch : goal.returns-else-branch
returns-else-branch g c =
    one_unmet (g.R.TaskRows.rows c.args.rows.now) (numbers c.args.required.now) c.args.writers.now _
    (record { 0 = 0 }) c.in_ok-reached-in-len1.field-0 c.in-len1.len_below refl c.if-branch.false c.in_ok-reached-in-len1.ensures

pub returns-in_ok-marks-in_default : goal.returns-in_ok-marks-in_default
returns-in_ok-marks-in_default g c =
    let writers = numbers c.args.writers.now in
    seen_by_marks (g.R.TaskRows.rows c.args.rows.now) (numbers c.args.required.now) writers c.in_ok-marks-in_default.marks.items c.among.result
    c.in_ok-marks-in_default.ensures
    (subst (λ (marks : List Bool). IsOnly (Marked writers marks) c.among.result) c.deref.ensures.value c.among.ensures)
