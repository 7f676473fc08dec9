use Rattle.std.proofs.Common.{◌∙◌, sym, List, length, subst}
use Rattle.pie_graph.specs.declared.edges.TaskNo.{TaskNo}
use Rattle.pie_graph.specs.Numbers.{numbers, AllBelow}
use Rattle.pie_view.specs.Seen.{IsOnly, Reached}
use Rattle.pie_view.proofs.Sights.{has_own, own_has, writers_below, seen_by_all}
use Rattle.pie_view.proofs.sight.view.Goals as goal

pub returns-then-wrote-clause-others : goal.returns-then-wrote-clause-others
returns-then-wrote-clause-others g c = λ none. absurd (none (has_own c.args.own.now c.args.path.now (sym c.wrote.ensures ∙ c.if-wrote.true)))

pub seen_of-requires-clause-writers : goal.seen_of-requires-clause-writers
seen_of-requires-clause-writers g c =
    let rows = g.R.TaskRows.rows c.args.rows.now in
    subst (λ (ts : List TaskNo). AllBelow (length rows) (numbers ts)) (sym c.deref.ensures.value)
    (writers_below rows c.args.path.now (numbers c.in_ok-writers.writers.items) c.in_ok-writers.ensures)

pub returns-clause-own : goal.returns-clause-own
returns-clause-own g c = λ own. absurd (let there = own_has c.args.own.now c.args.path.now own in let off = sym c.wrote.ensures ∙ c.if-wrote.false in cc)

pub returns-clause-others : goal.returns-clause-others
returns-clause-others g c = λ none.
    let rows = g.R.TaskRows.rows c.args.rows.now in
    let required = numbers c.args.required.now in
    seen_by_all rows required c.args.path.now (numbers c.in_ok-writers.writers.items) c.in_ok-seen.seen c.in_ok-writers.ensures
    (subst (λ (ts : List TaskNo). IsOnly (Reached rows required (numbers ts)) c.in_ok-seen.seen) c.deref.ensures.value c.in_ok-seen.ensures)
