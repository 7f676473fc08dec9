use Rattle.std.proofs.Common.{sym, List, length, subst}
use Rattle.pie_graph.specs.declared.edges.TaskNo.{TaskNo}
use Rattle.pie_graph.specs.Numbers.{numbers, AllBelow}
use Rattle.pie_graph.specs.Rows.{Row}
use Rattle.pie_view.specs.declared.seen.Seen.TheVariants.{By}
use Rattle.pie_view.specs.Seen.{IsOnly, Reached, Visible}
use Rattle.pie_view.proofs.Sights.{writers_below, seen_by_all}
use Rattle.pie_view.proofs.entered.EnteredRows.seen.Goals as goal

pub returns-in-Some : goal.returns-in-Some
returns-in-Some c =
    let rows = c.self.inside.rows in
    let required = numbers c.args.required.now in
    let by = By c.in-Some.one in
    subst (λ (rs : List Row). IsOnly (Visible rs required c.args.path.now) by) c.self.view_is
    (seen_by_all rows required c.args.path.now (numbers c.in_ok-writers.writers.items) by c.in_ok-writers.ensures
    (subst (λ (rs : List Row). IsOnly (Reached rs required (numbers c.in_ok-writers.writers.items)) by) (sym c.self.view_is)
    (subst (λ (ts : List TaskNo). IsOnly (Reached c.args.self.now required (numbers ts)) by) c.deref.ensures.value c.in-Some.ensures)))

pub seen_of-requires-clause-writers : goal.seen_of-requires-clause-writers
seen_of-requires-clause-writers c =
    let rows = c.self.inside.rows in
    subst (λ (ts : List TaskNo). AllBelow (length rows) (numbers ts)) (sym c.deref-2.ensures.value)
    (writers_below rows c.args.path.now (numbers c.in_ok-writers.writers.items) c.in_ok-writers.ensures)

pub returns : goal.returns
returns c =
    let rows = c.self.inside.rows in
    let required = numbers c.args.required.now in
    subst (λ (rs : List Row). IsOnly (Visible rs required c.args.path.now) c.in_ok-seen.seen) c.self.view_is
    (seen_by_all rows required c.args.path.now (numbers c.in_ok-writers.writers.items) c.in_ok-seen.seen c.in_ok-writers.ensures
    (subst (λ (ts : List TaskNo). IsOnly (Reached rows required (numbers ts)) c.in_ok-seen.seen) c.deref-2.ensures.value c.in_ok-seen.ensures))
