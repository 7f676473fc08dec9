use Rattle.std.proofs.Common.{List, ℕ, length, sym, subst}
use Rattle.pie_graph.specs.declared.edges.TaskNo.{TaskNo}
use Rattle.pie_graph.specs.Numbers.{numbers, AllBelow, Exactly}
use Rattle.pie_reach.specs.inner.Reaches.{ReachedFrom}
use Rattle.pie_results.proofs.Starting.{live_below, starts_below}
use Rattle.pie_results.proofs.making.live_of.Goals as goal

pub live-requires : goal.live-requires
live-requires g c =
    subst (λ (ns : List TaskNo). AllBelow (length (g.R.TaskRows.rows c.args.rows.now)) (numbers ns)) (sym c.as_slice.ensures.value)
    (subst (λ (n : ℕ). AllBelow n (numbers c.in_ok-starts.starts.items)) c.requires.rows
    (starts_below c.args.tables.now.names c.args.roots.now (numbers c.in_ok-starts.starts.items) c.in_ok-starts.ensures))

pub returns-clause-live : goal.returns-clause-live
returns-clause-live g c = record {
  starts = numbers c.in_ok-starts.starts.items;
  are = c.in_ok-starts.ensures;
  exactly = subst (λ (ns : List TaskNo). Exactly (ReachedFrom (g.R.TaskRows.rows c.args.rows.now) (numbers ns)) (numbers c.in_ok-live.live.items))
      c.as_slice.ensures.value c.in_ok-live.ensures;
}

pub returns-clause-below : goal.returns-clause-below
returns-clause-below g c =
    live_below c.args.tables.now.names c.args.roots.now (g.R.TaskRows.rows c.args.rows.now) (numbers c.in_ok-starts.starts.items)
    (numbers c.in_ok-live.live.items) c.requires.rows c.count-count.ensures.needs_below c.in_ok-starts.ensures
    (subst (λ (ns : List TaskNo). Exactly (ReachedFrom (g.R.TaskRows.rows c.args.rows.now) (numbers ns)) (numbers c.in_ok-live.live.items))
    c.as_slice.ensures.value c.in_ok-live.ensures)
