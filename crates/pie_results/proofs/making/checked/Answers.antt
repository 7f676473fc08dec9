use Rattle.std.proofs.Common.{◌≡◌, List, Some, None, sym, subst, rules}
use Rattle.pie_graph.specs.declared.edges.TaskNo.{TaskNo}
use Rattle.pie_graph.specs.Numbers.{numbers}
use Rattle.pie_results.specs.inner.Made.{Collects}
use Rattle.pie_results.specs.inner.Stored.{StoredWhere}
use Rattle.pie_results.proofs.Deciding.{found_of}
use Rattle.pie_results.proofs.Storing.{can_be_stored}
use Rattle.pie_results.proofs.making.checked.Goals as goal

pub returns-in-Some-clause-checks : goal.returns-in-Some-clause-checks
returns-in-Some-clause-checks g c =
    let why : c.in_ok-refusal.field-0 ≡ Some c.in-Some.refusal = search rules in
    record {
      live = numbers c.in_ok-live.live.items;
      are = c.in_ok-live.ensures.live;
      answer = Some c.in-Some.refusal;
      found = found_of c.args.tables.now c.as_slice.result.now c.in_ok-live.live.items c.in_ok-refusal.field-0 (Some c.in-Some.refusal) c.as_slice.ensures.value
          why c.in_ok-refusal.ensures;
      ends = c.refused.ensures.verdict;
    }

pub returns-clause-checks : goal.returns-clause-checks
returns-clause-checks g c =
    let none : c.in_ok-refusal.field-0 ≡ None = search rules in
    record {
      live = numbers c.in_ok-live.live.items;
      are = c.in_ok-live.ensures.live;
      answer = None;
      found = found_of c.args.tables.now c.as_slice.result.now c.in_ok-live.live.items c.in_ok-refusal.field-0 None c.as_slice.ensures.value none
          c.in_ok-refusal.ensures;
      ends = subst (λ (ns : List TaskNo).
          Collects c.args.tables.now (g.R.TaskRows.rows c.args.rows.now) c.args.stage.now c.args.roots.now (numbers ns) c.in_ok-built-in-None.built)
          c.as_slice-in-None.ensures.value c.in_ok-built-in-None.ensures.collects;
    }

pub returns-clause-stored : goal.returns-clause-stored
returns-clause-stored g c = λ ended.
    let live = numbers c.in_ok-live.live.items in
    let rows = g.R.TaskRows.rows c.args.rows.now in
    let built = c.in_ok-built-in-None.built in
    let made : Collects c.args.tables.now rows c.args.stage.now c.args.roots.now live built =
    subst (λ (ns : List TaskNo). Collects c.args.tables.now rows c.args.stage.now c.args.roots.now (numbers ns) built)
    c.as_slice-in-None.ensures.value c.in_ok-built-in-None.ensures.collects in
    subst (λ v. StoredWhere v c.args.tables.now.names c.args.roots.now built) (sym made.accepts)
    (can_be_stored c.args.tables.now rows c.args.stage.now c.args.roots.now live built c.requires.tables c.as_slice-names.ensures.distinct
    c.as_slice-names.ensures.canonical c.requires.rows c.in_ok-live.ensures.below c.in_ok-live.ensures.live made ended)
