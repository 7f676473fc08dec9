use Rattle.std.proofs.Common.{Some, None}
use Rattle.pie_graph.specs.Numbers.{numbers}
use Rattle.pie_fresh.proofs.CleanLemmas.{answers_same, clean_then, refused_clean}
use Rattle.pie_fresh.proofs.build.checked.Goals as goal

pub returns-in-Some-clause-stored : goal.returns-in-Some-clause-stored
returns-in-Some-clause-stored c = c.refused.ensures.stored c.args.ledger.now.names c.args.roots.now

pub returns-in-Some-clause-clean : goal.returns-in-Some-clause-clean
returns-in-Some-clause-clean c =
    refused_clean c.args.ledger.now c.args.roots.now (numbers c.in_ok-live.live.items) c.in-Some.refusal c.refused.result c.refused.ensures.verdict
    c.refused.ensures.refused_empty c.in_ok-live.ensures.live
    (answers_same c.args.ledger.now c.as_slice.result.now c.in_ok-live.live.items c.in_ok-refusal.field-0 (Some c.in-Some.refusal) c.as_slice.ensures.value
    c.in-Some.is c.in_ok-refusal.ensures)

pub returns-clause-clean : goal.returns-clause-clean
returns-clause-clean c =
    clean_then c.args.ledger.now c.args.roots.now c.accepted.result (record {
      live = numbers c.in_ok-live.live.items;
      all = c.in_ok-live.ensures.live;
      passes = answers_same c.args.ledger.now c.as_slice.result.now c.in_ok-live.live.items c.in_ok-refusal.field-0 None c.as_slice.ensures.value c.in-None.is
          c.in_ok-refusal.ensures;
    }) c.accepted.ensures.clean
