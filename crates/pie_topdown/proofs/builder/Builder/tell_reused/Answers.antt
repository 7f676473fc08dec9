use Rattle.std.proofs.Common.{◌<◌, ◌≤◌, List, length, subst}
use Rattle.pie_graph.specs.declared.edges.TaskNo.{TaskNo}
use Rattle.pie_topdown.proofs.Going.{started_more, started_none}
use Rattle.pie_topdown.proofs.Telling.{all_told, more_told, none_told, same_item}
use Rattle.pie_topdown.proofs.builder.Builder.tell_reused.Goals as goal

pub loop-no-preserved : goal.loop-no-preserved
loop-no-preserved c = (
  started_more c.args.reused.now.items c.loop-no.reused.items c.tell.new.tasks.items c.loop-no.invariant.0 c.tell.ensures.started,
  more_told c.args.self.now c.args.self.now.reused.items c.loop-no.no-index _ c.args.reused.now.items c.loop-no.reused.items c.tell.new.tasks.items
      (subst (λ (xs : List TaskNo). c.loop-no.no-index < length xs) c.deref-no-items.ensures.value c.loop-no-test.true)
      (same_item c.deref-no-items.result.now c.args.self.now.reused.items c.loop-no.no-index (record { 0 = 0 }) c.deref-no-items.ensures.value
      c.loop-no-test.true)
      c.loop-no.invariant.1
      c.in_ok-tell.ensures.named,
)

pub returns-in_err-tell-clause-started : goal.returns-in_err-tell-clause-started
returns-in_err-tell-clause-started c =
    started_more c.args.reused.now.items c.loop-no.reused.items c.tell.new.tasks.items c.loop-no.invariant.0 c.tell.ensures.started

pub returns-clause-named : goal.returns-clause-named
returns-clause-named c =
    all_told c.args.self.now c.args.self.now.reused.items c.loop-no.no-index c.args.reused.now.items c.loop-no.reused.items
    (subst (λ (xs : List TaskNo). length xs ≤ c.loop-no.no-index) c.deref-no-items.ensures.value c.loop-no-test.false)
    c.loop-no.invariant.1

pub loop-no-init : goal.loop-no-init
loop-no-init c = (started_none c.args.reused.now.items, none_told c.args.self.now c.args.self.now.reused.items c.args.reused.now.items)
