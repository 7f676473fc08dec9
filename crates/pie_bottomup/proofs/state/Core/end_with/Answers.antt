use Rattle.std.proofs.Common.{◌≡◌, ◌∙◌, ap, sym, subst, arith}
use Rattle.std.specs.Option.{option_copied}
use Rattle.pie_bottomup.specs.inner.States.{RunsOrRests, in_hand}
use Rattle.pie_bottomup.proofs.Keeping.{keeps_then}
use Rattle.pie_bottomup.proofs.Calling.{are_called, ends_called, named_called, same_output}
use Rattle.pie_bottomup.proofs.Telling.{has_finished}
use Rattle.pie_bottomup.proofs.ExactEnding.{ends_same}
use Rattle.pie_bottomup.proofs.GoingEnds.{ends_whole}
use Rattle.pie_bottomup.proofs.state.Core.end_with.Goals as goal

pub settle_with-requires-clause-ends : goal.settle_with-requires-clause-ends
settle_with-requires-clause-ends c =
    let called = c.in_ok-call_callers.ensures.called in
    record {
      named = named_called c.args.self.now c.call_callers.new.self c.args.no.0 c.args.no.0 c.args.rec.task c.has_other_output-output.result called
          c.requires.ends.named;
      kept = c.requires.ends.kept;
      ends = ends_called c.args.self.now c.call_callers.new.self c.args.no.0 c.args.from c.args.rec c.has_other_output-output.result called
          c.requires.ends.ends;
    }

pub settle_with-requires-clause-called : goal.settle_with-requires-clause-called
settle_with-requires-clause-called c =
    are_called c.args.self.now c.call_callers.new.self c.args.no.0 c.args.rec c.has_other_output-output.result (option_copied c.get-old.result)
    c.in_ok-call_callers.ensures.called c.get-old.ensures c.has_other_output-output.ensures.failed

pub returns-clause-turns : goal.returns-clause-turns
returns-clause-turns c =
    let swept = c.in_ok-sweep_above.ensures.swept in
    let called = c.in_ok-call_callers.ensures.called in
    let ended = c.in_ok-settle_with.ensures.settles.ended in
    record {
      site = swept.rests.site;
      state = subst (RunsOrRests c.sweep_above.new.self) (sym (swept.hand ∙ ended.hand ∙ called.hand ∙ c.requires.taken.free)) swept.rests.rests;
    }

pub returns-clause-nearer : goal.returns-clause-nearer
returns-clause-nearer c =
    let swept = c.in_ok-sweep_above.ensures.swept in
    let called = c.in_ok-call_callers.ensures.called in
    let ended = c.in_ok-settle_with.ensures.settles.ended in
    let none : in_hand c.sweep_above.new.self.hand ≡ 0 = ap in_hand (swept.hand ∙ ended.hand ∙ called.hand ∙ c.requires.taken.free) in
    omega (arith, swept.nearer, ended.nearer, called.nearer, none)

pub returns-clause-kept : goal.returns-clause-kept
returns-clause-kept c =
    let new = c.sweep_above.new.self in
    let called = c.in_ok-call_callers.ensures.called in
    let ended = c.in_ok-settle_with.ensures.settles.ended in
    keeps_then c.args.self.now c.settle_with.new.self new
    (keeps_then c.args.self.now c.call_callers.new.self c.settle_with.new.self called.keeps ended.keeps) c.in_ok-sweep_above.ensures.swept.keeps

pub returns-clause-ended : goal.returns-clause-ended
returns-clause-ended c = record {
  finished = has_finished c.args.self.now c.call_callers.new.self c.settle_with.new.self c.sweep_above.new.self c.args.no c.args.from c.args.rec
      c.has_other_output-output.result c.has_other_edges-edges.result c.in_ok-call_callers.ensures.called c.in_ok-settle_with.ensures.settles.settles
      c.in_ok-sweep_above.ensures.told c.requires.taken.holds
      (λ was kept. same_output (option_copied c.get-old.result) was c.args.rec c.has_other_output-output.result (c.get-old.ensures ∙ kept)
      c.has_other_output-output.ensures.same)
      c.has_other_edges-edges.ensures;
  same = ends_same c.args.self.now c.call_callers.new.self c.settle_with.new.self c.sweep_above.new.self c.call_callers.ensures.same
      c.settle_with.ensures.same c.sweep_above.ensures.same c.in_ok-sweep_above.ensures.told.tables;
  ran = ap (λ t. t.ran.items) c.in_ok-sweep_above.ensures.told.tables ∙ c.settle_with.ensures.ran
      ∙ ap (λ t. t.ran.items) c.in_ok-call_callers.ensures.called.tables;
}

pub returns-clause-whole : goal.returns-clause-whole
returns-clause-whole c = λ row u now e begins right alone.
    let old = c.args.self.now in
    let new = c.sweep_above.new.self in
    let same =
    ends_same old c.call_callers.new.self c.settle_with.new.self new c.call_callers.ensures.same c.settle_with.ensures.same
    c.sweep_above.ensures.same c.in_ok-sweep_above.ensures.told.tables in
    let finished =
    has_finished old c.call_callers.new.self c.settle_with.new.self new c.args.no c.args.from c.args.rec
    c.has_other_output-output.result c.has_other_edges-edges.result c.in_ok-call_callers.ensures.called c.in_ok-settle_with.ensures.settles.settles
    c.in_ok-sweep_above.ensures.told c.requires.taken.holds
    (λ was kept. same_output (option_copied c.get-old.result) was c.args.rec c.has_other_output-output.result (c.get-old.ensures ∙ kept)
    c.has_other_output-output.ensures.same)
    c.has_other_edges-edges.ensures in
    ends_whole u old new c.args.no c.args.from c.args.rec now.plan e c.requires.taken.holds c.in_ok-sweep_above.ensures.swept.rests.rests same
    (ap (λ t. t.ran.items) c.in_ok-sweep_above.ensures.told.tables ∙ c.settle_with.ensures.ran ∙ ap (λ t. t.ran.items) c.in_ok-call_callers.ensures.called.tables)
    (c.sweep_above.ensures.parked ∙ c.settle_with.ensures.parked ∙ c.call_callers.ensures.parked) c.requires.taken.free finished c.requires.ends.named begins
    row right alone
