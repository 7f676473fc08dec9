use Rattle.std.proofs.Common.{◌∙◌, length, subst, sym}
use Rattle.std.specs.Prelude.{Some}
use Rattle.pie_graph.specs.Numbers.{AllBelow}
use Rattle.pie_checks.proofs.HiddenFacts.{hidden_told, no_hidden, none_hidden_more, other_reads, reader_below}
use Rattle.pie_checks.proofs.Numbering.{beside_below}
use Rattle.pie_checks.proofs.hidden.hidden.Goals as goal

pub other_reader-reader-requires-clause-other : goal.other_reader-reader-requires-clause-other
other_reader-reader-requires-clause-other c =
    other_reads c.args.misses.now c.loop-entry.entry-index c.entry-item.result c.in-Some.writer c.deref.result.now
    (c.deref.ensures.value ∙ c.in_ok-readers.ensures) c.loop-entry-test.true c.entry-item.is c.in-Some.ensures.1

pub other_reader-reader-requires-clause-numbered : goal.other_reader-reader-requires-clause-numbered
other_reader-reader-requires-clause-numbered c =
    subst (AllBelow (length c.args.tasks.now)) (sym (c.deref.ensures.value ∙ c.in_ok-readers.ensures))
    (beside_below (length c.args.tasks.now) c.args.misses.now c.entry-item.result.0 c.requires.numbered_misses)

pub told-requires-clause-reader : goal.told-requires-clause-reader
told-requires-clause-reader c =
    reader_below c.args.tasks.now c.args.misses.now c.entry-item.result.0 c.deref.result.now (Some c.in-Some.writer) c.other_reader-reader.result
    (c.deref.ensures.value ∙ c.in_ok-readers.ensures) c.requires.numbered_misses
    c.other_reader-reader.ensures

pub returns-in-Some : goal.returns-in-Some
returns-in-Some c =
    hidden_told c.args.tasks.now c.args.writes.now c.args.misses.now c.loop-entry.entry-index c.entry-item.result c.other_reader-reader.result
    c.in-Some.writer c.deref.result.now c.in_ok-refusal.refusal c.requires.distinct
    c.requires.misses c.requires.numbered_writes c.requires.numbered_misses c.requires.one_each c.loop-entry-test.true c.entry-item.is c.in-Some.ensures
    (c.deref.ensures.value ∙ c.in_ok-readers.ensures)
    c.other_reader-reader.ensures c.loop-entry.invariant c.in_ok-refusal.ensures

pub loop-entry-preserved : goal.loop-entry-preserved
loop-entry-preserved c =
    none_hidden_more c.args.writes.now c.args.misses.now c.loop-entry.entry-index c.entry-item.result c.loop-entry-test.true c.entry-item.is
    c.in_default.ensures c.loop-entry.invariant

pub returns : goal.returns
returns c = no_hidden c.args.tasks.now c.args.writes.now c.args.misses.now c.loop-entry.entry-index c.loop-entry-test.false c.loop-entry.invariant
