use Rattle.std.proofs.Common.{rules, Bool, false, List, Some, sym, ap, ◌∙◌}
use Rattle.std.specs.Prelude.{slice_index_or}
use Rattle.pie_record.specs.inner.Names.{Numbers}
use Rattle.pie_topdown.proofs.Reasoning.{found_lacks, lacks_own, other_code, unkept}
use Rattle.pie_topdown.proofs.builder.Builder.old_record.Goals as goal

pub returns-then-not-flag_of-clause-none : goal.returns-then-not-flag_of-clause-none
returns-then-not-flag_of-clause-none c =
    let at : Numbers c.args.self.now.plan.earlier.names c.task-task.result.now (Some c.in-Some.old) = rw c.in-Some.is at c.in_ok-old.ensures in
    lacks_own c.args.self.now c.args.no.0 c.task-task.result.now c.task-task.ensures
    (λ rec own is. other_code c.args.self.now.plan c.requires.site.earlier
    (record { distinct = c.as_slice-earlier.ensures.distinct; canonical = c.as_slice-earlier.ensures.canonical }) c.task-task.result.now c.in-Some.old.0 at rec own is
    (sym (c.flag_of.ensures ∙ ap (λ (bs : List Bool). slice_index_or bs c.in-Some.old.0 false) c.as_slice.ensures.value) ∙ c.if-not-flag_of.true))

pub returns-in_ok-found-in-Some-get-clause-none : goal.returns-in_ok-found-in-Some-get-clause-none
returns-in_ok-found-in-Some-get-clause-none c =
    let at : Numbers c.args.self.now.plan.earlier.names c.task-task.result.now (Some c.in-Some.old) = rw c.in-Some.is at c.in_ok-old.ensures in
    found_lacks c.args.self.now c.args.no.0 c.task-task.result.now c.in-Some.old.0 c.in-Some-get.rec.now c.in_ok-found-in-Some-get.found
    c.requires.site.earlier (record { distinct = c.as_slice-earlier.ensures.distinct; canonical = c.as_slice-earlier.ensures.canonical }) c.task-task.ensures at
    (search rules)
    c.in_ok-found-in-Some-get.ensures.none

pub returns-in-None-clause-none : goal.returns-in-None-clause-none
returns-in-None-clause-none c =
    let at : Numbers c.args.self.now.plan.earlier.names c.task-task.result.now (Some c.in-Some.old) = rw c.in-Some.is at c.in_ok-old.ensures in
    lacks_own c.args.self.now c.args.no.0 c.task-task.result.now c.task-task.ensures
    (λ rec own is. unkept c.args.self.now.plan c.requires.site.earlier
    (record { distinct = c.as_slice-earlier.ensures.distinct; canonical = c.as_slice-earlier.ensures.canonical }) c.task-task.result.now c.in-Some.old.0 at rec own is
    (search rules))
