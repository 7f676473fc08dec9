use Rattle.std.proofs.Common.{Err, subst, ◌∙◌, arith}
use Rattle.pie_build.proofs.Crashing.{rests_then}
use Rattle.pie_files.proofs.Reading.{if_always}
use Rattle.pie_project.specs.declared.fault.BuildError.TheVariants as errors
use Rattle.pie_incremental.specs.Crashes.{MayEnd, MayStop}
use Rattle.pie_incremental.specs.Starts.{IsWhole}
use Rattle.pie_incremental.proofs.Asked.{asks_afresh, asks_from}
use Rattle.pie_incremental.proofs.Cleanly.{afresh_cleans, from_cleans}
use Rattle.pie_incremental.proofs.Crashing.{crash_afresh, crash_based, stop_first}
use Rattle.pie_incremental.proofs.Joining.{few_once, few_told, few_twice, rest_then}
use Rattle.pie_incremental.proofs.Marking.{marked_afresh, marked_based}
use Rattle.pie_incremental.proofs.Parts.{endures_still}
use Rattle.pie_incremental.proofs.Refusing.{after, idle_after, never, project_after}
use Rattle.pie_incremental.proofs.Storing.{base_of_text}
use Rattle.pie_incremental.proofs.Treating.{afresh_names, from_names}
use Rattle.pie_incremental.proofs.building.build.Goals as goal

pub from-requires : goal.from-requires
from-requires g c =
    let e = c.in-Ok-From in
    let b = e.base.value in
    base_of_text b (subst IsWhole e.field-0-is e.ensures.whole).text

pub returns-in-Ok-Afresh-clause-files : goal.returns-in-Ok-Afresh-clause-files
returns-in-Ok-Afresh-clause-files g c =
    let list = c.args.changes.now in
    let old = c.args.files.now in
    let mid = c.find_start.new.files in
    let new = c.afresh.new.files in
    let reads = c.in-Ok-Afresh.ensures.reads in
    let files = c.afresh.ensures.files in
    record {
      rest = rest_then (g.F.Files.holds old) (g.F.Files.holds mid) (g.F.Files.holds new) reads.same files.rest;
      crash = crash_afresh g.F.Files.holds g.F.Files.moment g.F.Files.left_since g.F.Files.images list old mid new reads.same reads.crash files.crash;
      marked = marked_afresh g.F.Files.holds g.F.Files.moment g.F.Files.left_since g.F.Files.images list old mid new reads.same reads.crash files.marked;
      durable = λ says. rests_then g.F.Files.holds g.F.Files.moment g.F.Files.left_since g.F.Files.images old mid new reads.same reads.crash
          (files.durable says);
    }

pub returns-in-Ok-From-clause-files : goal.returns-in-Ok-From-clause-files
returns-in-Ok-From-clause-files g c =
    let e = c.in-Ok-From in
    let list = c.args.changes.now in
    let old = c.args.files.now in
    let mid = c.find_start.new.files in
    let new = c.from.new.files in
    let reads = e.ensures.reads in
    let files = c.from.ensures.files in
    record {
      rest = rest_then (g.F.Files.holds old) (g.F.Files.holds mid) (g.F.Files.holds new) reads.same files.rest;
      crash = crash_based g.F.Files.holds g.F.Files.moment g.F.Files.left_since g.F.Files.images list e.field-0 e.base old mid new e.field-0-is
          e.ensures.starts reads.same reads.crash files.crash;
      marked = marked_based g.F.Files.holds g.F.Files.moment g.F.Files.left_since g.F.Files.images list e.field-0 e.base old mid new e.field-0-is
          e.ensures.starts reads.same reads.crash files.marked;
      durable = λ says. rests_then g.F.Files.holds g.F.Files.moment g.F.Files.left_since g.F.Files.images old mid new reads.same reads.crash
          (files.durable says);
    }

pub returns-in-Err-Failed-clause-files : goal.returns-in-Err-Failed-clause-files
returns-in-Err-Failed-clause-files g c =
    let list = c.args.changes.now in
    let reads = c.in-Err-Failed.ensures.reads in
    endures_still g.F.Files.holds g.F.Files.moment g.F.Files.left_since g.F.Files.images (MayStop list) (MayEnd list) _ (stop_first list) c.args.files.now
    c.find_start.new.files reads.same reads.crash

pub returns-in-Err-OutOfMemory-clause-files : goal.returns-in-Err-OutOfMemory-clause-files
returns-in-Err-OutOfMemory-clause-files g c =
    let list = c.args.changes.now in
    let reads = c.in-Err-OutOfMemory.ensures.reads in
    endures_still g.F.Files.holds g.F.Files.moment g.F.Files.left_since g.F.Files.images (MayStop list) (MayEnd list) _ (stop_first list) c.args.files.now
    c.find_start.new.files reads.same reads.crash

pub returns-in-Ok-Afresh-clause-refuses : goal.returns-in-Ok-Afresh-clause-refuses
returns-in-Ok-Afresh-clause-refuses g c =
    let same = c.in-Ok-Afresh.ensures.reads.same in
    record {
      refused = λ h. c.afresh.ensures.refuses.refused h ∙ same;
      says = after (g.F.Files.holds c.args.files.now) (g.F.Files.holds c.find_start.new.files) c.afresh.result same c.afresh.ensures.refuses.says;
    }

pub returns-in-Ok-From-clause-refuses : goal.returns-in-Ok-From-clause-refuses
returns-in-Ok-From-clause-refuses g c =
    let same = c.in-Ok-From.ensures.reads.same in
    record {
      refused = λ h. c.from.ensures.refuses.refused h ∙ same;
      says = after (g.F.Files.holds c.args.files.now) (g.F.Files.holds c.find_start.new.files) c.from.result same c.from.ensures.refuses.says;
    }

pub returns-in-Err-Failed-clause-refuses : goal.returns-in-Err-Failed-clause-refuses
returns-in-Err-Failed-clause-refuses g c =
    record { refused = λ h. absurd h; says = never (g.F.Files.holds c.args.files.now) (Err errors.Files) (λ h. h) }

pub returns-in-Err-OutOfMemory-clause-refuses : goal.returns-in-Err-OutOfMemory-clause-refuses
returns-in-Err-OutOfMemory-clause-refuses g c =
    record { refused = λ h. absurd h; says = never (g.F.Files.holds c.args.files.now) (Err errors.OutOfMemory) (λ h. h) }

pub returns-in-Ok-Afresh-clause-names : goal.returns-in-Ok-Afresh-clause-names
returns-in-Ok-Afresh-clause-names g c =
    let e = c.in-Ok-Afresh in
    afresh_names c.args.changes.now e.field-0 e.cause (g.F.Files.holds c.args.files.now) (g.F.Files.holds c.find_start.new.files)
    (g.F.Files.holds c.afresh.new.files) c.afresh.result e.field-0-is e.ensures.starts e.ensures.reads.same c.afresh.ensures.names c.afresh.ensures.fresh

pub returns-in-Ok-From-clause-names : goal.returns-in-Ok-From-clause-names
returns-in-Ok-From-clause-names g c =
    let e = c.in-Ok-From in
    from_names c.args.changes.now e.field-0 e.base (g.F.Files.holds c.args.files.now) (g.F.Files.holds c.find_start.new.files)
    (g.F.Files.holds c.from.new.files) c.from.result e.field-0-is e.ensures.starts e.ensures.reads.same c.from.ensures.names

pub returns-in-Ok-Afresh-clause-clean : goal.returns-in-Ok-Afresh-clause-clean
returns-in-Ok-Afresh-clause-clean g c =
    let e = c.in-Ok-Afresh in
    afresh_cleans c.args.changes.now e.field-0 e.cause (g.F.Files.holds c.args.files.now) (g.F.Files.holds c.find_start.new.files)
    (g.F.Files.holds c.afresh.new.files) c.afresh.result e.field-0-is e.ensures.starts e.ensures.reads.same c.afresh.ensures.afresh c.afresh.ensures.fresh

pub returns-in-Ok-From-clause-clean : goal.returns-in-Ok-From-clause-clean
returns-in-Ok-From-clause-clean g c =
    let e = c.in-Ok-From in
    from_cleans c.args.changes.now e.field-0 e.base (g.F.Files.holds c.args.files.now) (g.F.Files.holds c.find_start.new.files)
    (g.F.Files.holds c.from.new.files) c.from.result e.field-0-is e.ensures.starts e.ensures.reads.same c.from.ensures.updates.clean

pub returns-in-Ok-Afresh-clause-asks : goal.returns-in-Ok-Afresh-clause-asks
returns-in-Ok-Afresh-clause-asks g c =
    asks_afresh c.args.changes.now (g.F.Files.holds c.args.files.now) (g.F.Files.asked c.args.files.now) (g.F.Files.asked c.afresh.new.files) c.afresh.result
    c.in-Ok-Afresh.cause c.afresh.ensures.fresh

pub returns-in-Ok-From-clause-asks : goal.returns-in-Ok-From-clause-asks
returns-in-Ok-From-clause-asks g c =
    let e = c.in-Ok-From in
    asks_from c.args.changes.now e.field-0 e.base (g.F.Files.holds c.args.files.now) (g.F.Files.holds c.find_start.new.files)
    (g.F.Files.asked c.args.files.now) (g.F.Files.asked c.find_start.new.files) (g.F.Files.asked c.from.new.files) c.from.result e.field-0-is e.ensures.starts
    e.ensures.reads.same e.ensures.asks c.from.ensures.updates.asks

pub returns-in-Ok-Afresh-clause-runs : goal.returns-in-Ok-Afresh-clause-runs
returns-in-Ok-Afresh-clause-runs g c =
    let old = c.args.runs.now in
    let new = c.afresh.new.runs in
    let r = c.afresh.ensures.runs in
    record {
      ran = r.ran;
      few = few_twice old new r.few;
      most = few_told old new c.afresh.result r.ran (few_twice old new r.few) (few_once old new c.afresh.result r.few);
      encodable = r.encodable;
    }

pub returns-in-Ok-From-clause-runs : goal.returns-in-Ok-From-clause-runs
returns-in-Ok-From-clause-runs g c =
    let r = c.from.ensures.runs in
    record {
      ran = r.ran;
      few = r.few;
      most = few_told c.args.runs.now c.from.new.runs c.from.result r.ran r.few r.once;
      encodable = r.encodable;
    }

pub returns-in-Err-Failed-clause-runs : goal.returns-in-Err-Failed-clause-runs
returns-in-Err-Failed-clause-runs g c = record { ran = tt; few = omega arith; most = tt; encodable = tt }

pub returns-in-Err-OutOfMemory-clause-runs : goal.returns-in-Err-OutOfMemory-clause-runs
returns-in-Err-OutOfMemory-clause-runs g c = record { ran = tt; few = omega arith; most = tt; encodable = tt }

pub returns-in-Ok-Afresh-clause-project : goal.returns-in-Ok-Afresh-clause-project
returns-in-Ok-Afresh-clause-project g c =
    let before = g.F.Files.holds c.args.files.now in
    let mid = g.F.Files.holds c.find_start.new.files in
    let same = c.in-Ok-Afresh.ensures.reads.same in
    record {
      idle = idle_after before mid _ c.afresh.result same c.afresh.ensures.project.idle;
      project = project_after before mid c.afresh.result same c.afresh.ensures.project.project;
    }

pub returns-in-Ok-From-clause-project : goal.returns-in-Ok-From-clause-project
returns-in-Ok-From-clause-project g c =
    let before = g.F.Files.holds c.args.files.now in
    let mid = g.F.Files.holds c.find_start.new.files in
    let same = c.in-Ok-From.ensures.reads.same in
    record {
      idle = idle_after before mid _ c.from.result same c.from.ensures.project.idle;
      project = project_after before mid c.from.result same c.from.ensures.project.project;
    }

pub returns-in-Err-Failed-clause-project : goal.returns-in-Err-Failed-clause-project
returns-in-Err-Failed-clause-project g c =
    let before = g.F.Files.holds c.args.files.now in
    record { idle = if_always before (λ h. absurd h); project = if_always before tt }

pub returns-in-Err-OutOfMemory-clause-project : goal.returns-in-Err-OutOfMemory-clause-project
returns-in-Err-OutOfMemory-clause-project g c =
    let before = g.F.Files.holds c.args.files.now in
    record { idle = if_always before (λ h. absurd h); project = if_always before tt }
