use Rattle.std.proofs.Common.{ℕ, List, Err, refl, sym, ap, subst}
use Rattle.pie_base.specs.declared.status.Status.TheVariants as status
use Rattle.pie_report.specs.Refused.{bad_input_text}
use Rattle.pie_cli.specs.Listed.{IsRead}
use Rattle.pie_cli.specs.Run.{GainsPrefix, Shows}
use Rattle.pie_cli.specs.inner.ByList.{says_of}
use Rattle.pie_cli.proofs.Listing.{bad_read, bad_told, none_changed, none_kept, none_stopped, read_ended, read_left, runs_bad, runs_failed, runs_made, runs_memory}
use Rattle.pie_cli.proofs.Ending.{ends_failed, ends_memory, ends_shown, ends_unread}
use Rattle.pie_cli.proofs.top.run_by_list.Goals as goal

pub returns-in-Ok-clause-lists : goal.returns-in-Ok-clause-lists
returns-in-Ok-clause-lists g c =
    runs_made (says_of c.args.which (g.F.Files.asked c.args.files.now) (g.F.Files.asked c.do_by_list.new.files))
    g.F.Files.holds g.F.Files.faults g.I.Source.left g.I.Source.faults c.args.files.now c.do_by_list.new.files c.args.input.now
    c.read_names.new.input c.as_slice.result.now (g.K.Sink.held c.args.out.now) (g.K.Sink.held c.do_by_list.new.out) c.do_by_list.result
    (subst (λ (names : List (List ℕ)). IsRead names (g.I.Source.left c.args.input.now) (g.I.Source.left c.read_names.new.input)) (sym c.as_slice.ensures.value)
    c.in-Ok.ensures.read) c.do_by_list.ensures.says c.do_by_list.ensures.ends.no_input

pub returns-in-Ok-clause-stops : goal.returns-in-Ok-clause-stops
returns-in-Ok-clause-stops g c =
    let read = subst (λ (names : List (List ℕ)). IsRead names (g.I.Source.left c.args.input.now) (g.I.Source.left c.read_names.new.input))
    (sym c.as_slice.ensures.value) c.in-Ok.ensures.read in
    record {
      crash = read_left g.F.Files.holds g.F.Files.moment g.F.Files.left_since g.F.Files.images c.args.which c.as_slice.result.now c.args.files.now
          c.do_by_list.new.files (g.I.Source.left c.args.input.now) (g.I.Source.left c.read_names.new.input) read c.do_by_list.ensures.crash;
      marked = read_ended g.F.Files.holds g.F.Files.images c.args.which c.as_slice.result.now c.args.files.now c.do_by_list.new.files
          (g.I.Source.left c.args.input.now) (g.I.Source.left c.read_names.new.input) read c.do_by_list.ensures.marked;
      durable = c.do_by_list.ensures.durable;
    }

pub returns-in-Ok-clause-ends : goal.returns-in-Ok-clause-ends
returns-in-Ok-clause-ends g c =
    ends_unread (Unit {0}) _ _ (g.I.Source.faults c.args.input.now) (g.I.Source.faults c.read_names.new.input) _ _ (g.K.Sink.held c.args.out.now)
    (g.K.Sink.held c.do_by_list.new.out) c.do_by_list.result c.do_by_list.ensures.ends (c.in-Ok.ensures.told.steady (tt {0}))

pub returns-in-Err-Bad-clause-lists : goal.returns-in-Err-Bad-clause-lists
returns-in-Err-Bad-clause-lists g c =
    let held = g.K.Sink.held c.args.out.now in
    let gained = g.K.Sink.held c.show_bad.new.out in
    let told = c.in-Err-Bad.fault-is in
    runs_bad (says_of c.args.which (g.F.Files.asked c.args.files.now) (g.F.Files.asked c.args.files.now))
    g.F.Files.holds g.F.Files.faults g.I.Source.left g.I.Source.faults c.args.files.now c.args.input.now
    c.read_names.new.input c.in-Err-Bad.fault (g.K.Sink.held c.args.out.now) (g.K.Sink.held c.show_bad.new.out) c.show_bad.result
    (bad_read (g.I.Source.left c.args.input.now) (g.I.Source.left c.read_names.new.input) c.in-Err-Bad.field-0 c.in-Err-Bad.fault c.in-Err-Bad.field-0-is
    c.in-Err-Bad.ensures.read) (subst (λ f. Shows held gained (bad_input_text f) status.BadInput c.show_bad.result) told c.show_bad.ensures.shown)
    (subst (λ f. GainsPrefix held gained (bad_input_text f)) told c.show_bad.ensures.prefix)

pub returns-in-Err-Bad-clause-none : goal.returns-in-Err-Bad-clause-none
returns-in-Err-Bad-clause-none g c = none_changed g.F.Files.holds g.F.Files.moment g.F.Files.left_since g.F.Files.images c.args.which c.args.files.now

pub returns-in-Err-Bad-clause-stops : goal.returns-in-Err-Bad-clause-stops
returns-in-Err-Bad-clause-stops g c =
    none_stopped g.F.Files.holds g.F.Files.moment g.F.Files.left_since g.F.Files.images c.args.which c.args.files.now
    (g.I.Source.left c.args.input.now) (g.I.Source.left c.read_names.new.input) c.show_bad.result

pub returns-in-Err-Bad-clause-rest : goal.returns-in-Err-Bad-clause-rest
returns-in-Err-Bad-clause-rest g c = none_kept c.args.which (g.F.Files.holds c.args.files.now) (g.F.Files.holds c.args.files.now) refl

pub returns-in-Err-Bad-clause-ends : goal.returns-in-Err-Bad-clause-ends
returns-in-Err-Bad-clause-ends g c =
    ends_shown (Unit {0}) _ (g.I.Source.faults c.args.input.now) (g.I.Source.faults c.read_names.new.input) (g.K.Sink.faults c.args.out.now)
    (g.K.Sink.faults c.show_bad.new.out) (g.K.Sink.held c.args.out.now) (g.K.Sink.held c.show_bad.new.out) (bad_input_text c.in-Err-Bad.fault)
    status.BadInput c.show_bad.result (λ is. absurd (cc)) (λ is. absurd (cc))
    (subst (λ f. Shows (g.K.Sink.held c.args.out.now) (g.K.Sink.held c.show_bad.new.out) (bad_input_text f) status.BadInput c.show_bad.result)
    c.in-Err-Bad.fault-is c.show_bad.ensures.shown) c.show_bad.ensures.output c.show_bad.ensures.steady
    (c.in-Err-Bad.ensures.told.steady (bad_told c.in-Err-Bad.field-0 c.in-Err-Bad.fault c.in-Err-Bad.field-0-is))

pub returns-in-Err-Failed-clause-lists : goal.returns-in-Err-Failed-clause-lists
returns-in-Err-Failed-clause-lists g c =
    runs_failed (says_of c.args.which (g.F.Files.asked c.args.files.now) (g.F.Files.asked c.args.files.now))
    g.F.Files.holds g.F.Files.faults g.I.Source.left g.I.Source.faults c.args.files.now c.args.input.now
    c.read_names.new.input (g.K.Sink.held c.args.out.now) (g.K.Sink.held c.show.new.out) c.show.result
    (c.in-Err-Failed.ensures.told.cause (ap Err c.in-Err-Failed.field-0-is)) c.show.ensures.shown c.show.ensures.prefix

pub returns-in-Err-Failed-clause-none : goal.returns-in-Err-Failed-clause-none
returns-in-Err-Failed-clause-none g c = none_changed g.F.Files.holds g.F.Files.moment g.F.Files.left_since g.F.Files.images c.args.which c.args.files.now

pub returns-in-Err-Failed-clause-stops : goal.returns-in-Err-Failed-clause-stops
returns-in-Err-Failed-clause-stops g c =
    none_stopped g.F.Files.holds g.F.Files.moment g.F.Files.left_since g.F.Files.images c.args.which c.args.files.now
    (g.I.Source.left c.args.input.now) (g.I.Source.left c.read_names.new.input) c.show.result

pub returns-in-Err-Failed-clause-rest : goal.returns-in-Err-Failed-clause-rest
returns-in-Err-Failed-clause-rest g c = none_kept c.args.which (g.F.Files.holds c.args.files.now) (g.F.Files.holds c.args.files.now) refl

pub returns-in-Err-Failed-clause-ends : goal.returns-in-Err-Failed-clause-ends
returns-in-Err-Failed-clause-ends g c =
    ends_failed (Unit {0}) _ (g.I.Source.faults c.args.input.now) (g.I.Source.faults c.read_names.new.input) (g.K.Sink.faults c.args.out.now)
    (g.K.Sink.faults c.show.new.out) (g.K.Sink.held c.args.out.now) (g.K.Sink.held c.show.new.out) c.show.result c.show.ensures.shown
    c.show.ensures.output c.show.ensures.steady (c.in-Err-Failed.ensures.told.cause (ap Err c.in-Err-Failed.field-0-is))

pub returns-in-Err-OutOfMemory-clause-lists : goal.returns-in-Err-OutOfMemory-clause-lists
returns-in-Err-OutOfMemory-clause-lists g c =
    runs_memory (says_of c.args.which (g.F.Files.asked c.args.files.now) (g.F.Files.asked c.args.files.now))
    g.F.Files.holds g.F.Files.faults g.I.Source.left g.I.Source.faults c.args.files.now c.args.input.now
    c.read_names.new.input (g.K.Sink.held c.args.out.now)

pub returns-in-Err-OutOfMemory-clause-none : goal.returns-in-Err-OutOfMemory-clause-none
returns-in-Err-OutOfMemory-clause-none g c = none_changed g.F.Files.holds g.F.Files.moment g.F.Files.left_since g.F.Files.images c.args.which c.args.files.now

pub returns-in-Err-OutOfMemory-clause-stops : goal.returns-in-Err-OutOfMemory-clause-stops
returns-in-Err-OutOfMemory-clause-stops g c =
    none_stopped g.F.Files.holds g.F.Files.moment g.F.Files.left_since g.F.Files.images c.args.which c.args.files.now
    (g.I.Source.left c.args.input.now) (g.I.Source.left c.read_names.new.input) status.Memory

pub returns-in-Err-OutOfMemory-clause-rest : goal.returns-in-Err-OutOfMemory-clause-rest
returns-in-Err-OutOfMemory-clause-rest g c = none_kept c.args.which (g.F.Files.holds c.args.files.now) (g.F.Files.holds c.args.files.now) refl

pub returns-in-Err-OutOfMemory-clause-ends : goal.returns-in-Err-OutOfMemory-clause-ends
returns-in-Err-OutOfMemory-clause-ends g c =
    ends_memory (Unit {0}) _ (g.I.Source.faults c.args.input.now) (g.I.Source.faults c.read_names.new.input) (g.K.Sink.faults c.args.out.now)
    (g.K.Sink.held c.args.out.now) (g.K.Sink.held c.args.out.now)
