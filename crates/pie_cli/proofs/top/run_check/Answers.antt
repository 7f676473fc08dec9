use Rattle.std.proofs.Common.{Err, refl, ap}
use Rattle.pie_files.specs.Faults.{Rose}
use Rattle.pie_cli.specs.Check.{IsCheckText}
use Rattle.pie_cli.proofs.Checking.{checked, answers_only, check_printed}
use Rattle.pie_cli.proofs.Gaining.{fault_gained, none_gained}
use Rattle.pie_cli.proofs.Statuses.{answer_is_told, fault_is_no_answer, memory_is_no_answer}
use Rattle.pie_cli.proofs.top.run_check.Goals as goal

pub returns-in-Ok-clause-check : goal.returns-in-Ok-clause-check
returns-in-Ok-clause-check g c = record {
  checked = λ a.
      let shown = c.show_told.ensures.shown (answer_is_told c.show_told.result a) in
      checked (g.F.Files.holds c.args.files.now) c.in-Ok.told c.show_told.result (g.K.Sink.held c.args.out.now) (g.K.Sink.held c.show_told.new.out)
      c.in-Ok.ensures.told shown.0 shown.1;
  only = λ a.
      let shown = c.show_told.ensures.shown (answer_is_told c.show_told.result a) in
      answers_only (g.F.Files.holds c.args.files.now) c.in-Ok.told c.show_told.result (g.K.Sink.held c.args.out.now) (g.K.Sink.held c.show_told.new.out)
      c.in-Ok.ensures.only shown.0 shown.1;
  printed = check_printed (g.F.Files.holds c.args.files.now) c.in-Ok.told c.show_told.result
      (Rose (g.F.Files.faults c.args.files.now) (g.F.Files.faults c.check.new.files)) (g.K.Sink.held c.args.out.now) (g.K.Sink.held c.show_told.new.out)
      c.in-Ok.ensures.told c.show_told.ensures.prefix;
  same = c.in-Ok.ensures.same;
  crash = c.in-Ok.ensures.crash;
  asks = c.in-Ok.ensures.asks;
}

pub returns-in-Err-Failed-clause-check : goal.returns-in-Err-Failed-clause-check
returns-in-Err-Failed-clause-check g c = record {
  checked = λ a. absurd (fault_is_no_answer c.show.result a (c.show.ensures.shown (answer_is_told c.show.result a)).0);
  only = λ a. absurd (fault_is_no_answer c.show.result a (c.show.ensures.shown (answer_is_told c.show.result a)).0);
  printed = fault_gained (g.F.Files.holds c.args.files.now) IsCheckText
      (Rose (g.F.Files.faults c.args.files.now) (g.F.Files.faults c.check.new.files)) (g.K.Sink.held c.args.out.now) (g.K.Sink.held c.show.new.out)
      c.show.result (c.in-Err-Failed.ensures.counted.cause (ap Err c.in-Err-Failed.field-0-is)) c.show.ensures.prefix;
  same = c.in-Err-Failed.ensures.same;
  crash = c.in-Err-Failed.ensures.crash;
  asks = c.in-Err-Failed.ensures.asks;
}

pub returns-in-Err-OutOfMemory-clause-check : goal.returns-in-Err-OutOfMemory-clause-check
returns-in-Err-OutOfMemory-clause-check g c = record {
  checked = λ a. absurd (memory_is_no_answer a);
  only = λ a. absurd (memory_is_no_answer a);
  printed = none_gained (g.F.Files.holds c.args.files.now) IsCheckText
      (Rose (g.F.Files.faults c.args.files.now) (g.F.Files.faults c.check.new.files)) (g.K.Sink.held c.args.out.now) _ refl;
  same = c.in-Err-OutOfMemory.ensures.same;
  crash = c.in-Err-OutOfMemory.ensures.crash;
  asks = c.in-Err-OutOfMemory.ensures.asks;
}
