use Rattle.std.proofs.Common.{ℕ, List, Err, refl, ap}
use Rattle.std.specs.Prelude.{◌≡◌, true, IfSome, string_bytes}
use Rattle.pie_files.specs.Directory.{Directory}
use Rattle.pie_files.specs.Faults.{Rose}
use Rattle.pie_cli.specs.Fresh.{HasBuilt, IsFreshText}
use Rattle.pie_cli.specs.Run.{is_answer}
use Rattle.pie_cli.proofs.Fresh.{built, printed, says_only}
use Rattle.pie_cli.proofs.Gaining.{fault_gained, none_gained}
use Rattle.pie_cli.proofs.Statuses.{answer_is_told, fault_is_no_answer, memory_is_no_answer}
use Rattle.pie_cli.proofs.top.run_fresh.Goals as goal

pub returns-in-Ok-clause-fresh : goal.returns-in-Ok-clause-fresh
returns-in-Ok-clause-fresh g c = record {
  built = has_built;
  only = λ a. says_only (g.F.Files.holds c.args.files.now) (g.F.Files.holds c.fresh.new.files) c.args.json (g.K.Sink.held c.args.out.now)
      (g.K.Sink.held c.show_told.new.out) c.show_told.result (has_built a);
  printed = printed (g.F.Files.holds c.args.files.now) (g.F.Files.holds c.fresh.new.files) c.args.json (string_bytes c.in-Ok.told.text) c.in-Ok.told.status
      c.show_told.result (Rose (g.F.Files.faults c.args.files.now) (g.F.Files.faults c.fresh.new.files)) (g.K.Sink.held c.args.out.now)
      (g.K.Sink.held c.show_told.new.out) c.in-Ok.ensures.built c.show_told.ensures.prefix;
  changed = c.in-Ok.ensures.changed;
  crash = c.in-Ok.ensures.crash;
  durable = λ a. c.in-Ok.ensures.durable;
  asks = λ a. c.in-Ok.ensures.asks;
}
  where
    has_built : is_answer c.show_told.result ≡ true
        → IfSome (g.F.Files.holds c.args.files.now) (λ d. HasBuilt d c.args.json (g.F.Files.holds c.fresh.new.files) (g.K.Sink.held c.args.out.now)
        (g.K.Sink.held c.show_told.new.out) c.show_told.result)
    has_built a =
        let shown = c.show_told.ensures.shown (answer_is_told c.show_told.result a) in
        built (g.F.Files.holds c.args.files.now) (g.F.Files.holds c.fresh.new.files) c.args.json (string_bytes c.in-Ok.told.text) c.in-Ok.told.status
        c.show_told.result (g.K.Sink.held c.args.out.now) (g.K.Sink.held c.show_told.new.out) c.in-Ok.ensures.built shown.0 shown.1

pub returns-in-Err-Failed-clause-fresh : goal.returns-in-Err-Failed-clause-fresh
returns-in-Err-Failed-clause-fresh g c =
    record {
      built = λ a. absurd (fault_is_no_answer c.show.result a (c.show.ensures.shown (answer_is_told c.show.result a)).0);
      only = λ a. absurd (fault_is_no_answer c.show.result a (c.show.ensures.shown (answer_is_told c.show.result a)).0);
      printed = fault_gained (g.F.Files.holds c.args.files.now)
          (λ (d : Directory) (text : List ℕ). IsFreshText d c.args.json (g.F.Files.holds c.fresh.new.files) text)
          (Rose (g.F.Files.faults c.args.files.now) (g.F.Files.faults c.fresh.new.files)) (g.K.Sink.held c.args.out.now) (g.K.Sink.held c.show.new.out)
          c.show.result (c.in-Err-Failed.ensures.counted.cause (ap Err c.in-Err-Failed.field-0-is)) c.show.ensures.prefix;
      changed = c.in-Err-Failed.ensures.changed;
      crash = c.in-Err-Failed.ensures.crash;
      durable = λ a. absurd (fault_is_no_answer c.show.result a (c.show.ensures.shown (answer_is_told c.show.result a)).0);
      asks = λ a. absurd (fault_is_no_answer c.show.result a (c.show.ensures.shown (answer_is_told c.show.result a)).0);
    }

pub returns-in-Err-OutOfMemory-clause-fresh : goal.returns-in-Err-OutOfMemory-clause-fresh
returns-in-Err-OutOfMemory-clause-fresh g c = record {
  built = λ a. absurd (memory_is_no_answer a);
  only = λ a. absurd (memory_is_no_answer a);
  printed = none_gained (g.F.Files.holds c.args.files.now)
      (λ (d : Directory) (text : List ℕ). IsFreshText d c.args.json (g.F.Files.holds c.fresh.new.files) text)
      (Rose (g.F.Files.faults c.args.files.now) (g.F.Files.faults c.fresh.new.files)) (g.K.Sink.held c.args.out.now) _ refl;
  changed = c.in-Err-OutOfMemory.ensures.changed;
  crash = c.in-Err-OutOfMemory.ensures.crash;
  durable = λ a. absurd (memory_is_no_answer a);
  asks = λ a. absurd (memory_is_no_answer a);
}
