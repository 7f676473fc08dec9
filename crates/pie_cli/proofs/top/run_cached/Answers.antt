use Rattle.std.proofs.Common.{Err, ap}
use Rattle.std.specs.Prelude.{string_bytes}
use Rattle.pie_cli.specs.Cached.{CachedSays}
use Rattle.pie_cli.proofs.Making.{made, made_failed, made_none}
use Rattle.pie_cli.proofs.Statuses.{answer_is_told, fault_is_no_answer, memory_is_no_answer}
use Rattle.pie_cli.proofs.top.run_cached.Goals as goal

pub returns-in-Ok-clause-cached : goal.returns-in-Ok-clause-cached
returns-in-Ok-clause-cached g c = record {
  said = made CachedSays g.F.Files.holds g.F.Files.faults c.args.files.now c.cached.new.files (string_bytes c.in-Ok.told.text) c.in-Ok.told.status
      c.show_told.result (g.K.Sink.held c.args.out.now) (g.K.Sink.held c.show_told.new.out) c.in-Ok.ensures.says c.show_told.ensures.shown
      c.show_told.ensures.prefix;
  rest = c.in-Ok.ensures.rest;
  crash = c.in-Ok.ensures.crash;
  marked = c.in-Ok.ensures.marked;
  durable = λ answer. c.in-Ok.ensures.durable;
}

pub returns-in-Err-Failed-clause-cached : goal.returns-in-Err-Failed-clause-cached
returns-in-Err-Failed-clause-cached g c = record {
  said = made_failed CachedSays g.F.Files.holds g.F.Files.faults c.args.files.now c.cached.new.files c.show.result (g.K.Sink.held c.args.out.now)
      (g.K.Sink.held c.show.new.out) (c.in-Err-Failed.ensures.counted.cause (ap Err c.in-Err-Failed.field-0-is)) c.show.ensures.shown c.show.ensures.prefix;
  rest = c.in-Err-Failed.ensures.rest;
  crash = c.in-Err-Failed.ensures.crash;
  marked = c.in-Err-Failed.ensures.marked;
  durable = λ answer. absurd (fault_is_no_answer c.show.result answer (c.show.ensures.shown (answer_is_told c.show.result answer)).0);
}

pub returns-in-Err-OutOfMemory-clause-cached : goal.returns-in-Err-OutOfMemory-clause-cached
returns-in-Err-OutOfMemory-clause-cached g c = record {
  said = made_none CachedSays g.F.Files.holds g.F.Files.faults c.args.files.now c.cached.new.files (g.K.Sink.held c.args.out.now);
  rest = c.in-Err-OutOfMemory.ensures.rest;
  crash = c.in-Err-OutOfMemory.ensures.crash;
  marked = c.in-Err-OutOfMemory.ensures.marked;
  durable = λ answer. absurd (memory_is_no_answer answer);
}
