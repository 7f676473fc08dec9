use Rattle.std.proofs.Common.{Err, ap}
use Rattle.std.specs.Prelude.{string_bytes}
use Rattle.pie_cli.specs.inner.ByList.{says_of}
use Rattle.pie_cli.proofs.Making.{made, made_failed, made_none}
use Rattle.pie_cli.proofs.Statuses.{answer_is_told, fault_is_no_answer, memory_is_no_answer}
use Rattle.pie_cli.proofs.top.do_by_list.Goals as goal

pub returns-in-Ok-clause-says : goal.returns-in-Ok-clause-says
returns-in-Ok-clause-says g c =
    made (says_of c.args.which (g.F.Files.asked c.args.files.now) (g.F.Files.asked c.with_list.new.files) c.args.paths.now)
    g.F.Files.holds g.F.Files.faults c.args.files.now c.with_list.new.files (string_bytes c.in-Ok.told.text)
    c.in-Ok.told.status c.show_told.result (g.K.Sink.held c.args.out.now) (g.K.Sink.held c.show_told.new.out) c.in-Ok.ensures.says c.show_told.ensures.shown
    c.show_told.ensures.prefix

pub returns-in-Err-Failed-clause-says : goal.returns-in-Err-Failed-clause-says
returns-in-Err-Failed-clause-says g c =
    made_failed (says_of c.args.which (g.F.Files.asked c.args.files.now) (g.F.Files.asked c.with_list.new.files) c.args.paths.now)
    g.F.Files.holds g.F.Files.faults c.args.files.now c.with_list.new.files c.show.result
    (g.K.Sink.held c.args.out.now) (g.K.Sink.held c.show.new.out) (c.in-Err-Failed.ensures.counted.cause (ap Err c.in-Err-Failed.field-0-is))
    c.show.ensures.shown c.show.ensures.prefix

pub returns-in-Err-OutOfMemory-clause-says : goal.returns-in-Err-OutOfMemory-clause-says
returns-in-Err-OutOfMemory-clause-says g c =
    made_none (says_of c.args.which (g.F.Files.asked c.args.files.now) (g.F.Files.asked c.with_list.new.files) c.args.paths.now)
    g.F.Files.holds g.F.Files.faults c.args.files.now c.with_list.new.files (g.K.Sink.held c.args.out.now)

pub returns-in-Ok-clause-durable : goal.returns-in-Ok-clause-durable
returns-in-Ok-clause-durable g c =
    λ a. c.in-Ok.ensures.durable

pub returns-in-Err-Failed-clause-durable : goal.returns-in-Err-Failed-clause-durable
returns-in-Err-Failed-clause-durable g c =
    λ a. absurd (fault_is_no_answer c.show.result a (c.show.ensures.shown (answer_is_told c.show.result a)).0)

pub returns-in-Err-OutOfMemory-clause-durable : goal.returns-in-Err-OutOfMemory-clause-durable
returns-in-Err-OutOfMemory-clause-durable g c =
    λ a. absurd (memory_is_no_answer a)
