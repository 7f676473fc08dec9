use Rattle.pie_record.proofs.Naming.{met_task}
use Rattle.pie_record.proofs.reader.Reader.met.Goals as goal

pub returns-in_ok-copy-in-Some : goal.returns-in_ok-copy-in-Some
returns-in_ok-copy-in-Some c =
    met_task _ c.task.result.now c.in_ok-copy-in-Some.field-0 c.bytes.result.now c.args.self.now c.in-Some.rest.now c.bytes.ensures c.task.ensures
    c.in_ok-copy-in-Some.ensures (rw (← c.self.view_is) c.in-Some.ensures.cases.0) (rw (← c.self.view_is) c.in-Some.ensures.cases.1)
