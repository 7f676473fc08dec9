use Rattle.pie_record.proofs.Values.{value_taken}
use Rattle.pie_record.proofs.reader.Reader.value.Goals as goal

pub returns-in-Ok : goal.returns-in-Ok
returns-in-Ok c = rw (← c.self.view_is) (value_taken _ _ _ c.in-Ok.ensures.answer)
