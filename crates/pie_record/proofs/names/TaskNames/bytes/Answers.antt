use Rattle.pie_record.proofs.Naming.{key_bytes}
use Rattle.pie_record.proofs.names.TaskNames.bytes.Goals as goal

pub returns : goal.returns
returns c = rw (← c.self.view_is) (key_bytes _ _ _ _ c.self.invariant (rw c.self.view_is c.requires) c.key_at.ensures)
