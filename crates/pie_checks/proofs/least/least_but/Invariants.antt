use Rattle.std.proofs.Common.{take, ◌<◌, length}
use Rattle.std.specs.Prelude.{IfSome}
use Rattle.pie_checks.specs.Searches.{IsAmong, IsLeastBut}
use Rattle.pie_checks.proofs.least.least_but.Given as goal

abbrev pub invariant-loop-no : goal.invariant-loop-no
invariant-loop-no l = IfSome l.best (λ b. b < length l.tasks) × IsLeastBut l.tasks (IsAmong (take l.no-index l.among) l.but) l.best
