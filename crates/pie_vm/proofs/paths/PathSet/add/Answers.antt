use Rattle.std.proofs.Common.{rules, ◌≡◌, ◌∙◌, ap}
use Rattle.pie_vm.specs.Stacks.{bytes_of}
use Rattle.pie_vm.proofs.PathKeys.{added}
use Rattle.pie_vm.proofs.paths.PathSet.add.Goals as goal

pub returns-clause-added : goal.returns-clause-added
returns-clause-added c = let h = added c.self.inside.paths.keys c.in_ok-bytes.bytes in let k = ap bytes_of c.in_ok-insert.ensures.keys in search rules
