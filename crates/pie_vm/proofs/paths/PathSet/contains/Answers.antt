use Rattle.std.proofs.Common.{rules, ◌≡◌, ◌∙◌}
use Rattle.pie_vm.proofs.PathKeys.{held}
use Rattle.pie_vm.proofs.paths.PathSet.contains.Goals as goal

pub returns : goal.returns
returns c = let h = held c.self.inside.paths.keys c.as_bytes.result.now in search rules
