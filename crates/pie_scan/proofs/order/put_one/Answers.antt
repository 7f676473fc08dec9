use Rattle.std.proofs.Common.{rules, refl}
use Rattle.std.specs.Prelude.{Some}
use Rattle.pie_files.proofs.OrderedPaths.{one_gained}
use Rattle.pie_scan.proofs.order.put_one.Goals as goal

pub returns : goal.returns
returns c =
    one_gained c.args.set.now.keys c.insert.new.self.keys (Some c.args.path.now) c.args.path.now refl (search rules)
