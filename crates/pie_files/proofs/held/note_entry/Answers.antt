use Rattle.std.proofs.Common.{rules, ◌≡◌}
use Rattle.std.specs.Prelude.{Some}
use Rattle.pie_base.specs.Path.{entry_on_way}
use Rattle.pie_files.proofs.OrderedPaths.{one_gained}
use Rattle.pie_files.proofs.held.note_entry.Goals as goal

pub returns-in_ok-_new : goal.returns-in_ok-_new
returns-in_ok-_new c =
    let some : entry_on_way c.args.dir.now c.args.path.now ≡ Some c.in-Some.entry = search rules in
    one_gained c.args.entries.now.keys c.insert.new.self.keys
    (entry_on_way c.args.dir.now c.args.path.now) c.in-Some.entry some c.in_ok-_new.ensures.updates.0
