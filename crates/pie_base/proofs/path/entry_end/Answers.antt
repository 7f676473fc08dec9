use Rattle.std.proofs.Common.{rules, ◌≡◌}
use Rattle.std.specs.Prelude.{Some, None}
use Rattle.std.specs.List.{position}
use Rattle.pie_base.specs.Path.{is_slash, rest_below}
use Rattle.pie_base.proofs.Fronts.{entry_ends, entry_all}
use Rattle.pie_base.proofs.path.entry_end.Goals as goal

pub returns-in-Some : goal.returns-in-Some
returns-in-Some c =
    let below : rest_below c.args.dir.now c.args.path.now ≡ Some c.in_ok-rest.rest.now = search rules in
    let at : position is_slash c.in_ok-rest.rest.now ≡ Some c.in-Some.end = search rules in
    entry_ends c.args.dir.now c.args.path.now c.in_ok-rest.rest.now c.in-Some.end below at

pub returns-in-None : goal.returns-in-None
returns-in-None c =
    let below : rest_below c.args.dir.now c.args.path.now ≡ Some c.in_ok-rest.rest.now = search rules in
    let at : position is_slash c.in_ok-rest.rest.now ≡ None = search rules in
    entry_all c.args.dir.now c.args.path.now c.in_ok-rest.rest.now below at
