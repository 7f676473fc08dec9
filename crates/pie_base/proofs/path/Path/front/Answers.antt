use Rattle.std.proofs.Common.{rules, ◌≡◌, take}
use Rattle.pie_base.proofs.Fronts.{prefix_is_path}
use Rattle.pie_base.proofs.path.Path.front.Goals as goal

pub invariant_of-result : goal.invariant_of-result
invariant_of-result c =
    let bytes = c.self.inside.text in
    let e : c.in_ok-text.text ≡ take c.args.end bytes = search rules in
    rw e (prefix_is_path bytes c.args.end c.self.invariant (rw c.self.view_is c.requires.inside) (rw c.self.view_is c.requires.slash))
