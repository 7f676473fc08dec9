use Rattle.std.proofs.Common.{subst}
use Rattle.pie_named.specs.inner.Above.{Rises}
use Rattle.pie_named.proofs.Above.{goes_up}
use Rattle.pie_named.proofs.paths.Paths.add_above.Goals as goal

pub dirs-preserved : goal.dirs-preserved
dirs-preserved c =
    goes_up c.args.self.now c.dirs.self c.add.new.self c.args.path.now c.in-Some.dir c.in_ok-next-in-Some.next c.in_ok-next-in-Some.ensures
    c.in_ok-add-in-Some.ensures (subst (λ at. Rises c.args.self.now c.dirs.self c.args.path.now at) c.in-Some.is c.dirs.invariant)
