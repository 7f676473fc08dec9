use Rattle.std.proofs.Common.{ℕ, List, subst}
use Rattle.std.specs.Prelude.{IfSome}
use Rattle.pie_diff.specs.inner.Held.{Looks}
use Rattle.pie_topdown_build.proofs.Holding.{holds_all}
use Rattle.pie_topdown_build.proofs.held.held_under_out.Goals as goal

pub returns-clause-held : goal.returns-clause-held
returns-clause-held g c =
    holds_all (g.F.Files.holds c.args.files.now) (g.F.Files.holds c.all_under.new.self) c.in_ok-out.out c.new-held.result c.look_at.new.held
    c.in_ok-paths.paths.items c.in_ok-paths.ensures.same c.in_ok-out.ensures c.new-held.ensures c.in_ok-paths.ensures.listed
    (subst (λ (ps : List (List ℕ)). IfSome (g.F.Files.holds c.all_under.new.self) (λ d. Looks d c.new-held.result c.look_at.new.held ps))
    c.as_slice.ensures.value c.in_ok-look_at.ensures.seen)
