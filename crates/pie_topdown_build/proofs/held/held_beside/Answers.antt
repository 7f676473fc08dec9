use Rattle.std.proofs.Common.{ℕ, List, subst}
use Rattle.std.specs.Prelude.{IfSome}
use Rattle.pie_diff.specs.Hashes.{files_paths}
use Rattle.pie_diff.specs.inner.Held.{Looks}
use Rattle.pie_reach.specs.Plan.{IsPlan}
use Rattle.pie_topdown_build.proofs.Holding.{holds_beside}
use Rattle.pie_topdown_build.proofs.held.held_beside.Goals as goal

pub returns-clause-held : goal.returns-clause-held
returns-clause-held g c =
    holds_beside (g.F.Files.holds c.args.files.now) (g.F.Files.holds c.all_under.new.self) c.in_ok-out.out c.new-held.result c.look_at.new.held
    c.args.contents.now c.in_ok-paths.paths.items c.in_ok-others.others.items c.in_ok-paths.ensures.same c.in_ok-out.ensures c.new-held.ensures
    c.in_ok-paths.ensures.listed
    (subst (λ (ps : List (List ℕ)). IsPlan ps (files_paths c.args.contents.now) c.in_ok-others.others.items) c.as_slice.ensures.value c.in_ok-others.ensures)
    (subst (λ (ps : List (List ℕ)). IfSome (g.F.Files.holds c.all_under.new.self) (λ d. Looks d c.new-held.result c.look_at.new.held ps))
    c.as_slice-2.ensures.value c.in_ok-look_at.ensures.seen)
