use Rattle.std.proofs.Common.{ℕ, List, ap, subst, ◌∙◌}
use Rattle.std.specs.List.{filter}
use Rattle.pie_base.specs.Path.{is_out}
use Rattle.pie_reach.specs.Plan.{IsPlan}
use Rattle.pie_build.proofs.Removing.{removal_plan, removed_out}
use Rattle.pie_build.proofs.place.removals.Goals as goal

pub returns-clause-plan : goal.returns-clause-plan
returns-clause-plan g c =
    removal_plan (g.F.Files.holds c.args.files.now) _ c.in_ok-found.found.items c.in_ok-there.there.items c.args.kept.now c.in_ok-removed.removed.items
    c.in_ok-out.ensures c.in_ok-found.ensures.listed (c.in_ok-there.ensures ∙ ap (filter is_out) c.as_slice.ensures.value)
    (subst (λ (x : List (List ℕ)). IsPlan x c.args.kept.now c.in_ok-removed.removed.items) c.as_slice-2.ensures.value c.in_ok-removed.ensures)

pub returns-clause-out : goal.returns-clause-out
returns-clause-out g c =
    removed_out c.in_ok-found.found.items c.in_ok-there.there.items c.args.kept.now c.in_ok-removed.removed.items
    (c.in_ok-there.ensures ∙ ap (filter is_out) c.as_slice.ensures.value)
    (subst (λ (x : List (List ℕ)). IsPlan x c.args.kept.now c.in_ok-removed.removed.items) c.as_slice-2.ensures.value c.in_ok-removed.ensures)
