use Rattle.std.proofs.Common.{◌≡◌, ◌∙◌, ℕ, length, map, sym, subst}
use Rattle.std.specs.List.{All}
use Rattle.std.proofs.lemmas.List.{length-map}
use Rattle.std.proofs.lemmas.List.Elements.{All-map}
use Rattle.pie_graph.specs.Numbers.{AllBelow}
use Rattle.pie_graph.specs.Rows.{Row, row_of}
use Rattle.test_graph.proofs.union_tests.made.Goals as goal

pub of-requires-clause-needs_below : goal.of-requires-clause-needs_below
of-requires-clause-needs_below c =
    let all = c.in_ok-all.all.items in
    let many : length (map row_of all) ≡ length c.args.rows.now = length-map all row_of ∙ c.in_ok-all.ensures.count in
    subst (λ (bound : ℕ). All (λ (row : Row). AllBelow bound row.needs) (map row_of all)) (sym many)
    (All-map (λ (row : Row). AllBelow (length c.args.rows.now) row.needs) row_of all c.in_ok-all.ensures.below)
