use Rattle.std.proofs.Common.{rules, is_lt, ℕ, List, subst, ap, ◌∙◌}
use Rattle.std.specs.Prelude.{IsPermutation}
use Rattle.std.proofs.lemmas.List.Sorted.{ranks_by, IsPermutation-map}
use Rattle.std.proofs.lemmas.Fn.{always_returns_same}
use Rattle.pie_digest.specs.Digests.{name_cmp, row_names}
use Rattle.pie_digest.proofs.Digesting.{name_total}
use Rattle.pie_digest.proofs.FuncTokens.{pipeline_names}
use Rattle.pie_digest.proofs.digests.func_digests.Goals as goal

pub returns-clause-ordered : goal.returns-clause-ordered
returns-clause-ordered c =
    c.in_ok-sort_by.ensures.sorted (λ a b. is_lt (name_cmp a.0 b.0)) (ranks_by name_total (λ x. x.0)) (always_returns_same _ _ _ (λ a r f k. search rules))

pub returns-clause-names : goal.returns-clause-names
returns-clause-names c =
    λ fs h. subst (λ names. IsPermutation names (row_names c.sort_by.new.self.items))
    (ap row_names c.in_ok-rows.ensures ∙ pipeline_names c.args.text.now c.args.tokens.now fs h)
    (IsPermutation-map (λ (row : List ℕ × List ℕ). row.0) c.in_ok-rows.rows.items c.sort_by.new.self.items c.sort_by.ensures.permutation)
