use Rattle.std.proofs.Common.{◌≡◌, ◌∷◌, ◌++◌, ◌∙◌, ℕ, List, [], ap, sym, subst, append_assoc, append-nil, rules}
use Rattle.std.specs.Prelude.{All}
use Rattle.std.specs.List.{filter}
use Rattle.pie_cache.specs.inner.Clearing.{IsApart, IsInside, is_other}
use Rattle.pie_cache.proofs.Clearing.{others_inside, others_more}
use Rattle.pie_cache.proofs.Emptying.{others_apart}
use Rattle.pie_cache.proofs.Kept.{no_more}
use Rattle.pie_cache.proofs.opening.others.Goals as goal

pub loop-path-preserved : goal.loop-path-preserved
loop-path-preserved c =
    let others = c.loop-path.others.items in
    let rest = c.next.new.self.rest.items in
    let path = c.in-Some.path in
    let next : c.loop-path.path-iterator.rest.items ≡ path ∷ rest = search rules in
    ap (λ (l : List (List ℕ)). l ++ filter is_other rest) c.in_ok-push_other.ensures
    ∙ append_assoc others (filter is_other (path ∷ [])) (filter is_other rest)
    ∙ ap (λ (l : List (List ℕ)). others ++ l) (sym (others_more path rest))
    ∙ ap (λ (l : List (List ℕ)). others ++ filter is_other l) (sym next)
    ∙ c.loop-path.invariant

pub returns-clause-inside : goal.returns-clause-inside
returns-clause-inside c =
    let none : c.loop-path.path-iterator.rest.items ≡ [] =
    no_more c.loop-path.path-iterator.rest.items (sym c.loop-path.path-iterator.rest.ok.0 ∙ c.in-None.ensures.steps.0) in
    let same : c.loop-path.others.items ≡ filter is_other c.args.paths.items =
    sym (append-nil c.loop-path.others.items) ∙ ap (λ (l : List (List ℕ)). c.loop-path.others.items ++ filter is_other l) (sym none) ∙ c.loop-path.invariant in
    subst (All IsInside) (sym same) (others_inside c.args.paths.items)

pub returns-clause-apart : goal.returns-clause-apart
returns-clause-apart c =
    let none : c.loop-path.path-iterator.rest.items ≡ [] =
    no_more c.loop-path.path-iterator.rest.items (sym c.loop-path.path-iterator.rest.ok.0 ∙ c.in-None.ensures.steps.0) in
    let same : c.loop-path.others.items ≡ filter is_other c.args.paths.items =
    sym (append-nil c.loop-path.others.items) ∙ ap (λ (l : List (List ℕ)). c.loop-path.others.items ++ filter is_other l) (sym none) ∙ c.loop-path.invariant in
    subst (All IsApart) (sym same) (others_apart c.args.paths.items)
