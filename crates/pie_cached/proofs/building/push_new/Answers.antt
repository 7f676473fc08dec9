use Rattle.std.proofs.Common.{◌≡◌, ◌∙◌, ◌∷◌, ◌++◌, [], ℕ, List, ap, sym, subst, rules}
use Rattle.std.specs.Prelude.{All}
use Rattle.std.proofs.lemmas.List.Elements.{All-push}
use Rattle.pie_cache.specs.inner.Contents.{IsNews}
use Rattle.pie_cached.proofs.building.push_new.Goals as goal

pub cache_path-requires : goal.cache_path-requires
cache_path-requires c = c.requires.new.0.task

pub returns-clause-news : goal.returns-clause-news
returns-clause-news c =
    let is : c.push.new.self.items ≡ c.args.fresh.now.items ++ (c.in_ok-path.path, c.args.offer) ∷ [] = search rules in
    subst (All IsNews) (sym is) (All-push IsNews c.args.fresh.now.items (c.in_ok-path.path, c.args.offer) c.requires.fresh
    (record { place = c.in_ok-path.ensures.place; kept = c.requires.new }))

pub returns-clause-placed : goal.returns-clause-placed
returns-clause-placed c =
    let is : c.push.new.self.items ≡ c.args.fresh.now.items ++ (c.in_ok-path.path, c.args.offer) ∷ [] = search rules in
    is ∙ ap (λ (p : List ℕ). c.args.fresh.now.items ++ (p, c.args.offer) ∷ []) c.in_ok-path.ensures.path
