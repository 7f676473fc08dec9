use Rattle.std.proofs.Common.{◌≡◌, ◌∙◌, ◌∷◌, [], map, subst, sym, rules}
use Rattle.std.specs.Prelude.{All}
use Rattle.std.proofs.lemmas.List.Elements.{All-nil, All-tail}
use Rattle.pie_cache.proofs.Kept.{no_more}
use Rattle.pie_cache.specs.inner.Contents.{IsNews}
use Rattle.pie_topdown_build.specs.inner.Offered.{IsNew}
use Rattle.pie_cached.proofs.Keeping.{all_placed, none_placed, placed_more}
use Rattle.pie_cached.specs.inner.News.{placed}
use Rattle.pie_cached.proofs.building.with_paths.Goals as goal

pub loop-digest-init : goal.loop-digest-init
loop-digest-init c =
    let left = c.into_iter-digest-iterator.result.rest.items in
    let start : left ≡ c.args.new.items = search rules in (
      subst (All IsNew) (sym start) c.requires,
      subst (All IsNews) (sym c.new-fresh.ensures.items) (All-nil IsNews),
      none_placed left c.args.new.items c.new-fresh.result.items start c.new-fresh.ensures.items,
    )

pub loop-digest-preserved : goal.loop-digest-preserved
loop-digest-preserved c =
    let rest = c.next.new.self.rest.items in
    let left = c.loop-digest.digest-iterator.rest.items in
    let next : left ≡ c.in-Some.field-0 ∷ rest = search rules in (
      All-tail IsNew c.in-Some.field-0 rest (subst (All IsNew) next c.loop-digest.invariant.0),
      c.in_ok-push_new.ensures.news,
      placed_more left rest c.loop-digest.fresh.items c.push_new.new.fresh.items (map placed c.args.new.items) c.in-Some.field-0 next
          c.in_ok-push_new.ensures.placed c.loop-digest.invariant.2,
    )

pub returns-clause-placed : goal.returns-clause-placed
returns-clause-placed c =
    let left = c.loop-digest.digest-iterator.rest.items in
    let none : left ≡ [] = no_more left (sym c.loop-digest.digest-iterator.rest.ok.0 ∙ c.in-None.ensures.steps.0) in
    all_placed left c.loop-digest.fresh.items (map placed c.args.new.items) none c.loop-digest.invariant.2
