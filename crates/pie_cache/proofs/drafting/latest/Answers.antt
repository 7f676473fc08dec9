use Rattle.std.proofs.Common.{◌≡◌, ◌∷◌, ◌∙◌, ℕ, List, [], subst, sym, rules}
use Rattle.std.specs.Prelude.{All}
use Rattle.std.proofs.lemmas.List.Elements.{All-head, All-nil, All-tail}
use Rattle.pie_store.specs.declared.offers.Offer.{Offer}
use Rattle.pie_store.specs.inner.Offers.{offered}
use Rattle.pie_cache.specs.inner.Contents.{IsNews, IsNewsAt, IsNewsIn}
use Rattle.pie_cache.specs.inner.Keeping.{held_for, last_for, or_else}
use Rattle.pie_cache.proofs.Kept.{latest_all, latest_more, latest_none, no_more}
use Rattle.pie_cache.proofs.drafting.latest.Goals as goal

pub loop-path-init : goal.loop-path-init
loop-path-init c =
    let all : c.into_iter-path-iterator.result.rest.items ≡ c.args.fresh.items = search rules in (
      subst (All IsNews) (sym all) c.requires,
      subst (All IsNewsIn) (sym c.new-latest.ensures.empty) (All-nil IsNewsIn),
      λ q. subst (λ (l : List (List ℕ × Offer)). or_else (last_for l q) (held_for c.new-latest.result q) ≡ last_for c.args.fresh.items q) (sym all)
          (latest_none c.args.fresh.items c.new-latest.result c.new-latest.ensures.empty q),
    )

pub put_one-requires-clause-news : goal.put_one-requires-clause-news
put_one-requires-clause-news c =
    let next : c.loop-path.path-iterator.rest.items ≡ (c.in-Some.path, c.in-Some.offer) ∷ c.next.new.self.rest.items = search rules in
    let same : c.in_ok-offer.offer.value ≡ c.in-Some.offer = search rules in
    subst (λ (o : Offer). IsNewsAt c.in-Some.path (offered o)) (sym same)
    (All-head IsNews (c.in-Some.path, c.in-Some.offer) c.next.new.self.rest.items (subst (All IsNews) next c.loop-path.invariant.0))

pub loop-path-preserved : goal.loop-path-preserved
loop-path-preserved c =
    let rest = c.next.new.self.rest.items in
    let next : c.loop-path.path-iterator.rest.items ≡ (c.in-Some.path, c.in-Some.offer) ∷ rest = search rules in
    let same : c.in_ok-offer.offer.value ≡ c.in-Some.offer = search rules in (
      All-tail IsNews (c.in-Some.path, c.in-Some.offer) rest (subst (All IsNews) next c.loop-path.invariant.0),
      c.in_ok-put_one.ensures.news,
      latest_more c.args.fresh.items c.loop-path.path-iterator.rest.items rest c.loop-path.latest c.put_one.new.latest c.in-Some.path c.in-Some.offer
          c.in_ok-offer.offer next same c.in_ok-put_one.ensures.puts c.loop-path.invariant.2,
    )

pub returns-clause-latest : goal.returns-clause-latest
returns-clause-latest c =
    let none : c.loop-path.path-iterator.rest.items ≡ [] =
    no_more c.loop-path.path-iterator.rest.items (sym c.loop-path.path-iterator.rest.ok.0 ∙ c.in-None.ensures.steps.0) in
    latest_all c.args.fresh.items c.loop-path.path-iterator.rest.items c.loop-path.latest none c.loop-path.invariant.2
