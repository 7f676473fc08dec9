use Rattle.std.proofs.Common.{sym, subst}
use Rattle.std.specs.Prelude.{All}
use Rattle.pie_cache.specs.inner.Contents.{IsNewsIn}
use Rattle.pie_cache.proofs.Kept.{news_put}
use Rattle.pie_cache.proofs.drafting.put_one.Goals as goal

pub returns-clause-news : goal.returns-clause-news
returns-clause-news c =
    subst (All IsNewsIn) (sym c.in_ok-_old.ensures.entries)
    (news_put c.args.latest.now.entries c.args.path c.args.offer c.requires.news c.requires.others)
