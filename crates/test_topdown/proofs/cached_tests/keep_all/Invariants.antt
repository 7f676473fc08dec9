use Rattle.std.proofs.Common.{length}
use Rattle.std.specs.List.{All}
use Rattle.pie_topdown_build.specs.inner.Offered.{IsNew}
use Rattle.test_topdown.proofs.cached_tests.keep_all.Given as goal

abbrev pub invariant-news : goal.invariant-news
invariant-news l = All IsNew l.news.items

abbrev pub decreases-news : goal.decreases-news
decreases-news l = length l.news.items
