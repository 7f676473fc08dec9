use Rattle.std.proofs.Common.{map}
use Rattle.std.specs.List.{All}
use Rattle.pie_topdown_build.specs.inner.News.{as_told, told_by}
use Rattle.pie_topdown_build.specs.inner.Offered.{IsNew}
use Rattle.pie_topdown_build.proofs.Telling.{ToldFirst}
use Rattle.pie_topdown_build.proofs.news.Lookup.all_of.Given as goal

-- those so far can be kept, and they are what is told of the records so far
abbrev pub invariant-loop-row : goal.invariant-loop-row
invariant-loop-row l = All IsNew l.found.items × ToldFirst (told_by l.self) l.rows l.row-index (map as_told l.found.items)
