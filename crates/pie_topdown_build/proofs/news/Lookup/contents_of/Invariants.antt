use Rattle.pie_topdown_build.specs.inner.News.{bytes_by}
use Rattle.pie_topdown_build.proofs.Contents.{AreFirst}
use Rattle.pie_topdown_build.proofs.Telling.{HasToldFirst}
use Rattle.pie_topdown_build.proofs.news.Lookup.contents_of.Given as goal

-- the contents of the writes so far
abbrev pub invariant-loop-path : goal.invariant-loop-path
invariant-loop-path l =
    AreFirst l.writes l.path-index l.contents.items
    × HasToldFirst (bytes_by l.self.files.now l.self.places) l.writes l.path-index l.contents.items
