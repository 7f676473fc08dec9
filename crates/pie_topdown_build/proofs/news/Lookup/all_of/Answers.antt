use Rattle.std.proofs.Common.{map}
use Rattle.pie_topdown_build.specs.inner.News.{as_told, told_by}
use Rattle.pie_topdown_build.proofs.Telling.{more_told}
use Rattle.pie_topdown_build.proofs.news.Lookup.all_of.Goals as goal

pub loop-row-preserved : goal.loop-row-preserved
loop-row-preserved c = (
  c.in_ok-add.ensures.new,
  more_told (told_by c.args.self.now) c.args.rows.now c.loop-row.row-index c.row-item.result (map as_told c.loop-row.found.items)
      (map as_told c.add.new.found.items) c.loop-row-test.true c.row-item.is c.in_ok-add.ensures.told c.loop-row.invariant.1,
)
