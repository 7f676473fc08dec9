use Rattle.std.proofs.Common.{get_or, refl}
use Rattle.pie_topdown_build.proofs.Finding.{placed_more}
use Rattle.pie_topdown_build.proofs.news.places_of.Goals as goal

pub loop-i-preserved : goal.loop-i-preserved
loop-i-preserved c =
    let f = c.index-files-i.result in
    placed_more c.args.files.now c.loop-i.i f c.loop-i.places c.put_place.new.places (get_or c.args.files.now c.loop-i.i f).0 c.loop-i-test.true refl
    c.in_ok-put_place.ensures c.loop-i.invariant
