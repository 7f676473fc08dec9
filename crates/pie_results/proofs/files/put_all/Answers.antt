use Rattle.pie_results.proofs.FileLemmas.{each_more, each_all, wrote_here}
use Rattle.pie_results.proofs.files.put_all.Goals as goal

pub loop-path-preserved : goal.loop-path-preserved
loop-path-preserved c = record {
  out = c.in_ok-put_file.ensures.out;
  of_tasks = λ t live is_live wrote all. c.in_ok-put_file.ensures.of_tasks t live is_live
      (wrote_here t c.args.no.0 c.args.writes.now c.loop-path.path-index c.loop-path-item.result c.loop-path-test.true c.loop-path-item.is wrote)
      (c.loop-path.invariant.of_tasks t live is_live wrote all);
  keeps = λ q has. c.in_ok-put_file.ensures.keeps q (c.loop-path.invariant.keeps q has);
  each = each_more c.args.stage.now c.args.no.0 c.args.writes.now c.loop-path.path-index c.loop-path-item.result c.loop-path.files c.put_file.new.files
      c.loop-path-test.true c.loop-path-item.is c.in_ok-put_file.ensures.keeps c.in_ok-put_file.ensures.staged c.loop-path.invariant.each;
}

pub returns-clause-each : goal.returns-clause-each
returns-clause-each c =
    each_all c.args.stage.now c.args.no.0 c.args.writes.now c.loop-path.path-index c.loop-path.files c.loop-path-test.false c.loop-path.invariant.each
