use Rattle.std.proofs.Common.{◌∙◌, ap, refl, arith}
use Rattle.pie_graph.specs.Rows.{row_at}
use Rattle.pie_walk.specs.States.{with_row, settled}
use Rattle.pie_old.specs.inner.Rows.{paths_in}
use Rattle.pie_frames.specs.inner.Ended.{row_from}
use Rattle.pie_bottomup.proofs.Settling.{site_ended, ended_settled}
use Rattle.pie_bottomup.proofs.Keeping.{tasks_put, none_ran_as}
use Rattle.pie_bottomup.proofs.state.Core.settle_with.Goals as goal

pub returns-clause-settles : goal.returns-clause-settles
returns-clause-settles c =
    let now = c.in_ok-finish.ensures in
    let put = c.in_ok-put.ensures in
    let writes = c.in_ok-writes.ensures ∙ ap paths_in c.as_slice.ensures in
    let row = row_from (row_at c.args.self.now.frames.walk.rows c.args.no.0) c.args.from c.in_ok-writes.writes.items in
    let done = ended_settled c.args.self.now c.finish.new.self c.args.no row c.requires.holds now.finished in
    record {
      ended = record {
        rests = record {
          site = site_ended c.args.self.now c.put.new.self c.finish.new.self c.args.no c.args.from c.args.rec c.in_ok-writes.writes.items c.requires.site
              c.requires.holds put.tables c.put.ensures.names put.puts c.requires.ends.named c.requires.ends.ends c.requires.called writes now.finished
              c.finish.ensures.parked;
          rests = now.rests;
        };
        hand = refl;
        nearer = omega (arith, now.weight);
        keeps = record {
          plan = refl;
          room = now.room;
          tasks = tasks_put c.args.self.now.tables c.put.new.self c.args.no.0 c.args.rec c.put.ensures.names put.puts c.put.ensures.ran;
          ran = none_ran_as c.args.self.now.tables c.put.new.self c.put.ensures.ran;
        };
      };
      settled = done.0;
      inside = done.1;
      settles = record {
        names = c.put.ensures.names;
        puts = put.puts;
        walk = now.finished
            ∙ ap (λ ps. settled (with_row c.args.self.now.frames.walk c.args.no.0
            (row_from (row_at c.args.self.now.frames.walk.rows c.args.no.0) c.args.from ps))
            c.args.no.0) writes;
      };
    }
