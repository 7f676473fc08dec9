use Rattle.std.proofs.lemmas.Bool.{false≢true}
use Rattle.pie_incremental.proofs.Joining.{out_keeps}
use Rattle.pie_incremental.proofs.accepting.commit_then.Goals as goal

pub returns-in-Ok-clause-files : goal.returns-in-Ok-clause-files
returns-in-Ok-clause-files g c =
    let e = c.commit_plan.ensures in
    record {
      rest = out_keeps c.args.plan.now c.requires.changes (g.F.Files.holds c.args.files.now) (g.F.Files.holds c.commit_plan.new.files) e.changes.outside;
      crash = e.crash.may_place;
      marked = e.told;
      durable = λ done. c.in-Ok.ensures.durable;
    }

pub returns-in-Err-clause-files : goal.returns-in-Err-clause-files
returns-in-Err-clause-files g c =
    let e = c.commit_plan.ensures in
    record {
      rest = out_keeps c.args.plan.now c.requires.changes (g.F.Files.holds c.args.files.now) (g.F.Files.holds c.commit_plan.new.files) e.changes.outside;
      crash = e.crash.may_place;
      marked = e.told;
      durable = λ done. absurd (false≢true done);
    }

pub returns-in-Ok-clause-done : goal.returns-in-Ok-clause-done
returns-in-Ok-clause-done g c = c.in-Ok.ensures.changes.done

pub returns-in-Err-clause-done : goal.returns-in-Err-clause-done
returns-in-Err-clause-done g c = c.in-Err.ensures.changes.done

pub returns-in-Ok-clause-places : goal.returns-in-Ok-clause-places
returns-in-Ok-clause-places g c = c.in-Ok.ensures.changes.places

pub returns-in-Err-clause-places : goal.returns-in-Err-clause-places
returns-in-Err-clause-places g c = c.in-Err.ensures.changes.places
