use Rattle.pie_build.proofs.Asking.{commit_calls}
use Rattle.pie_build.proofs.place.commit_then.Goals as goal

pub returns-in-Ok-clause-done : goal.returns-in-Ok-clause-done
returns-in-Ok-clause-done g c = λ some. record { brought = c.in-Ok.ensures.done some; rest = c.in-Ok.ensures.ends.durable some }

pub returns-in-Ok-clause-asks : goal.returns-in-Ok-clause-asks
returns-in-Ok-clause-asks g c =
    commit_calls g.F.Files.asked c.args.plan.now c.args.files.now c.commit.new.files c.commit.result c.commit.ensures.empty c.commit.ensures.makes

pub returns-in-Err-clause-asks : goal.returns-in-Err-clause-asks
returns-in-Err-clause-asks g c =
    commit_calls g.F.Files.asked c.args.plan.now c.args.files.now c.commit.new.files c.commit.result c.commit.ensures.empty c.commit.ensures.makes

pub returns-in-Err-clause-failed : goal.returns-in-Err-clause-failed
returns-in-Err-clause-failed g c = c.in-Err.ensures.ends.failed
