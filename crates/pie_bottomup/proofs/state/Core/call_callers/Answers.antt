use Rattle.std.proofs.Common.{refl, arith}
use Rattle.pie_bottomup.proofs.Sites.{site_calling}
use Rattle.pie_bottomup.proofs.Keeping.{tasks_stay}
use Rattle.pie_bottomup.proofs.state.Core.call_callers.Goals as goal

pub returns-in_ok-schedule_callers-clause-called : goal.returns-in_ok-schedule_callers-clause-called
returns-in_ok-schedule_callers-clause-called c =
    let now = c.in_ok-schedule_callers.ensures in
    record {
      site = site_calling c.args.self.now c.schedule_callers.new.self c.args.no.0 c.requires.site now.scheduled c.schedule_callers.ensures.parked;
      walk = now.scheduled.same;
      tables = refl;
      hand = refl;
      nearer = omega (arith, now.weight);
      keeps = record { plan = refl; room = now.room; tasks = tasks_stay c.args.self.now.tables; ran = λ n is. is };
      called = λ _. now.scheduled.each;
      kept = now.scheduled.kept;
      only = now.scheduled.only;
    }

pub returns-in_ok-schedule_callers-clause-holds : goal.returns-in_ok-schedule_callers-clause-holds
returns-in_ok-schedule_callers-clause-holds c = c.in_ok-schedule_callers.ensures.holds c.args.no c.requires.holds
