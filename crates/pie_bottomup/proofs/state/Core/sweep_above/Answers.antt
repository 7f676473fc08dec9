use Rattle.std.proofs.Common.{refl, arith, inl, inr}
use Rattle.pie_bottomup.proofs.Sites.{site_sweeping}
use Rattle.pie_bottomup.proofs.Keeping.{tasks_stay}
use Rattle.pie_bottomup.proofs.state.Core.sweep_above.Goals as goal

pub returns-in_ok-sweep-clause-swept : goal.returns-in_ok-sweep-clause-swept
returns-in_ok-sweep-clause-swept c =
    let now = c.in_ok-sweep.ensures in
    record {
      rests = record {
        site = site_sweeping c.args.self.now c.sweep.new.self c.args.no.0 c.requires.rests.site now.sweeps c.sweep.ensures.parked;
        rests = now.rests;
      };
      hand = refl;
      nearer = omega (arith, now.weight);
      keeps = record { plan = refl; room = now.room; tasks = tasks_stay c.args.self.now.tables; ran = λ n is. is };
    }

pub returns-in_ok-sweep-clause-told : goal.returns-in_ok-sweep-clause-told
returns-in_ok-sweep-clause-told c =
    let now = c.in_ok-sweep.ensures in
    record {
      tables = refl;
      same = now.sweeps.same;
      swept = λ _. now.sweeps.swept;
      kept = now.sweeps.kept;
      only = λ k flag. elim (now.sweeps.only k flag) [ inl was ↦ inl was | inr reaches ↦ inr reaches.0 ];
    }
