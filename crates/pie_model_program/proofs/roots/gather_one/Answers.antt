use Rattle.std.proofs.Common.{refl}
use Rattle.pie_model_program.specs.Runs.{row_of}
use Rattle.pie_model_program.proofs.LiveLemmas.{written_one, missed_one}
use Rattle.pie_model_program.proofs.roots.gather_one.Goals as goal

pub returns-clause-written : goal.returns-clause-written
returns-clause-written g c =
    written_one (g.S.Setting.world c.args.setting.now) (g.S.Setting.project c.args.setting.now) c.args.task.now _ _ (row_of c.in_ok-one.one.run)
    c.in_ok-one.one.run.own.items c.args.written.now.items c.pair_both.new.written.items c.in_ok-one.ensures refl c.in_ok-pair_both.ensures.written

pub returns-clause-missed : goal.returns-clause-missed
returns-clause-missed g c =
    missed_one (g.S.Setting.world c.args.setting.now) (g.S.Setting.project c.args.setting.now) c.args.task.now _ _ (row_of c.in_ok-one.one.run)
    c.in_ok-one.one.run.absent c.args.missed.now.items c.pair_both.new.missed.items c.in_ok-one.ensures refl c.in_ok-pair_both.ensures.missed
