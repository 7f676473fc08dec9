use Rattle.pie_auto.proofs.Keeping.{has_work, keeps_one}
use Rattle.pie_auto.proofs.manifest.put.Goals as goal

pub returns-clause-done : goal.returns-clause-done
returns-clause-done g c = c.commit.ensures.done (has_work c.args.plan.now c.requires)

pub returns-clause-rest : goal.returns-clause-rest
returns-clause-rest g c =
    keeps_one c.args.plan.now c.requires (g.F.Files.holds c.args.files.now) (g.F.Files.holds c.commit.new.files) c.commit.ensures.outside
