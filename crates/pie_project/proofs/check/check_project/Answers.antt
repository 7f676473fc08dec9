use Rattle.pie_project.proofs.Finding.{check_holds, only_check}
use Rattle.pie_project.proofs.check.check_project.Goals as goal

pub returns-clause-found : goal.returns-clause-found
returns-clause-found g c = check_holds (λ p. p) (g.F.Files.holds c.args.files.now) c.counts_in.result c.counts_in.ensures.found

pub returns-clause-only : goal.returns-clause-only
returns-clause-only g c = only_check (λ p. p) (g.F.Files.holds c.args.files.now) c.counts_in.result c.counts_in.ensures.found
