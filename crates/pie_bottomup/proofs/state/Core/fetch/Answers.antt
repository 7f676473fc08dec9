use Rattle.pie_bottomup.specs.inner.Exact.{Lacks}
use Rattle.pie_bottomup.specs.inner.Sights.{SeenIsStaged}
use Rattle.pie_bottomup.proofs.ExactAsking.{fetches}
use Rattle.pie_bottomup.proofs.Fetching.{sight_here, fetches_file, fetches_none}
use Rattle.pie_bottomup.proofs.state.Core.fetch.Goals as goal

pub returns-in-Some-clause-exact : goal.returns-in-Some-clause-exact
returns-in-Some-clause-exact g c =
    let lacks : Lacks c.sight.result.rows.now c.sight.result.stage.now c.sight.result.no.0 c.sight.result.from c.args.path.now c.in-Some.writer.0 =
    rw c.in-Some.is at c.in_ok-writer.ensures.lacks in
    fetches (g.F.Files.holds c.args.files.now) c.args.self.now c.stage_file.new.self c.args.no.0 c.args.from c.args.path.now c.in-Some.writer.0
    c.stage_file.result
    (sight_here (λ rows staged n from. Lacks rows staged n from c.args.path.now c.in-Some.writer.0) c.args.self.now c.args.no c.args.from
    c.sight.result.rows.now c.sight.result.stage.now c.sight.result.no c.sight.result.from c.sight.ensures.rows c.sight.ensures.stage c.sight.ensures.task
    c.sight.ensures.from lacks) c.stage_file.ensures.exact

pub returns-in-Some-clause-fetches : goal.returns-in-Some-clause-fetches
returns-in-Some-clause-fetches g c =
    let lacks : Lacks c.sight.result.rows.now c.sight.result.stage.now c.sight.result.no.0 c.sight.result.from c.args.path.now c.in-Some.writer.0 =
    rw c.in-Some.is at c.in_ok-writer.ensures.lacks in
    fetches_file (g.F.Files.holds c.args.files.now) c.args.self.now c.stage_file.new.self c.args.no.0 c.args.from c.args.path.now c.in-Some.writer.0
    c.stage_file.result
    (sight_here (λ rows staged n from. Lacks rows staged n from c.args.path.now c.in-Some.writer.0) c.args.self.now c.args.no c.args.from
    c.sight.result.rows.now c.sight.result.stage.now c.sight.result.no c.sight.result.from c.sight.ensures.rows c.sight.ensures.stage c.sight.ensures.task
    c.sight.ensures.from lacks) c.stage_file.ensures.stages

pub returns-in-None-clause-fetches : goal.returns-in-None-clause-fetches
returns-in-None-clause-fetches g c =
    fetches_none (g.F.Files.holds c.args.files.now) c.args.self.now c.args.no.0 c.args.from c.args.path.now
    (λ out. sight_here (λ rows staged n from. SeenIsStaged rows staged n from c.args.path.now) c.args.self.now c.args.no c.args.from
    c.sight.result.rows.now c.sight.result.stage.now c.sight.result.no c.sight.result.from c.sight.ensures.rows c.sight.ensures.stage c.sight.ensures.task
    c.sight.ensures.from (c.in_ok-writer.ensures.has c.in-None.is))
