use Rattle.std.proofs.Common.{List, sym, ◌∙◌, subst}
use Rattle.pie_graph.specs.Rows.{Row}
use Rattle.pie_view.specs.Content.{Staged}
use Rattle.pie_topdown.specs.inner.Sights.{Lacks, SeenIsStaged}
use Rattle.pie_topdown.proofs.Fetched.{fetches_file, fetches_none}
use Rattle.pie_topdown.proofs.builder.Builder.fetch.Goals as goal

pub returns-in-Some-clause-fetches : goal.returns-in-Some-clause-fetches
returns-in-Some-clause-fetches g c =
    let lacks : Lacks c.sight.result.rows.now c.sight.result.stage.now c.args.notes.now.needs c.args.path.now c.in-Some.writer.0 =
    rw c.in-Some.is at c.in_ok-writer.ensures.lacks in
    fetches_file (g.F.Files.holds c.args.files.now) c.args.self.now c.stage_file.new.self c.args.notes.now c.args.path.now c.in-Some.writer.0
    c.stage_file.result (sym c.under_out.ensures ∙ c.if-not-under_out.false)
    (subst (λ (x : List Row). Lacks x c.args.self.now.stage c.args.notes.now.needs c.args.path.now c.in-Some.writer.0) c.sight.ensures.rows
    (subst (λ (x : Staged). Lacks c.sight.result.rows.now x c.args.notes.now.needs c.args.path.now c.in-Some.writer.0) c.sight.ensures.stage lacks))
    c.stage_file.ensures.stages

pub returns-in-None-clause-fetches : goal.returns-in-None-clause-fetches
returns-in-None-clause-fetches g c =
    fetches_none (g.F.Files.holds c.args.files.now) c.args.self.now c.args.notes.now c.args.path.now
    (λ out.
    subst (λ (x : List Row). SeenIsStaged x c.args.self.now.stage c.args.notes.now.number c.args.notes.now.needs c.args.path.now) c.sight.ensures.rows
    (subst (λ (x : Staged). SeenIsStaged c.sight.result.rows.now x c.args.notes.now.number c.args.notes.now.needs c.args.path.now) c.sight.ensures.stage
    (c.in_ok-writer.ensures.has c.in-None.is)))
