use Rattle.std.proofs.Common.{ap}
use Rattle.std.specs.Prelude.{◌&&◌, Ok}
use Rattle.std.specs.List.{list_all}
use Rattle.pie_base.specs.Path.{is_out}
use Rattle.pie_commit.specs.inner.Plans.{has_own_places, may_be_written}
use Rattle.pie_incremental.proofs.Commits.{commit_done, commit_rests}
use Rattle.pie_incremental.proofs.OwnPaths.{and_left}
use Rattle.pie_incremental.proofs.Stopping.{ends_told}
use Rattle.pie_topdown_build.proofs.accepting.commit_then.Goals as goal
use Rattle.std.proofs.lemmas.Bool.{false≢true}
use Rattle.pie_topdown_build.proofs.Crashing.{endures_commit}

pub returns-in-Ok-clause-done : goal.returns-in-Ok-clause-done
returns-in-Ok-clause-done g c =
    let p = c.args.plan.now in
    let removals = list_all is_out p.removals.items in
    commit_done {A = Unit {0}} p
    (and_left (has_own_places p) removals (and_left (has_own_places p && removals) (list_all (λ w. may_be_written w.0) p.writes.items) c.requires.sound))
    (g.F.Files.holds c.args.files.now) (g.F.Files.holds c.commit.new.files) (Ok tt) c.in-Ok.ensures.done
    (λ e. ap g.F.Files.holds (c.commit.ensures.empty e))

pub returns-in-Ok-clause-crash : goal.returns-in-Ok-clause-crash
returns-in-Ok-clause-crash g c =
    endures_commit c.args.plan.now c.requires.changes g.F.Files.holds g.F.Files.moment g.F.Files.left_since g.F.Files.images _ c.args.files.now c.commit.new.files
    c.commit.ensures.crash
    (ends_told g.F.Files.holds g.F.Files.images c.args.plan.now c.args.files.now c.commit.new.files c.commit.result c.commit.ensures.done
    c.commit.ensures.ends.durable c.commit.ensures.empty c.commit.ensures.ends.failed)
    (λ settled.
    commit_rests g.F.Files.holds g.F.Files.images c.args.plan.now c.args.files.now c.commit.new.files {A = Unit {0}} (Ok tt) c.in-Ok.ensures.ends.durable
    c.commit.ensures.empty)

pub returns-in-Err-clause-crash : goal.returns-in-Err-clause-crash
returns-in-Err-clause-crash g c =
    endures_commit c.args.plan.now c.requires.changes g.F.Files.holds g.F.Files.moment g.F.Files.left_since g.F.Files.images _ c.args.files.now c.commit.new.files
    c.commit.ensures.crash
    (ends_told g.F.Files.holds g.F.Files.images c.args.plan.now c.args.files.now c.commit.new.files c.commit.result c.commit.ensures.done
    c.commit.ensures.ends.durable c.commit.ensures.empty c.commit.ensures.ends.failed)
    (λ settled. absurd (false≢true settled))
