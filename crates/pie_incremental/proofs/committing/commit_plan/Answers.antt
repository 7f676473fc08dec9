use Rattle.std.proofs.Common.{ap}
use Rattle.std.specs.Prelude.{◌&&◌}
use Rattle.std.specs.List.{list_all}
use Rattle.pie_base.specs.Path.{is_out}
use Rattle.pie_commit.specs.inner.Plans.{has_own_places, may_be_written}
use Rattle.pie_commit.specs.Outcomes.{IsOfThree}
use Rattle.pie_incremental.specs.inner.Plans.{MayPlace, MayPut}
use Rattle.pie_incremental.proofs.Commits.{commit_done, commit_rests, leaves_as}
use Rattle.pie_incremental.proofs.OwnPaths.{and_left}
use Rattle.pie_incremental.proofs.Placing.{places_by}
use Rattle.pie_incremental.proofs.Putting.{puts_by}
use Rattle.pie_incremental.proofs.Stopping.{ends_marked, may_place, may_put, ends_told}
use Rattle.pie_incremental.proofs.Asking.{commit_changes}
use Rattle.pie_incremental.proofs.committing.commit_plan.Goals as goal

pub returns-clause-changes : goal.returns-clause-changes
returns-clause-changes g c =
    let p = c.args.plan.now in
    let removals = list_all is_out p.removals.items in
    let before = g.F.Files.holds c.args.files.now in
    let after = g.F.Files.holds c.commit.new.files in
    let done =
    commit_done p
    (and_left (has_own_places p) removals (and_left (has_own_places p && removals) (list_all (λ w. may_be_written w.0) p.writes.items) c.requires))
    before after c.commit.result c.commit.ensures.done (λ e. ap g.F.Files.holds (c.commit.ensures.empty e)) in
    record {
      done = done;
      puts = puts_by p before after c.commit.result done;
      places = places_by p before after c.commit.result done;
      outside = c.commit.ensures.outside;
    }

pub returns-clause-crash : goal.returns-clause-crash
returns-clause-crash g c =
    let p = c.args.plan.now in
    record {
      crash = c.commit.ensures.crash;
      may_put = leaves_as g.F.Files.holds g.F.Files.moment g.F.Files.left_since g.F.Files.images (IsOfThree p) (MayPut p) (may_put p) c.args.files.now
          c.commit.new.files c.commit.ensures.crash;
      may_place = leaves_as g.F.Files.holds g.F.Files.moment g.F.Files.left_since g.F.Files.images (IsOfThree p) (MayPlace p) (may_place p) c.args.files.now
          c.commit.new.files c.commit.ensures.crash;
    }

pub returns-clause-marks : goal.returns-clause-marks
returns-clause-marks g c =
    ends_marked g.F.Files.holds g.F.Files.images c.args.plan.now c.args.files.now c.commit.new.files c.commit.result c.commit.ensures.done
    c.commit.ensures.ends.durable c.commit.ensures.empty c.commit.ensures.ends.failed

pub returns-clause-told : goal.returns-clause-told
returns-clause-told g c =
    ends_told g.F.Files.holds g.F.Files.images c.args.plan.now c.args.files.now c.commit.new.files c.commit.result c.commit.ensures.done
    c.commit.ensures.ends.durable c.commit.ensures.empty c.commit.ensures.ends.failed

pub returns-clause-durable : goal.returns-clause-durable
returns-clause-durable g c =
    commit_rests g.F.Files.holds g.F.Files.images c.args.plan.now c.args.files.now c.commit.new.files c.commit.result c.commit.ensures.ends.durable
    c.commit.ensures.empty

pub returns-clause-asks : goal.returns-clause-asks
returns-clause-asks g c =
    commit_changes g.F.Files.asked c.args.plan.now c.args.files.now c.commit.new.files c.commit.result c.commit.ensures.empty c.commit.ensures.makes
