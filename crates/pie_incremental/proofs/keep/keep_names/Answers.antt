use Rattle.std.specs.Option.{option_copied}
use Rattle.pie_commit.specs.Outcomes.{IsOfThree}
use Rattle.pie_incremental.specs.Kept.{IsOfNames}
use Rattle.pie_incremental.proofs.Commits.{leaves_as}
use Rattle.pie_incremental.proofs.Naming.{keeps_of, keeps_same, kept_of, names_crash, names_told}
use Rattle.pie_incremental.specs.inner.Marked.{EndsNames}
use Rattle.pie_incremental.proofs.Marking.{marked_none}
use Rattle.pie_incremental.proofs.keep.keep_names.Goals as goal

pub returns-in_err-plan-clause-rest : goal.returns-in_err-plan-clause-rest
returns-in_err-plan-clause-rest g c = keeps_same (g.F.Files.holds c.args.files.now)

pub returns-clause-kept : goal.returns-clause-kept
returns-clause-kept g c =
    kept_of c.args.names.now (option_copied c.args.before) c.in_ok-plan.plan c.in_ok-plan.ensures.plan (g.F.Files.holds c.args.files.now)
    (g.F.Files.holds c.commit_plan.new.files) c.in_ok-commit_plan.ensures.changes.done

pub returns-clause-rest : goal.returns-clause-rest
returns-clause-rest g c =
    keeps_of c.args.names.now (option_copied c.args.before) c.in_ok-plan.plan c.in_ok-plan.ensures.plan (g.F.Files.holds c.args.files.now)
    (g.F.Files.holds c.commit_plan.new.files) c.in_ok-commit_plan.ensures.changes.outside

pub returns-clause-crash : goal.returns-clause-crash
returns-clause-crash g c =
    leaves_as g.F.Files.holds g.F.Files.moment g.F.Files.left_since g.F.Files.images (IsOfThree c.in_ok-plan.plan)
    (IsOfNames c.args.names.now (option_copied c.args.before))
    (names_crash c.args.names.now (option_copied c.args.before) c.in_ok-plan.plan c.in_ok-plan.ensures.plan) c.args.files.now c.commit_plan.new.files
    c.in_ok-commit_plan.ensures.crash.crash

pub returns-in_err-commit_plan-clause-rest : goal.returns-in_err-commit_plan-clause-rest
returns-in_err-commit_plan-clause-rest g c =
    keeps_of c.args.names.now (option_copied c.args.before) c.in_ok-plan.plan c.in_ok-plan.ensures.plan (g.F.Files.holds c.args.files.now)
    (g.F.Files.holds c.commit_plan.new.files) c.in_err-commit_plan.ensures.changes.outside

pub returns-in_err-commit_plan-clause-crash : goal.returns-in_err-commit_plan-clause-crash
returns-in_err-commit_plan-clause-crash g c =
    leaves_as g.F.Files.holds g.F.Files.moment g.F.Files.left_since g.F.Files.images (IsOfThree c.in_ok-plan.plan)
    (IsOfNames c.args.names.now (option_copied c.args.before))
    (names_crash c.args.names.now (option_copied c.args.before) c.in_ok-plan.plan c.in_ok-plan.ensures.plan) c.args.files.now c.commit_plan.new.files
    c.in_err-commit_plan.ensures.crash.crash

pub returns-clause-marked : goal.returns-clause-marked
returns-clause-marked g c =
    names_told c.args.names.now (option_copied c.args.before) c.in_ok-plan.plan c.in_ok-plan.ensures.plan g.F.Files.holds g.F.Files.images
    c.args.files.now c.commit_plan.new.files c.in_ok-commit_plan.ensures.told

pub returns-in_err-commit_plan-clause-marked : goal.returns-in_err-commit_plan-clause-marked
returns-in_err-commit_plan-clause-marked g c =
    names_told c.args.names.now (option_copied c.args.before) c.in_ok-plan.plan c.in_ok-plan.ensures.plan g.F.Files.holds g.F.Files.images
    c.args.files.now c.commit_plan.new.files c.in_err-commit_plan.ensures.told

pub returns-in_err-plan-clause-marked : goal.returns-in_err-plan-clause-marked
returns-in_err-plan-clause-marked g c =
    marked_none g.F.Files.holds g.F.Files.moment g.F.Files.left_since g.F.Files.images (EndsNames c.args.names.now (option_copied c.args.before))
    c.args.files.now
