use Rattle.pie_project.specs.declared.fault.BuildError.TheVariants as errors
use Rattle.std.proofs.Common.{◌≡◌, true, List, map, refl, subst}
use Rattle.std.specs.List.{All}
use Rattle.pie_value.specs.Limits.{is_small_task}
use Rattle.pie_value.specs.declared.task.Task.{Task}
use Rattle.pie_topdown_build.specs.inner.News.{as_told}
use Rattle.pie_topdown_build.specs.declared.offered.Offered.{Offered}
use Rattle.pie_topdown_build.proofs.Crashing.{large_endures, run_endures}
use Rattle.pie_topdown_build.proofs.Handing.{told_if_large, told_if_ready}
use Rattle.pie_topdown_build.proofs.Offering.{tells_if_large, tells_if_ready}
use Rattle.pie_topdown_build.proofs.Running.{large_ok, runs_ok}
use Rattle.pie_topdown_build.proofs.Reasons.{large_ran, ran_ok}
use Rattle.pie_topdown_build.proofs.Saying.{offers_fault, refuses_fault, refuses_quiet}
use Rattle.pie_topdown_build.proofs.joining.with_project.Goals as goal

pub returns-then-not-are_small-clause-clean : goal.returns-then-not-are_small-clause-clean
returns-then-not-are_small-clause-clean g c =
    large_ok c.args.base.value c.args.project.now (g.O.Offers.told c.args.offers.now) (g.F.Files.holds c.args.files.now) (g.F.Files.holds c.rebuilt.new.files)
    c.rebuilt.result
    (subst (λ (roots : List Task). ¬ (All (λ (t : Task). is_small_task t ≡ true) roots)) c.as_slice.ensures.value
    (c.are_small.ensures.large c.if-not-are_small.true))

pub returns-in-Ok-clause-clean : goal.returns-in-Ok-clause-clean
returns-in-Ok-clause-clean g c =
    runs_ok c.args.base.value c.args.project.now (g.O.Offers.told c.args.offers.now) (g.F.Files.holds c.args.files.now) (g.F.Files.holds c.run.new.files)
    c.in-Ok.offered c.in-Ok.ensures.clean

pub returns-then-not-are_small-clause-runs : goal.returns-then-not-are_small-clause-runs
returns-then-not-are_small-clause-runs g c =
    large_ran c.args.base.value c.args.project.now (g.O.Offers.told c.args.offers.now) (g.F.Files.holds c.args.files.now) c.rebuilt.result
    (subst (λ (roots : List Task). ¬ (All (λ (t : Task). is_small_task t ≡ true) roots)) c.as_slice.ensures.value
    (c.are_small.ensures.large c.if-not-are_small.true))

pub returns-in-Ok-clause-runs : goal.returns-in-Ok-clause-runs
returns-in-Ok-clause-runs g c =
    ran_ok c.args.base.value c.args.project.now (g.O.Offers.told c.args.offers.now) (g.F.Files.holds c.args.files.now) c.in-Ok.offered c.in-Ok.ensures.runs

pub returns-then-not-are_small-clause-offers : goal.returns-then-not-are_small-clause-offers
returns-then-not-are_small-clause-offers g c = record {
  reused = c.rebuilt.ensures.none.reused;
  new = c.rebuilt.ensures.none.new;
  news = told_if_large c.args.project.now c.args.base.value.store c.args.project.now.digests.items (g.F.Files.holds c.args.files.now)
      (g.F.Files.holds c.rebuilt.new.files) c.args.tells c.rebuilt.result
      (subst (λ (roots : List Task). ¬ (All (λ (t : Task). is_small_task t ≡ true) roots)) c.as_slice.ensures.value
      (c.are_small.ensures.large c.if-not-are_small.true)) c.rebuilt.ensures.none.none;
  honest = tells_if_large c.args.project.now c.args.base.value.image (g.O.Offers.told c.args.offers.now) (g.F.Files.holds c.args.files.now) c.args.tells
      c.rebuilt.result
      (subst (λ (roots : List Task). ¬ (All (λ (t : Task). is_small_task t ≡ true) roots)) c.as_slice.ensures.value
      (c.are_small.ensures.large c.if-not-are_small.true));
}

pub returns-in-Ok-clause-offers : goal.returns-in-Ok-clause-offers
returns-in-Ok-clause-offers g c =
    let o = c.in-Ok.offered in
    let offers = c.in-Ok.ensures.offers in
    record {
      reused = offers.reused;
      new = offers.new;
      news = λ on.
          told_if_ready c.args.project.now c.args.base.value.store c.args.project.now.digests.items (g.F.Files.holds c.args.files.now)
          (g.F.Files.holds c.run.new.files) o.report.value.verdict o.report.value.ran.items (map as_told o.new.items) (offers.news on);
      honest = λ on.
          tells_if_ready c.args.project.now c.args.base.value.image (g.O.Offers.told c.args.offers.now) (g.F.Files.holds c.args.files.now)
          o.report.value.verdict o.report.value.ran.items (map as_told o.new.items) (offers.honest on);
    }

pub returns-in-Err-Failed-clause-offers : goal.returns-in-Err-Failed-clause-offers
returns-in-Err-Failed-clause-offers g c = offers_fault _ _ _ _

pub returns-in-Err-OutOfMemory-clause-offers : goal.returns-in-Err-OutOfMemory-clause-offers
returns-in-Err-OutOfMemory-clause-offers g c = offers_fault _ _ _ _

pub returns-then-not-are_small-clause-stays : goal.returns-then-not-are_small-clause-stays
returns-then-not-are_small-clause-stays g c = record {
  rest = c.rebuilt.ensures.stays.rest;
  crash = large_endures g.F.Files.holds g.F.Files.moment g.F.Files.left_since g.F.Files.images c.args.base.value c.args.project.now
      (g.O.Offers.told c.args.offers.now) _ c.args.files.now c.rebuilt.new.files
      (subst (λ (roots : List Task). ¬ (All (λ (t : Task). is_small_task t ≡ true) roots)) c.as_slice.ensures.value
      (c.are_small.ensures.large c.if-not-are_small.true)) c.rebuilt.ensures.stays.crash;
}

pub returns-in-Ok-clause-stays : goal.returns-in-Ok-clause-stays
returns-in-Ok-clause-stays g c = record {
  rest = c.in-Ok.ensures.stays.rest;
  crash = run_endures g.F.Files.holds g.F.Files.moment g.F.Files.left_since g.F.Files.images c.args.base.value c.args.project.now
      (g.O.Offers.told c.args.offers.now) _ _ c.args.files.now c.run.new.files (λ says. refl) c.in-Ok.ensures.stays.crash;
}

pub returns-in-Err-Failed-clause-stays : goal.returns-in-Err-Failed-clause-stays
returns-in-Err-Failed-clause-stays g c = record {
  rest = c.in-Err-Failed.ensures.stays.rest;
  crash = run_endures g.F.Files.holds g.F.Files.moment g.F.Files.left_since g.F.Files.images c.args.base.value c.args.project.now
      (g.O.Offers.told c.args.offers.now) _ _ c.args.files.now c.run.new.files (λ says. absurd says) c.in-Err-Failed.ensures.stays.crash;
}

pub returns-in-Err-OutOfMemory-clause-stays : goal.returns-in-Err-OutOfMemory-clause-stays
returns-in-Err-OutOfMemory-clause-stays g c = record {
  rest = c.in-Err-OutOfMemory.ensures.stays.rest;
  crash = run_endures g.F.Files.holds g.F.Files.moment g.F.Files.left_since g.F.Files.images c.args.base.value c.args.project.now
      (g.O.Offers.told c.args.offers.now) _ _ c.args.files.now c.run.new.files (λ says. absurd says) c.in-Err-OutOfMemory.ensures.stays.crash;
}

pub returns-then-not-are_small-clause-refuses : goal.returns-then-not-are_small-clause-refuses
returns-then-not-are_small-clause-refuses g c = c.rebuilt.ensures.refuses

pub returns-in-Ok-clause-refuses : goal.returns-in-Ok-clause-refuses
returns-in-Ok-clause-refuses g c =
    refuses_quiet (λ (o : Offered). o.report.value) (g.F.Files.holds c.args.files.now) (g.F.Files.holds c.run.new.files) c.in-Ok.offered c.in-Ok.ensures.quiet

pub returns-in-Err-Failed-clause-refuses : goal.returns-in-Err-Failed-clause-refuses
returns-in-Err-Failed-clause-refuses g c =
    refuses_fault (λ (o : Offered). o.report.value) (g.F.Files.holds c.args.files.now) (g.F.Files.holds c.run.new.files) errors.Files (λ h. h)

pub returns-in-Err-OutOfMemory-clause-refuses : goal.returns-in-Err-OutOfMemory-clause-refuses
returns-in-Err-OutOfMemory-clause-refuses g c =
    refuses_fault (λ (o : Offered). o.report.value) (g.F.Files.holds c.args.files.now) (g.F.Files.holds c.run.new.files) errors.OutOfMemory (λ h. h)

pub returns-then-not-are_small-clause-ran : goal.returns-then-not-are_small-clause-ran
returns-then-not-are_small-clause-ran g c = c.rebuilt.ensures.ran

pub returns-in-Ok-clause-ran : goal.returns-in-Ok-clause-ran
returns-in-Ok-clause-ran g c =
    let ran = c.in-Ok.ensures.ran in
    record { ran = ran.ran; few = ran.few; encodable = ran.encodable }

pub returns-in-Err-Failed-clause-ran : goal.returns-in-Err-Failed-clause-ran
returns-in-Err-Failed-clause-ran g c = record { ran = tt; few = c.run.ensures.ran.few; encodable = tt }

pub returns-in-Err-OutOfMemory-clause-ran : goal.returns-in-Err-OutOfMemory-clause-ran
returns-in-Err-OutOfMemory-clause-ran g c = record { ran = tt; few = c.run.ensures.ran.few; encodable = tt }
