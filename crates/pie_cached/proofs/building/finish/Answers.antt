use Rattle.std.proofs.Common.{◌≡◌, rules, subst}
use Rattle.std.specs.Prelude.{map}
use Rattle.pie_commit.specs.Outcomes.{LeavesFromRest}
use Rattle.pie_report.specs.declared.report.Report.{Report}
use Rattle.pie_topdown_build.specs.inner.News.{as_told}
use Rattle.pie_cached.specs.inner.Crashes.{StopsKeeping}
use Rattle.pie_cached.specs.inner.News.{kept_of}
use Rattle.pie_cached.proofs.building.finish.Goals as goal

pub returns-in-Ok-clause-stays : goal.returns-in-Ok-clause-stays
returns-in-Ok-clause-stays g c =
    let F = g.F.Files in
    let is : c.deref.result.now ≡ c.args.offered.report.value = search rules in
    record {
      whole = subst (λ (r : Report). LeavesFromRest F.holds F.moment F.left_since F.images (StopsKeeping (kept_of r.verdict (map as_told c.args.offered.new.items)))
          c.args.files.now c.keep_if_accepted.new.files) is c.keep_if_accepted.ensures.whole;
      alike = c.keep_if_accepted.ensures.alike;
      durable = λ says. c.in-Ok.ensures.durable;
    }

pub returns-in-Err-Failed-clause-stays : goal.returns-in-Err-Failed-clause-stays
returns-in-Err-Failed-clause-stays g c =
    let F = g.F.Files in
    let is : c.deref.result.now ≡ c.args.offered.report.value = search rules in
    record {
      whole = subst (λ (r : Report). LeavesFromRest F.holds F.moment F.left_since F.images (StopsKeeping (kept_of r.verdict (map as_told c.args.offered.new.items)))
          c.args.files.now c.keep_if_accepted.new.files) is c.keep_if_accepted.ensures.whole;
      alike = c.keep_if_accepted.ensures.alike;
      durable = λ says. absurd says;
    }

pub returns-clause-stays : goal.returns-clause-stays
returns-clause-stays g c =
    let F = g.F.Files in
    let is : c.deref.result.now ≡ c.args.offered.report.value = search rules in
    record {
      whole = subst (λ (r : Report). LeavesFromRest F.holds F.moment F.left_since F.images (StopsKeeping (kept_of r.verdict (map as_told c.args.offered.new.items)))
          c.args.files.now c.keep_if_accepted.new.files) is c.keep_if_accepted.ensures.whole;
      alike = c.keep_if_accepted.ensures.alike;
      durable = λ says. absurd says;
    }
