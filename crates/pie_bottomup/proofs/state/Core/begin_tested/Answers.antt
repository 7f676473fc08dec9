use Rattle.std.proofs.Common.{length, sym, subst, inr, arith}
use Rattle.pie_bottomup.specs.declared.state.First.TheVariants.{Done}
use Rattle.pie_bottomup.specs.inner.Loaded.{TestsExact}
use Rattle.pie_bottomup.specs.inner.States.{RunsOrRests}
use Rattle.pie_bottomup.proofs.FirstStep.{begun_rests}
use Rattle.pie_bottomup.proofs.Holding.{as_before}
use Rattle.pie_bottomup.proofs.ExactBeginning.{tested_exact}
use Rattle.pie_bottomup.proofs.GoingFirst.{tested_whole}
use Rattle.pie_bottomup.proofs.Stepping.{learns_done, tested_nearer}
use Rattle.pie_bottomup.proofs.state.Core.begin_tested.Goals as goal

pub returns-clause-steps : goal.returns-clause-steps
returns-clause-steps g c =
    let now = c.test_all.new.self in
    let tested = c.in_ok-test_all.ensures.tested in
    let rests = begun_rests now tested.untested (λ n l. c.in_ok-test_all.ensures.due n (omega (arith, l, tested.rows))) in
    record {
      turns = inr (record {
        site = rests.site;
        state = subst (RunsOrRests (record now { first = Done })) (sym tested.untested.start.hand) rests.rests;
      });
      nearer = tested_nearer c.args.self.now now c.requires.first tested.first tested.nearer tested.untested.start.hand;
    }

pub returns-clause-tests : goal.returns-clause-tests
returns-clause-tests g c =
    let old = c.args.self.now in
    let now = c.test_all.new.self in
    let ok = c.in_ok-test_all.ensures in
    let start = ok.tested.untested.start in
    let count = length old.frames.walk.rows in
    let exact : TestsExact (g.F.Files.holds c.args.files.now) old (record now { first = Done }) =
    λ u plan holds loaded.
    let held = ok.held u.directory holds loaded.informed.known in
    tested_exact u old now plan loaded held.0 held.1 (as_before u.directory now count ok.due held.1) ok.learns.learns ok.learns.only.walk
    ok.learns.only.stage ok.tested.untested.rests.stands start.parked start.hand in
    record {
      learns = learns_done old now ok.learns;
      tested = λ d held known.
          let is = ok.held d held known in
          (is.0, (is.1, as_before d (record now { first = Done }) count ok.due is.1));
      exact = exact;
      whole = λ u build holds loaded.
          tested_whole u old (record now { first = Done }) loaded ok.learns.learns.tables start.fresh start.parked start.hand
          (exact u build.plan holds loaded);
    }
