use Rattle.std.proofs.Common.{◌≡◌, ℕ, List, map, Vec, Global, refl, sym, ap, subst, ◌∙◌}
use Rattle.std.specs.Prelude.{IfSome, codes}
use Rattle.std.specs.Prelude.{Option}
use Rattle.pie_files.specs.Directory.{Directory, files_under}
use Rattle.pie_reach.specs.Plan.{IsPlan}
use Rattle.pie_build.specs.Left.{KeepsRest}
use Rattle.pie_build.specs.inner.Plans.{IsPlanOf}
use Rattle.pie_build.specs.inner.Reported.{PutsMade}
use Rattle.pie_build.proofs.Cleaning.{report_of}
use Rattle.pie_build.proofs.Crashing.{brought_commit, rests_commit, rests_ok, withstands_commit, withstands_still, withstands_then}
use Rattle.pie_files.proofs.Reading.{both_before}
use Rattle.pie_build.proofs.OwnPaths.{same_keeps, commit_keeps}
use Rattle.pie_build.proofs.InPlace.{Fits, fits_before, puts_after}
use Rattle.std.proofs.Common.{arith}
use Rattle.pie_build.proofs.Crashing.{withstands_none}
use Rattle.pie_files.proofs.Reading.{reads}
use Rattle.pie_build.proofs.Asking.{changes_own, makes_none, makes_then}
use Rattle.pie_build.proofs.place.put_into_place.Goals as goal

pub returns-in_err-wrote-clause-rest : goal.returns-in_err-wrote-clause-rest
returns-in_err-wrote-clause-rest g c = same_keeps (g.F.Files.holds c.args.files.now) (g.F.Files.holds c.args.files.now) refl

pub returns-in_err-removed-clause-rest : goal.returns-in_err-removed-clause-rest
returns-in_err-removed-clause-rest g c = same_keeps (g.F.Files.holds c.args.files.now) (g.F.Files.holds c.removals.new.files) c.in_err-removed.ensures.same

pub returns-in_err-pending-clause-rest : goal.returns-in_err-pending-clause-rest
returns-in_err-pending-clause-rest g c = same_keeps (g.F.Files.holds c.args.files.now) (g.F.Files.holds c.end_of_pending.new.files)
    (c.in_err-pending.ensures.same ∙ c.in_ok-removed.ensures.same)

pub returns-in_err-plan-clause-rest : goal.returns-in_err-plan-clause-rest
returns-in_err-plan-clause-rest g c = same_keeps (g.F.Files.holds c.args.files.now) (g.F.Files.holds c.end_of_pending.new.files)
    (c.in_ok-pending.ensures.same ∙ c.in_ok-removed.ensures.same)

pub returns-in_err-report-clause-rest : goal.returns-in_err-report-clause-rest
returns-in_err-report-clause-rest g c = same_keeps (g.F.Files.holds c.args.files.now) (g.F.Files.holds c.end_of_pending.new.files)
    (c.in_ok-pending.ensures.same ∙ c.in_ok-removed.ensures.same)

pub returns-clause-rest : goal.returns-clause-rest
returns-clause-rest g c =
    let after = g.F.Files.holds c.commit_then.new.files in
    subst (λ (m : Option Directory). KeepsRest m after) (c.in_ok-pending.ensures.same ∙ c.in_ok-removed.ensures.same)
    (commit_keeps c.as_slice-3.result.now c.args.made.contents.items c.in_ok-pending.pending c.args.made.store c.in_ok-plan.plan
    c.in_ok-plan.ensures.plan (g.F.Files.holds c.end_of_pending.new.files) after c.commit_then.ensures.outside)

pub returns-clause-left : goal.returns-clause-left
returns-clause-left g c =
    let before = g.F.Files.holds c.args.files.now in
    let gone = c.in_ok-removed.removed.items in
    let contents = c.args.made.contents.items in
    let pending = c.in_ok-pending.pending in
    let store = c.args.made.store in
    let wrote : c.in_ok-wrote.wrote.items ≡ map (λ (f : List ℕ × Vec ℕ Global). f.0) contents =
    c.in_ok-wrote.ensures ∙ ap (map (λ (f : List ℕ × Vec ℕ Global). f.0)) c.as_slice.ensures.value in
    let plan : IsPlanOf gone contents pending store c.in_ok-plan.plan =
    subst (λ (x : List (List ℕ)). IsPlanOf x contents pending store c.in_ok-plan.plan) c.as_slice-3.ensures.value c.in_ok-plan.ensures.plan in
    let removals : IfSome before (λ (d : Directory). IsPlan (files_under d (codes "out")) (map (λ (f : List ℕ × Vec ℕ Global). f.0) contents) gone) =
    subst (λ (x : List (List ℕ)). IfSome before (λ (d : Directory). IsPlan (files_under d (codes "out")) x gone)) (c.as_slice-2.ensures.value ∙ wrote)
    c.in_ok-removed.ensures.plan in
    puts_after before (g.F.Files.holds c.end_of_pending.new.files) (g.F.Files.holds c.commit_then.new.files) gone contents pending store c.in_ok-plan.plan
    c.in_ok-report.report c.commit_then.result (c.in_ok-pending.ensures.same ∙ c.in_ok-removed.ensures.same)
    (fits_before before (g.F.Files.holds c.removals.new.files) gone contents pending c.in_ok-removed.ensures.same c.requires.ascending removals c.in_ok-pending.ensures.gone)
    plan
    (brought_commit gone contents pending store c.in_ok-plan.plan plan g.F.Files.holds g.F.Files.images c.end_of_pending.new.files c.commit_then.new.files
    c.commit_then.result c.commit_then.ensures.done) c.commit_then.ensures.outside c.commit_then.ensures.report c.in_ok-report.ensures.verdict
    (ap (λ v. v.items) c.in_ok-report.ensures.wrote ∙ wrote) (ap (λ v. v.items) c.in_ok-report.ensures.removed)

pub returns-in_err-report-clause-crash : goal.returns-in_err-report-clause-crash
returns-in_err-report-clause-crash g c =
    withstands_still g.F.Files.holds g.F.Files.moment g.F.Files.left_since g.F.Files.images (PutsMade c.args.made c.args.ran) c.args.files.now
    c.end_of_pending.new.files
    (both_before g.F.Files.holds g.F.Files.moment g.F.Files.left_since g.F.Files.images c.args.files.now c.removals.new.files c.end_of_pending.new.files
    c.in_ok-removed.ensures.same c.in_ok-removed.ensures.crash c.in_ok-pending.ensures.crash)

pub returns-clause-crash : goal.returns-clause-crash
returns-clause-crash g c =
    let before = g.F.Files.holds c.args.files.now in
    let gone = c.in_ok-removed.removed.items in
    let contents = c.args.made.contents.items in
    let pending = c.in_ok-pending.pending in
    let store = c.args.made.store in
    let wrote : c.in_ok-wrote.wrote.items ≡ map (λ (f : List ℕ × Vec ℕ Global). f.0) contents =
    c.in_ok-wrote.ensures ∙ ap (map (λ (f : List ℕ × Vec ℕ Global). f.0)) c.as_slice.ensures.value in
    let plan : IsPlanOf gone contents pending store c.in_ok-plan.plan =
    subst (λ (x : List (List ℕ)). IsPlanOf x contents pending store c.in_ok-plan.plan) c.as_slice-3.ensures.value c.in_ok-plan.ensures.plan in
    let removals : IfSome before (λ (d : Directory). IsPlan (files_under d (codes "out")) (map (λ (f : List ℕ × Vec ℕ Global). f.0) contents) gone) =
    subst (λ (x : List (List ℕ)). IfSome before (λ (d : Directory). IsPlan (files_under d (codes "out")) x gone)) (c.as_slice-2.ensures.value ∙ wrote)
    c.in_ok-removed.ensures.plan in
    let same = c.in_ok-pending.ensures.same ∙ c.in_ok-removed.ensures.same in
    let fits = fits_before before (g.F.Files.holds c.removals.new.files) gone contents pending c.in_ok-removed.ensures.same c.requires.ascending removals
    c.in_ok-pending.ensures.gone in
    withstands_then g.F.Files.holds g.F.Files.moment g.F.Files.left_since g.F.Files.images (PutsMade c.args.made c.args.ran) c.args.files.now
    c.end_of_pending.new.files c.commit_then.new.files same
    (both_before g.F.Files.holds g.F.Files.moment g.F.Files.left_since g.F.Files.images c.args.files.now c.removals.new.files c.end_of_pending.new.files
    c.in_ok-removed.ensures.same c.in_ok-removed.ensures.crash c.in_ok-pending.ensures.crash)
    (withstands_commit gone contents pending store c.in_ok-plan.plan plan g.F.Files.holds g.F.Files.moment g.F.Files.left_since g.F.Files.images
    (PutsMade c.args.made c.args.ran) c.in_ok-report.report c.end_of_pending.new.files c.commit_then.new.files c.commit_then.result
    (λ d after puts. (
      puts,
      record {
        fresh = c.in_ok-report.ensures.fresh;
        live = c.in_ok-report.ensures.live;
        ran = c.in_ok-report.ensures.ran;
        outputs = c.in_ok-report.ensures.outputs;
      },
    ))
    (subst (λ (m : Option Directory). IfSome m (λ (d : Directory). Fits d gone contents pending)) (sym same) fits)
    c.in_ok-report.ensures.verdict (ap (λ v. v.items) c.in_ok-report.ensures.wrote ∙ wrote) (ap (λ v. v.items) c.in_ok-report.ensures.removed)
    c.commit_then.ensures.crash c.commit_then.ensures.failed c.commit_then.ensures.done)

pub returns-clause-durable : goal.returns-clause-durable
returns-clause-durable g c =
    let contents = c.args.made.contents.items in
    let store = c.args.made.store in
    let plan : IsPlanOf c.in_ok-removed.removed.items contents c.in_ok-pending.pending store c.in_ok-plan.plan =
    subst (λ (x : List (List ℕ)). IsPlanOf x contents c.in_ok-pending.pending store c.in_ok-plan.plan) c.as_slice-3.ensures.value c.in_ok-plan.ensures.plan in
    rests_ok g.F.Files.holds g.F.Files.moment g.F.Files.left_since g.F.Files.images c.args.files.now c.end_of_pending.new.files c.commit_then.new.files
    c.commit_then.result (c.in_ok-pending.ensures.same ∙ c.in_ok-removed.ensures.same)
    (both_before g.F.Files.holds g.F.Files.moment g.F.Files.left_since g.F.Files.images c.args.files.now c.removals.new.files c.end_of_pending.new.files
    c.in_ok-removed.ensures.same c.in_ok-removed.ensures.crash c.in_ok-pending.ensures.crash)
    (rests_commit c.in_ok-removed.removed.items contents c.in_ok-pending.pending store c.in_ok-plan.plan plan g.F.Files.holds g.F.Files.images
    c.end_of_pending.new.files c.commit_then.new.files c.commit_then.result c.commit_then.ensures.done)

pub returns-clause-report : goal.returns-clause-report
returns-clause-report g c = report_of c.args.made c.args.ran c.in_ok-report.report c.commit_then.result c.commit_then.ensures.report (record {
  fresh = c.in_ok-report.ensures.fresh;
  live = c.in_ok-report.ensures.live;
  ran = c.in_ok-report.ensures.ran;
  outputs = c.in_ok-report.ensures.outputs;
})

pub returns-in_err-pending-clause-crash : goal.returns-in_err-pending-clause-crash
returns-in_err-pending-clause-crash g c = grind (arith, withstands_still, withstands_none, reads)

pub returns-in_err-plan-clause-crash : goal.returns-in_err-plan-clause-crash
returns-in_err-plan-clause-crash g c = grind (arith, withstands_still, withstands_none, reads)

pub returns-in_err-removed-clause-crash : goal.returns-in_err-removed-clause-crash
returns-in_err-removed-clause-crash g c = grind (arith, withstands_still, withstands_none, reads)

pub returns-in_err-wrote-clause-crash : goal.returns-in_err-wrote-clause-crash
returns-in_err-wrote-clause-crash g c = grind (arith, withstands_none)

pub returns-in_err-wrote-clause-asks : goal.returns-in_err-wrote-clause-asks
returns-in_err-wrote-clause-asks g c =
    makes_none (g.F.Files.asked c.args.files.now) (g.F.Files.asked c.args.files.now) refl

pub returns-in_err-removed-clause-asks : goal.returns-in_err-removed-clause-asks
returns-in_err-removed-clause-asks g c =
    c.removals.ensures.asks

pub returns-in_err-pending-clause-asks : goal.returns-in_err-pending-clause-asks
returns-in_err-pending-clause-asks g c =
    makes_then (g.F.Files.asked c.args.files.now) (g.F.Files.asked c.removals.new.files) (g.F.Files.asked c.end_of_pending.new.files) c.removals.ensures.asks c.end_of_pending.ensures.asks

pub returns-in_err-plan-clause-asks : goal.returns-in_err-plan-clause-asks
returns-in_err-plan-clause-asks g c =
    makes_then (g.F.Files.asked c.args.files.now) (g.F.Files.asked c.removals.new.files) (g.F.Files.asked c.end_of_pending.new.files) c.removals.ensures.asks c.end_of_pending.ensures.asks

pub returns-in_err-report-clause-asks : goal.returns-in_err-report-clause-asks
returns-in_err-report-clause-asks g c =
    makes_then (g.F.Files.asked c.args.files.now) (g.F.Files.asked c.removals.new.files) (g.F.Files.asked c.end_of_pending.new.files) c.removals.ensures.asks c.end_of_pending.ensures.asks

pub returns-clause-asks : goal.returns-clause-asks
returns-clause-asks g c =
    makes_then (g.F.Files.asked c.args.files.now) (g.F.Files.asked c.end_of_pending.new.files) (g.F.Files.asked c.commit_then.new.files)
    (makes_then (g.F.Files.asked c.args.files.now) (g.F.Files.asked c.removals.new.files) (g.F.Files.asked c.end_of_pending.new.files) c.removals.ensures.asks c.end_of_pending.ensures.asks)
    (changes_own c.as_slice-3.result.now c.args.made.contents.items c.in_ok-pending.pending c.args.made.store c.in_ok-plan.plan c.in_ok-plan.ensures.plan
    (g.F.Files.asked c.end_of_pending.new.files) (g.F.Files.asked c.commit_then.new.files) c.commit_then.ensures.asks)
