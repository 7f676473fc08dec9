use Rattle.std.proofs.Common.{ℕ, List, subst, rules}
use Rattle.std.specs.Prelude.{IfSome}
use Rattle.pie_incremental.specs.Clean.{BuildsClean}
use Rattle.pie_incremental.specs.Treated.{TreatsNames}
use Rattle.pie_incremental.specs.Asked.{AsksRight}
use Rattle.pie_incremental.specs.Crashes.{MayStop}
use Rattle.pie_commit.specs.Outcomes.{LeavesFromRest}
use Rattle.pie_replay.proofs.Refusing.{is_refusal}
use Rattle.pie_replay.proofs.step.build_into.Goals as goal

pub returns-in-Err-clause-fails : goal.returns-in-Err-clause-fails
returns-in-Err-clause-fails g c = (c.in-Err.ensures.files.rest, λ refuses. c.in-Err.ensures.refuses.refused (is_refusal c.in-Err.error refuses))

pub returns-in-Ok-clause-goes : goal.returns-in-Ok-clause-goes
returns-in-Ok-clause-goes g c = (
  c.in-Ok.report,
  record {
    rest = c.in-Ok.ensures.files.rest;
    treated = subst (λ (ns : List (List ℕ)). IfSome (g.F.Files.holds c.args.files.now) (λ d. TreatsNames ns d c.in-Ok.report (g.F.Files.holds c.build.new.files)))
        c.as_slice.ensures.value c.in-Ok.ensures.names;
    few = c.in-Ok.ensures.runs.most;
    clean = subst (λ (ns : List (List ℕ)). IfSome (g.F.Files.holds c.args.files.now) (λ d. BuildsClean ns d c.in-Ok.report (g.F.Files.holds c.build.new.files)))
        c.as_slice.ensures.value c.in-Ok.ensures.clean;
    encodable = c.in-Ok.ensures.runs.encodable;
  },
  subst (λ (ns : List (List ℕ)). IfSome (g.F.Files.holds c.args.files.now) (λ d. AsksRight ns d c.in-Ok.report (g.F.Files.asked c.args.files.now)
      (g.F.Files.asked c.build.new.files))) c.as_slice.ensures.value c.in-Ok.ensures.asks,
  search rules,
  search rules,
  c.in-Ok.ensures.runs.ran,
)

pub returns-in-Ok-clause-crash : goal.returns-in-Ok-clause-crash
returns-in-Ok-clause-crash g c =
    subst (λ (ns : List (List ℕ)). LeavesFromRest g.F.Files.holds g.F.Files.moment g.F.Files.left_since g.F.Files.images (MayStop ns) c.args.files.now
    c.build.new.files) c.as_slice.ensures.value c.build.ensures.files.crash

pub returns-in-Err-clause-crash : goal.returns-in-Err-clause-crash
returns-in-Err-clause-crash g c =
    subst (λ (ns : List (List ℕ)). LeavesFromRest g.F.Files.holds g.F.Files.moment g.F.Files.left_since g.F.Files.images (MayStop ns) c.args.files.now
    c.build.new.files) c.as_slice.ensures.value c.build.ensures.files.crash

pub returns-in-Ok-clause-rests : goal.returns-in-Ok-clause-rests
returns-in-Ok-clause-rests g c = c.in-Ok.ensures.files.durable tt
