use Rattle.std.proofs.Common.{◌≡◌, None, arith, sym, subst}
use Rattle.std.specs.Prelude.{Contains}
use Rattle.std.proofs.lemmas.Result.{IfOk-weaker}
use Rattle.std.proofs.lemmas.List.Elements.{Contains-push}
use Rattle.pie_fresh.specs.inner.Frames.{HasEvaluated, IsIdle}
use Rattle.pie_fresh.specs.inner.Turns.{Begins, Begun}
use Rattle.pie_fresh.specs.inner.Means.{NewAs}
use Rattle.pie_fresh.proofs.Growing.{started_then, starts_same}
use Rattle.pie_fresh.proofs.Entering.{begun_runs}
use Rattle.pie_fresh.proofs.Leaving.{if_ok}
use Rattle.pie_fresh.proofs.Rooting.{begins_runs, begins_refused}
use Rattle.pie_fresh.proofs.AskingSince.{begin_asks, begin_asks_none}
use Rattle.pie_fresh.proofs.builder.Builder.begin.Goals as goal

pub run-requires : goal.run-requires
run-requires g c =
    begun_runs c.args.self.now c.enter.new.self c.args.root.now c.in-Runs.frame c.requires.idle
    (subst (λ e. Begins c.args.self.now c.enter.new.self c.args.root.now e) c.in-Runs.is c.in_ok-frame.ensures.begins)

pub returns-in-Runs-clause-done : goal.returns-in-Runs-clause-done
returns-in-Runs-clause-done g c =
    let begun : Begun c.args.self.now c.enter.new.self c.args.root.now c.in-Runs.frame
    = subst (λ e. Begins c.args.self.now c.enter.new.self c.args.root.now e) c.in-Runs.is c.in_ok-frame.ensures.begins in
    let named : Contains c.run.new.self.ledger.names c.args.root.now
    = c.run.ensures.started.enters.kept c.args.root.now (subst (λ ts. Contains ts c.args.root.now) (sym begun.names)
    (Contains-push c.args.self.now.ledger.names c.args.root.now)) in
    IfOk-weaker c.run.result (λ why. why ≡ None → IsIdle c.run.new.self) (λ why. why ≡ None → HasEvaluated c.run.new.self c.args.root.now)
    (λ why h none. record { idle = h none; named = named }) c.run.ensures.idle

pub returns-in-Runs-clause-started : goal.returns-in-Runs-clause-started
returns-in-Runs-clause-started g c =
    started_then c.run.result c.args.self.now.ledger.names c.enter.new.self.ledger.names c.run.new.self.ledger.names c.args.runs.now c.enter.new.runs
    c.run.new.runs c.in_ok-frame.ensures.started.enters c.in_ok-frame.ensures.started.starts c.run.ensures.started

pub returns-in-Refused-clause-started : goal.returns-in-Refused-clause-started
returns-in-Refused-clause-started g c = record { enters = c.enter.ensures.started.enters; starts = c.in_ok-frame.ensures.started.starts }

pub returns-in_err-frame-clause-started : goal.returns-in_err-frame-clause-started
returns-in_err-frame-clause-started g c = record { enters = c.enter.ensures.started.enters; starts = grind (arith, starts_same) }

pub returns-in-Runs-clause-means : goal.returns-in-Runs-clause-means
returns-in-Runs-clause-means g c =
    if_ok _ _ c.run.result (begins_runs (g.F.Files.holds c.args.files.now) c.args.self.now c.enter.new.self c.run.new.self c.args.root.now c.in-Runs.frame
    (subst (λ e. NewAs c.args.self.now c.enter.new.self c.args.root.now e) c.in-Runs.is c.in_ok-frame.ensures.means)) c.run.ensures.means

pub returns-in-Refused-clause-means : goal.returns-in-Refused-clause-means
returns-in-Refused-clause-means g c =
    begins_refused (g.F.Files.holds c.args.files.now) c.args.self.now c.enter.new.self c.args.root.now c.in-Refused.refusal
    (subst (λ e. NewAs c.args.self.now c.enter.new.self c.args.root.now e) c.in-Refused.is c.in_ok-frame.ensures.means)

pub returns-in-Runs-clause-asks : goal.returns-in-Runs-clause-asks
returns-in-Runs-clause-asks g c =
    begin_asks (g.F.Files.holds c.args.files.now) c.args.self.now c.enter.new.self c.args.root.now c.in-Runs.frame c.run.new.self.ledger.names c.args.runs.now
    c.enter.new.runs c.run.new.runs (g.F.Files.asked c.args.files.now) (g.F.Files.asked c.run.new.files)
    (subst (λ e. NewAs c.args.self.now c.enter.new.self c.args.root.now e) c.in-Runs.is c.in_ok-frame.ensures.means) c.in_ok-frame.ensures.started.starts
    c.run.ensures.started.enters c.run.ensures.asks

pub returns-in-Refused-clause-asks : goal.returns-in-Refused-clause-asks
returns-in-Refused-clause-asks g c =
    begin_asks_none (g.F.Files.holds c.args.files.now) c.args.self.now c.args.root.now c.args.runs.now c.enter.new.runs (g.F.Files.asked c.args.files.now)

pub returns-in_err-frame-clause-asks : goal.returns-in_err-frame-clause-asks
returns-in_err-frame-clause-asks g c =
    begin_asks_none (g.F.Files.holds c.args.files.now) c.args.self.now c.args.root.now c.args.runs.now c.enter.new.runs (g.F.Files.asked c.args.files.now)
