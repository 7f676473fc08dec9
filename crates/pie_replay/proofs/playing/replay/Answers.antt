use Rattle.std.proofs.Common.{Err, Ok, arith, drop, map, refl, rules, ◌≡◌, ◌+◌}
use Rattle.pie_script.specs.Steps.{plain}
use Rattle.pie_replay.proofs.Keeping.{replays_keep}
use Rattle.pie_replay.proofs.Tracing.{begins, ends, goes_on, next_step, none_left, stops}
use Rattle.pie_replay.proofs.playing.replay.Goals as goal

pub loop-step-init : goal.loop-step-init
loop-step-init g c =
    begins g.F.Files.holds g.F.Files.moment g.F.Files.left_since g.F.Files.images g.F.Files.asked g.F.Files.faults (map plain c.args.steps.now) (map plain
    c.args.steps.now) c.args.files.now c.new-names.result.items
    c.args.done.now.items c.args.runs.now refl c.new-names.ensures.items

pub returns-in_err-go-clause-replays : goal.returns-in_err-go-clause-replays
returns-in_err-go-clause-replays g c =
    let step = c.step-item.result in
    let failed : Err c.in_err-go.field-0.0 ≡ c.from_residual.result = search rules in
    stops g.F.Files.holds g.F.Files.moment g.F.Files.left_since g.F.Files.images g.F.Files.asked g.F.Files.faults (map plain c.args.steps.now) (map plain
    (drop c.loop-step.step-index c.args.steps.now))
    (map plain (drop (c.loop-step.step-index + 1) c.args.steps.now)) (plain step) c.args.files.now c.loop-step.files c.go.new.files c.loop-step.names.items
    c.args.done.now.items c.loop-step.done.items c.go.new.done.items c.args.runs.now c.loop-step.runs c.go.new.runs c.in_err-go.field-0.0
    c.from_residual.result failed c.loop-step.invariant (next_step c.args.steps.now c.loop-step.step-index step c.loop-step-test.true c.step-item.is)
    c.in_err-go.ensures.fails c.go.ensures.crash c.in_err-go.ensures.reports

pub returns-in_err-go-clause-rest : goal.returns-in_err-go-clause-rest
returns-in_err-go-clause-rest g c =
    replays_keep g.F.Files.holds g.F.Files.moment g.F.Files.left_since g.F.Files.images g.F.Files.asked (map plain c.args.steps.now) c.args.files.now
    c.go.new.files c.args.done.now.items c.go.new.done.items c.args.runs.now
    c.go.new.runs c.from_residual.result (returns-in_err-go-clause-replays g c)

pub loop-step-preserved : goal.loop-step-preserved
loop-step-preserved g c =
    let step = c.step-item.result in
    goes_on g.F.Files.holds g.F.Files.moment g.F.Files.left_since g.F.Files.images g.F.Files.asked g.F.Files.faults (map plain c.args.steps.now) (map plain
    (drop c.loop-step.step-index c.args.steps.now))
    (map plain (drop (c.loop-step.step-index + 1) c.args.steps.now)) (plain step) c.args.files.now c.loop-step.files c.go.new.files c.loop-step.names.items
    c.go.new.names.items c.args.done.now.items c.loop-step.done.items c.go.new.done.items c.args.runs.now c.loop-step.runs c.go.new.runs
    c.loop-step.invariant (next_step c.args.steps.now c.loop-step.step-index step c.loop-step-test.true c.step-item.is)
    c.in_ok-go.ensures.goes c.go.ensures.crash c.in_ok-go.ensures.rests (c.in_ok-go.ensures.told.steady (tt {0}))

pub returns-clause-replays : goal.returns-clause-replays
returns-clause-replays g c =
    let left = map plain (drop c.loop-step.step-index c.args.steps.now) in
    let none = none_left c.args.steps.now c.loop-step.step-index (omega (arith, c.loop-step-test.false)) in
    ends g.F.Files.holds g.F.Files.moment g.F.Files.left_since g.F.Files.images g.F.Files.asked g.F.Files.faults (map plain c.args.steps.now) left
    c.args.files.now c.loop-step.files c.loop-step.names.items c.args.done.now.items c.loop-step.done.items c.args.runs.now c.loop-step.runs (tt {0})
    c.loop-step.invariant none

pub returns-clause-rest : goal.returns-clause-rest
returns-clause-rest g c =
    replays_keep g.F.Files.holds g.F.Files.moment g.F.Files.left_since g.F.Files.images g.F.Files.asked (map plain c.args.steps.now) c.args.files.now
    c.loop-step.files c.args.done.now.items c.loop-step.done.items c.args.runs.now c.loop-step.runs (Ok (tt {0})) (returns-clause-replays g c)
