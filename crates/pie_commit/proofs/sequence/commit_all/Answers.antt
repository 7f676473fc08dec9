use Rattle.std.proofs.Common.{ℕ, List, [], rules, ◌≡◌, ◌++◌, subst}
use Rattle.pie_commit.specs.inner.Plans.{Bytes, Gone, changes, at, later, wanted_by}
use Rattle.pie_commit.proofs.Bringing.{brought_both, brought_as, marked_then, on_ok}
use Rattle.pie_commit.proofs.Standing.{told_by}
use Rattle.pie_commit.proofs.Ending.{in_any_err, begin_failed, three_changed, three_ended, crash_of, failed_of}
use Rattle.pie_commit.proofs.Others.{keeps_both}
use Rattle.std.specs.Prelude.{Err}
use Rattle.pie_commit.specs.inner.Steps.{Makes, steps_of, beginning, changing, ending}
use Rattle.pie_commit.proofs.Stepping.{makes_then, makes_stops}
use Rattle.pie_commit.proofs.sequence.commit_all.Goals as goal

pub returns-clause-done : goal.returns-clause-done
returns-clause-done g c =
    let p = c.args.plan.now in
    let a = g.F.Files.holds c.args.files.now in
    let b = g.F.Files.holds c.end.new.files in
    let marked = at p.marker (Bytes []) in
    let changed = λ (q : List ℕ). later (changes p q) (marked q) in
    let two = brought_both marked (changes p) a (g.F.Files.holds c.begin.new.files) (g.F.Files.holds c.change.new.files) c.in_ok-begin.ensures.done
    c.in_ok-change.ensures.done in
    on_ok c.end.result (λ gone. brought_as (λ q. later (at p.marker Gone q) (changed q)) (wanted_by p) a b (marked_then p)
    (brought_both changed (at p.marker Gone) a (g.F.Files.holds c.change.new.files) b two gone)) c.end.ensures.done

pub returns-in_err-begin-clause-failed : goal.returns-in_err-begin-clause-failed
returns-in_err-begin-clause-failed g c =
    in_any_err c.from_residual.result (begin_failed g.F.Files.holds g.F.Files.moment g.F.Files.left_since g.F.Files.images c.args.plan.now
    c.args.files.now c.begin.new.files c.begin.ensures.crash)

pub returns-in_err-change-clause-crash : goal.returns-in_err-change-clause-crash
returns-in_err-change-clause-crash g c =
    let p = c.args.plan.now in
    let told = told_by (at p.marker (Bytes [])) (g.F.Files.holds c.args.files.now) (g.F.Files.holds c.begin.new.files) c.in_ok-begin.ensures.done in
    three_changed g.F.Files.holds g.F.Files.moment g.F.Files.left_since g.F.Files.images p c.args.files.now c.begin.new.files c.change.new.files told
    c.in_ok-begin.ensures.crash c.in_ok-begin.ensures.stands c.change.ensures.crash

pub returns-clause-crash : goal.returns-clause-crash
returns-clause-crash g c =
    let p = c.args.plan.now in
    let told = told_by (at p.marker (Bytes [])) (g.F.Files.holds c.args.files.now) (g.F.Files.holds c.begin.new.files) c.in_ok-begin.ensures.done in
    let brought = brought_both (at p.marker (Bytes [])) (changes p) (g.F.Files.holds c.args.files.now) (g.F.Files.holds c.begin.new.files)
    (g.F.Files.holds c.change.new.files)
    c.in_ok-begin.ensures.done c.in_ok-change.ensures.done in
    let two = three_changed g.F.Files.holds g.F.Files.moment g.F.Files.left_since g.F.Files.images p c.args.files.now c.begin.new.files
    c.change.new.files told c.in_ok-begin.ensures.crash
    c.in_ok-begin.ensures.stands c.in_ok-change.ensures.crash in
    let all = three_ended g.F.Files.holds g.F.Files.moment g.F.Files.left_since g.F.Files.images p c.args.files.now c.begin.new.files
    c.change.new.files c.end.new.files told brought
    c.in_ok-change.ensures.durable c.end.ensures.crash two in
    crash_of g.F.Files.holds g.F.Files.moment g.F.Files.left_since g.F.Files.images p c.args.files.now c.end.new.files all

pub returns-clause-failed : goal.returns-clause-failed
returns-clause-failed g c =
    let p = c.args.plan.now in
    let told = told_by (at p.marker (Bytes [])) (g.F.Files.holds c.args.files.now) (g.F.Files.holds c.begin.new.files) c.in_ok-begin.ensures.done in
    let brought = brought_both (at p.marker (Bytes [])) (changes p) (g.F.Files.holds c.args.files.now) (g.F.Files.holds c.begin.new.files)
    (g.F.Files.holds c.change.new.files)
    c.in_ok-begin.ensures.done c.in_ok-change.ensures.done in
    let two = three_changed g.F.Files.holds g.F.Files.moment g.F.Files.left_since g.F.Files.images p c.args.files.now c.begin.new.files
    c.change.new.files told c.in_ok-begin.ensures.crash
    c.in_ok-begin.ensures.stands c.in_ok-change.ensures.crash in
    let all = three_ended g.F.Files.holds g.F.Files.moment g.F.Files.left_since g.F.Files.images p c.args.files.now c.begin.new.files
    c.change.new.files c.end.new.files told brought
    c.in_ok-change.ensures.durable c.end.ensures.crash two in
    in_any_err c.end.result (failed_of g.F.Files.holds g.F.Files.moment g.F.Files.left_since g.F.Files.images p c.args.files.now c.end.new.files all)

pub returns-in_err-change-clause-outside : goal.returns-in_err-change-clause-outside
returns-in_err-change-clause-outside g c =
    keeps_both c.args.plan.now (g.F.Files.holds c.args.files.now) (g.F.Files.holds c.begin.new.files) (g.F.Files.holds c.change.new.files)
    c.in_ok-begin.ensures.outside c.change.ensures.outside

pub returns-clause-outside : goal.returns-clause-outside
returns-clause-outside g c =
    let p = c.args.plan.now in
    let a = g.F.Files.holds c.args.files.now in
    keeps_both p a (g.F.Files.holds c.change.new.files) (g.F.Files.holds c.end.new.files)
    (keeps_both p a (g.F.Files.holds c.begin.new.files) (g.F.Files.holds c.change.new.files) c.in_ok-begin.ensures.outside c.in_ok-change.ensures.outside)
    c.end.ensures.outside

pub returns-in_err-begin-clause-makes : goal.returns-in_err-begin-clause-makes
returns-in_err-begin-clause-makes g c =
    let p = c.args.plan.now in
    let e = c.in_err-begin.field-0.0 in
    let failed : Err e ≡ c.from_residual.result = search rules in
    subst (λ r. Makes g.F.Files.asked (steps_of p) c.args.files.now c.begin.new.files r) failed
    (makes_stops g.F.Files.asked e (beginning p) ((changing p) ++ (ending p)) c.args.files.now c.begin.new.files c.in_err-begin.ensures.makes)

pub returns-in_err-change-clause-makes : goal.returns-in_err-change-clause-makes
returns-in_err-change-clause-makes g c =
    let p = c.args.plan.now in
    let e = c.in_err-change.field-0.0 in
    let failed : Err e ≡ c.from_residual-in_err-change.result = search rules in
    subst (λ r. Makes g.F.Files.asked (steps_of p) c.args.files.now c.change.new.files r) failed
    (makes_then g.F.Files.asked (Err e) c.in_ok-begin.field-0 (beginning p) ((changing p) ++ (ending p)) c.args.files.now c.begin.new.files c.change.new.files c.in_ok-begin.ensures.makes
    (makes_stops g.F.Files.asked e (changing p) (ending p) c.begin.new.files c.change.new.files c.in_err-change.ensures.makes))

pub returns-clause-makes : goal.returns-clause-makes
returns-clause-makes g c =
    let p = c.args.plan.now in
    (makes_then g.F.Files.asked c.end.result c.in_ok-begin.field-0 (beginning p) ((changing p) ++ (ending p)) c.args.files.now c.begin.new.files c.end.new.files c.in_ok-begin.ensures.makes
    (makes_then g.F.Files.asked c.end.result c.in_ok-change.field-0 (changing p) (ending p) c.begin.new.files c.change.new.files c.end.new.files c.in_ok-change.ensures.makes
    c.end.ensures.makes))
