use Rattle.std.proofs.Common.{rules, ◌≡◌, [], ◌∷◌, inr, refl, subst}
use Rattle.pie_commit.specs.inner.Plans.{Bytes, at}
use Rattle.pie_commit.proofs.Bringing.{in_any_case, write_brought, brought_still}
use Rattle.pie_files.specs.Images.{MayWrite}
use Rattle.pie_commit.specs.Outcomes.{IsEarly}
use Rattle.pie_commit.proofs.Standing.{call_rest, sync_rest, early_still, begins, told_by}
use Rattle.pie_commit.proofs.Others.{marker_own, write_keeps_others, wrote_keeps_others, keeps_both, keeps_same}
use Rattle.std.specs.Prelude.{Ok, Err}
use Rattle.pie_commit.specs.inner.Steps.{Writes, Syncs, Makes, beginning}
use Rattle.pie_commit.proofs.Stepping.{makes_write, makes_then, makes_stops}
use Rattle.pie_commit.proofs.parts.begin.Goals as goal

pub returns-clause-done : goal.returns-clause-done
returns-clause-done g c =
    let w = c.in_ok-write.ensures.written in
    in_any_case c.make_last.result (brought_still (at c.args.plan.now.marker (Bytes [])) (g.F.Files.holds c.args.files.now) (g.F.Files.holds
    c.write.new.self) (g.F.Files.holds c.make_last.new.files)
    c.make_last.ensures.same (write_brought (g.F.Files.holds c.args.files.now) (g.F.Files.holds c.write.new.self) c.args.plan.now.marker [] w.0 w.1))

pub returns-in_err-write-clause-crash : goal.returns-in_err-write-clause-crash
returns-in_err-write-clause-crash g c =
    let p = c.args.plan.now in
    call_rest g.F.Files.holds g.F.Files.moment g.F.Files.left_since g.F.Files.images (MayWrite p.marker) (IsEarly p) c.args.files.now
    c.write.new.self (early_still p) (λ d. inr refl) c.write.ensures.crash

pub returns-clause-crash : goal.returns-clause-crash
returns-clause-crash g c =
    let p = c.args.plan.now in
    let w = c.in_ok-write.ensures.written in
    let told = told_by (at c.args.plan.now.marker (Bytes [])) (g.F.Files.holds c.args.files.now) (g.F.Files.holds c.write.new.self) (write_brought
    (g.F.Files.holds c.args.files.now) (g.F.Files.holds c.write.new.self) p.marker [] w.0 w.1) in
    sync_rest g.F.Files.holds g.F.Files.moment g.F.Files.left_since g.F.Files.images (IsEarly p) c.args.files.now c.write.new.self c.make_last.new.files told
    (call_rest g.F.Files.holds g.F.Files.moment g.F.Files.left_since g.F.Files.images (MayWrite p.marker) (IsEarly p) c.args.files.now
    c.write.new.self (early_still p) (λ d. inr refl) c.in_ok-write.ensures.crash)
    c.make_last.ensures.crash

pub returns-clause-stands : goal.returns-clause-stands
returns-clause-stands g c =
    let w = c.in_ok-write.ensures.written in
    begins c.args.plan.now (g.F.Files.images c.make_last.new.files) (g.F.Files.holds c.args.files.now) (g.F.Files.holds c.write.new.self) w.0
    c.make_last.result w.1 c.make_last.ensures.durable

pub returns-in_err-write-clause-outside : goal.returns-in_err-write-clause-outside
returns-in_err-write-clause-outside g c =
    let p = c.args.plan.now in
    write_keeps_others _ p (g.F.Files.holds c.args.files.now) (g.F.Files.holds c.write.new.self) p.marker [] c.write.result (marker_own p)
    c.write.ensures.written c.write.ensures.failed c.write.ensures.unchanged

pub returns-clause-outside : goal.returns-clause-outside
returns-clause-outside g c =
    let p = c.args.plan.now in
    let w = c.in_ok-write.ensures.written in
    keeps_both p (g.F.Files.holds c.args.files.now) (g.F.Files.holds c.write.new.self) (g.F.Files.holds c.make_last.new.files)
    (wrote_keeps_others p (g.F.Files.holds c.args.files.now) (g.F.Files.holds c.write.new.self) p.marker [] w.0 (marker_own p) w.1)
    (keeps_same p (g.F.Files.holds c.write.new.self) (g.F.Files.holds c.make_last.new.files) c.make_last.ensures.same)

pub returns-in_err-write-clause-makes : goal.returns-in_err-write-clause-makes
returns-in_err-write-clause-makes g c =
    let marker = c.args.plan.now.marker in
    let e = c.in_err-write.field-0.0 in
    let same : Err e ≡ c.from_residual.result = search rules in
    subst (λ r. Makes g.F.Files.asked (beginning c.args.plan.now) c.args.files.now c.write.new.self r) same
    (makes_stops g.F.Files.asked e (Writes marker ∷ []) (Syncs ∷ []) c.args.files.now c.write.new.self
    (makes_write g.F.Files.asked (Err e) g.F.Files.faults marker c.args.files.now c.write.new.self c.in_err-write.ensures.called))

pub returns-clause-makes : goal.returns-clause-makes
returns-clause-makes g c =
    let marker = c.args.plan.now.marker in
    makes_then g.F.Files.asked c.make_last.result c.in_ok-write.field-0 (Writes marker ∷ []) (Syncs ∷ []) c.args.files.now c.write.new.self c.make_last.new.files
    (makes_write g.F.Files.asked (Ok c.in_ok-write.field-0) g.F.Files.faults marker c.args.files.now c.write.new.self c.in_ok-write.ensures.called)
    c.make_last.ensures.makes
