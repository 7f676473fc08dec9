use Rattle.pie_commit.specs.inner.Plans.{Gone, at}
use Rattle.pie_commit.proofs.Bringing.{in_any_case, removal_brought, brought_still}
use Rattle.std.proofs.Common.{inl, refl, rules, ◌≡◌, [], ◌∷◌, subst}
use Rattle.pie_files.specs.Images.{MayRemove}
use Rattle.pie_commit.specs.Outcomes.{IsEnding}
use Rattle.pie_commit.proofs.Standing.{call_rest, sync_rest, ending_still, rests, told_by}
use Rattle.pie_commit.proofs.Others.{marker_own, removal_keeps_others, gone_keeps_others, keeps_both, keeps_same}
use Rattle.std.specs.Prelude.{Ok, Err}
use Rattle.pie_commit.specs.inner.Steps.{Removes, Syncs, Makes, ending}
use Rattle.pie_commit.proofs.Stepping.{makes_remove, makes_then, makes_stops}
use Rattle.pie_commit.proofs.parts.end.Goals as goal

pub returns-clause-done : goal.returns-clause-done
returns-clause-done g c =
    in_any_case c.make_last.result (brought_still (at c.args.plan.now.marker Gone) (g.F.Files.holds c.args.files.now) (g.F.Files.holds
    c.remove.new.self) (g.F.Files.holds c.make_last.new.files)
    c.make_last.ensures.same (removal_brought (g.F.Files.holds c.args.files.now) (g.F.Files.holds c.remove.new.self) c.args.plan.now.marker
    c.in_ok-remove.ensures.removed))

pub returns-in_err-remove-clause-crash : goal.returns-in_err-remove-clause-crash
returns-in_err-remove-clause-crash g c =
    let marker = c.args.plan.now.marker in
    call_rest g.F.Files.holds g.F.Files.moment g.F.Files.left_since g.F.Files.images (MayRemove marker) (IsEnding marker) c.args.files.now
    c.remove.new.self (ending_still marker) (λ d. inl refl) c.remove.ensures.crash

pub returns-clause-crash : goal.returns-clause-crash
returns-clause-crash g c =
    let marker = c.args.plan.now.marker in
    let told = told_by (at c.args.plan.now.marker Gone) (g.F.Files.holds c.args.files.now) (g.F.Files.holds c.remove.new.self) (removal_brought
    (g.F.Files.holds c.args.files.now) (g.F.Files.holds c.remove.new.self) marker c.in_ok-remove.ensures.removed) in
    sync_rest g.F.Files.holds g.F.Files.moment g.F.Files.left_since g.F.Files.images (IsEnding marker) c.args.files.now c.remove.new.self
    c.make_last.new.files told
    (call_rest g.F.Files.holds g.F.Files.moment g.F.Files.left_since g.F.Files.images (MayRemove marker) (IsEnding marker) c.args.files.now
    c.remove.new.self (ending_still marker) (λ d. inl refl) c.in_ok-remove.ensures.crash)
    c.make_last.ensures.crash

pub returns-clause-durable : goal.returns-clause-durable
returns-clause-durable g c =
    let told = told_by (at c.args.plan.now.marker Gone) (g.F.Files.holds c.args.files.now) (g.F.Files.holds c.remove.new.self) (removal_brought
    (g.F.Files.holds c.args.files.now) (g.F.Files.holds c.remove.new.self) c.args.plan.now.marker c.in_ok-remove.ensures.removed) in
    rests (g.F.Files.images c.make_last.new.files) (g.F.Files.holds c.args.files.now) (g.F.Files.holds c.remove.new.self) (g.F.Files.holds
    c.make_last.new.files) c.make_last.result told c.make_last.ensures.same c.make_last.ensures.durable

pub returns-in_err-remove-clause-outside : goal.returns-in_err-remove-clause-outside
returns-in_err-remove-clause-outside g c =
    let p = c.args.plan.now in
    removal_keeps_others p (g.F.Files.holds c.args.files.now) (g.F.Files.holds c.remove.new.self) p.marker c.remove.result (marker_own p)
    c.remove.ensures.removed c.remove.ensures.failed c.remove.ensures.unchanged

pub returns-clause-outside : goal.returns-clause-outside
returns-clause-outside g c =
    let p = c.args.plan.now in
    keeps_both p (g.F.Files.holds c.args.files.now) (g.F.Files.holds c.remove.new.self) (g.F.Files.holds c.make_last.new.files)
    (gone_keeps_others p (g.F.Files.holds c.args.files.now) (g.F.Files.holds c.remove.new.self) p.marker (marker_own p) c.in_ok-remove.ensures.removed)
    (keeps_same p (g.F.Files.holds c.remove.new.self) (g.F.Files.holds c.make_last.new.files) c.make_last.ensures.same)

pub returns-in_err-remove-clause-makes : goal.returns-in_err-remove-clause-makes
returns-in_err-remove-clause-makes g c =
    let marker = c.args.plan.now.marker in
    let e = c.in_err-remove.field-0.0 in
    let same : Err e ≡ c.from_residual.result = search rules in
    subst (λ r. Makes g.F.Files.asked (ending c.args.plan.now) c.args.files.now c.remove.new.self r) same
    (makes_stops g.F.Files.asked e (Removes marker ∷ []) (Syncs ∷ []) c.args.files.now c.remove.new.self
    (makes_remove g.F.Files.asked (Err e) g.F.Files.faults marker c.args.files.now c.remove.new.self c.in_err-remove.ensures.called))

pub returns-clause-makes : goal.returns-clause-makes
returns-clause-makes g c =
    let marker = c.args.plan.now.marker in
    makes_then g.F.Files.asked c.make_last.result c.in_ok-remove.field-0 (Removes marker ∷ []) (Syncs ∷ []) c.args.files.now c.remove.new.self
    c.make_last.new.files
    (makes_remove g.F.Files.asked (Ok c.in_ok-remove.field-0) g.F.Files.faults marker c.args.files.now c.remove.new.self c.in_ok-remove.ensures.called)
    c.make_last.ensures.makes
