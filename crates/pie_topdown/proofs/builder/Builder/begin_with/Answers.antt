use Rattle.std.proofs.Common.{Bool, ℕ, List, refl, ap, subst, ◌∙◌}
use Rattle.std.specs.Prelude.{All}
use Rattle.pie_record.specs.declared.task_record.TaskRecord.{TaskRecord}
use Rattle.pie_topdown.specs.inner.Written.{IsThereIn, IsOneGone, FindsThere, FindsGone}
use Rattle.pie_topdown.proofs.Begun.{own_begins, other_begins}
use Rattle.pie_topdown.proofs.Marking.{marks_with, stays_same}
use Rattle.pie_topdown.proofs.Owning.{begins_after, own_check}
use Rattle.pie_topdown.proofs.Trying.{from_after, own_from}
use Rattle.pie_topdown.proofs.builder.Builder.begin_with.Goals as goal

pub returns-then-not-branch-clause-right : goal.returns-then-not-branch-clause-right
returns-then-not-branch-clause-right g c =
    let held = g.F.Files.holds c.args.files.now in
    let here = subst (λ (ws : List (List ℕ × List ℕ)). FindsThere held c.args.self.now.named c.writes_stand.new.named (λ d. All (IsThereIn d) ws)
    c.in_ok-writes_stand.field-0) (c.as_slice.ensures ∙ ap (λ (r : TaskRecord). r.writes) c.deref.ensures) c.in_ok-writes_stand.ensures.there in
    let gone = subst (λ (ws : List (List ℕ × List ℕ)). FindsGone held c.args.self.now.named (λ d. IsOneGone d ws) c.in_ok-writes_stand.field-0)
    (c.as_slice.ensures ∙ ap (λ (r : TaskRecord). r.writes) c.deref.ensures) c.in_ok-writes_stand.ensures.gone in
    other_begins held (g.F.Files.holds c.writes_stand.new.files) (g.O.Offers.told c.args.offers.now) c.args.self.now
    (record c.args.self.now { named = c.writes_stand.new.named }) c.ask.new.self c.args.no.0 c.args.code.now c.args.rec.value c.in_ok-writes_stand.field-0
    c.ask.result c.writes_stand.ensures.reads.same refl here gone c.if-not-branch.true c.requires.named c.ask.ensures.right

pub returns-clause-right : goal.returns-clause-right
returns-clause-right g c =
    let held = g.F.Files.holds c.args.files.now in
    let here = subst (λ (ws : List (List ℕ × List ℕ)). FindsThere held c.args.self.now.named c.writes_stand.new.named (λ d. All (IsThereIn d) ws)
    c.in_ok-writes_stand.field-0) (c.as_slice.ensures ∙ ap (λ (r : TaskRecord). r.writes) c.deref.ensures) c.in_ok-writes_stand.ensures.there in
    own_begins held (g.O.Offers.told c.args.offers.now) c.args.self.now (record c.args.self.now { named = c.writes_stand.new.named }) c.args.no.0
    c.args.code.now c.args.rec.value c.in_ok-check.check refl
    (subst (λ (b : Bool). FindsThere held c.args.self.now.named c.writes_stand.new.named (λ d. All (IsThereIn d) c.args.rec.value.writes) b)
    c.if-not-branch.false here)
    c.in_ok-check.ensures.right

pub returns-then-not-branch-clause-marks : goal.returns-then-not-branch-clause-marks
returns-then-not-branch-clause-marks g c =
    let mid = record c.args.self.now { named = c.writes_stand.new.named } in
    marks_with c.ask.result c.args.self.now mid c.ask.new.self c.args.no.0 c.args.runs.now c.ask.new.runs (stays_same c.args.self.now mid refl refl) refl
    c.ask.ensures.marks

pub returns-then-not-branch-clause-own : goal.returns-then-not-branch-clause-own
returns-then-not-branch-clause-own g c =
    begins_after (g.F.Files.holds c.args.files.now) (g.O.Offers.told c.args.offers.now) (record c.args.self.now { named = c.writes_stand.new.named })
    c.ask.new.self c.ask.result (g.F.Files.holds c.writes_stand.new.files) c.writes_stand.ensures.reads.same c.args.self.now refl refl c.ask.ensures.own

pub returns-clause-own : goal.returns-clause-own
returns-clause-own g c = λ o own.
    record { stack = own; turn = own_check c.in_ok-check.check.value c.in_ok-check.ensures.parts.0 c.in_ok-check.ensures.parts.1; reused = refl }

pub returns-then-not-branch-clause-tried : goal.returns-then-not-branch-clause-tried
returns-then-not-branch-clause-tried g c =
    let mid = record c.args.self.now { named = c.writes_stand.new.named } in
    from_after (g.F.Files.holds c.args.files.now) (g.F.Files.holds c.writes_stand.new.files) (g.O.Offers.told c.args.offers.now) c.args.self.now mid
    c.ask.new.self c.args.no.0 c.args.runs.now c.ask.new.runs c.ask.result c.writes_stand.ensures.reads.same refl (stays_same c.args.self.now mid refl refl)
    c.ask.ensures.tried

pub returns-clause-tried : goal.returns-clause-tried
returns-clause-tried g c =
    let mid = record c.args.self.now { named = c.writes_stand.new.named } in
    own_from (g.F.Files.holds c.args.files.now) (g.O.Offers.told c.args.offers.now) c.args.self.now mid c.args.no.0 c.in_ok-check.check c.args.runs.now refl
    (stays_same c.args.self.now mid refl refl) c.in_ok-check.ensures.parts.0 c.in_ok-check.ensures.parts.1
