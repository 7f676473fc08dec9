use Rattle.std.proofs.Common.{◌≡◌, ◌∙◌, Some, sym, subst}
use Rattle.std.specs.Prelude.{slice_get}
use Rattle.std.specs.List.{Contains}
use Rattle.pie_value.specs.declared.task.Task.{Task}
use Rattle.pie_bottomup.specs.inner.Exact.{AddsExact}
use Rattle.pie_bottomup.specs.inner.Going.{HasGrown}
use Rattle.pie_bottomup.specs.inner.Causes.{IsTried}
use Rattle.pie_bottomup.proofs.Counting.{full_cause}
use Rattle.pie_bottomup.proofs.Trying.{tried_required}
use Rattle.pie_bottomup.proofs.GoingEvents.{grows_goes}
use Rattle.pie_bottomup.specs.inner.States.{IsNewTask, Keeps}
use Rattle.pie_bottomup.proofs.ExactSteps.{if_ok_more}
use Rattle.pie_bottomup.proofs.Keeping.{keeps_then}
use Rattle.pie_bottomup.proofs.state.Core.require_new.Goals as goal

pub park-requires-clause-awaits : goal.park-requires-clause-awaits
park-requires-clause-awaits c =
    let stands = c.in_ok-callee.ensures.stands in
    record {
      taken = record {
        site = stands.site;
        free = c.add.ensures.same.hand ∙ c.requires.awaits.taken.free;
        holds = stands.holds c.args.no c.requires.awaits.taken.holds;
      };
      waits = c.requires.awaits.waits;
      own = stands.own c.args.no c.args.from c.args.caller.waiting.notes c.requires.awaits.own;
    }

pub add-requires-clause-absent : goal.add-requires-clause-absent
add-requires-clause-absent c = subst (IsNewTask c.args.self.now.tables.names) (sym c.in_ok-required.ensures) c.requires.absent

pub park-requires-clause-named : goal.park-requires-clause-named
park-requires-clause-named c =
    subst (λ (t : Task). slice_get c.add.new.self.tables.names c.in_ok-callee.callee.0 ≡ Some t) c.in_ok-required.ensures c.in_ok-callee.ensures.number.named

pub returns-clause-whole : goal.returns-clause-whole
returns-clause-whole c = λ small.
    let ok = c.in_ok-callee.ensures in
    grows_goes c.args.self.now c.add.new.self c.park.new.self c.args.no c.args.from c.args.caller c.in_ok-callee.callee c.park.result ok.added.kept.plan
    c.requires.awaits.taken.site c.requires.awaits.taken.holds.taken.stands (ok.stands.holds c.args.no c.requires.awaits.taken.holds).taken.stands
    (subst (λ (t : Task). HasGrown c.args.self.now t c.add.new.self) c.in_ok-required.ensures ok.added.grown) ok.number.number
    (subst (λ (t : Task). AddsExact c.args.self.now t c.add.new.self) c.in_ok-required.ensures ok.added.exact)
    (ok.stands.begins c.args.no.0 c.args.from) c.requires.awaits.waits.left small c.park.ensures.whole

pub returns-clause-kept : goal.returns-clause-kept
returns-clause-kept c =
    if_ok_more (λ turn. Keeps c.add.new.self c.park.new.self) (λ turn. Keeps c.args.self.now c.park.new.self)
    (λ turn kept. keeps_then c.args.self.now c.add.new.self c.park.new.self c.in_ok-callee.ensures.added.kept kept) c.park.result c.park.ensures.kept

pub returns-then-is_full-clause-whole : goal.returns-then-is_full-clause-whole
returns-then-is_full-clause-whole c = λ small u now e begins asks.
    full_cause u c.args.self.now c.in_ok-required.required c.too_many.result c.is_full.result e c.is_full.ensures.full c.if-is_full.true
    c.is_full.ensures.most (subst (λ (t : Task). Contains c.args.self.now.tables.names t → ⊥) (sym c.in_ok-required.ensures) c.requires.absent.absent)
    c.too_many.ensures c.requires.awaits.taken.holds.taken.stands asks.none asks.marked
    (subst (IsTried u) (sym c.in_ok-required.ensures)
    (tried_required u c.args.self.now c.args.caller.waiting c.args.caller.required c.args.caller.how now c.requires.awaits.taken.site
    c.requires.awaits.taken.holds.taken.stands e
    c.requires.awaits.waits.left small asks))
