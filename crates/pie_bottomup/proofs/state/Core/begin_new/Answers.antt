use Rattle.std.proofs.Common.{◌≡◌, ◌∙◌, ℕ, ◌<◌, length, sym, ap, subst, arith}
use Rattle.std.specs.Prelude.{slice_index_or}
use Rattle.pie_bottomup.specs.declared.plan.Plan.{Plan}
use Rattle.pie_bottomup.proofs.Counting.{full_cause}
use Rattle.pie_bottomup.proofs.GoingSteps.{root_goes, root_listed}
use Rattle.pie_bottomup.proofs.Trying.{root_tried}
use Rattle.pie_bottomup.specs.inner.States.{Keeps}
use Rattle.pie_bottomup.proofs.ExactSteps.{if_ok_more}
use Rattle.pie_bottomup.proofs.Keeping.{keeps_then}
use Rattle.pie_bottomup.proofs.state.Core.begin_new.Goals as goal

pub begin-requires-clause-free : goal.begin-requires-clause-free
begin-requires-clause-free c =
    let ok = c.in_ok-no.ensures.stands in
    record {
      rests = record { site = ok.site; rests = ok.rests c.requires.free.rests.rests };
      free = c.add.ensures.same.hand ∙ c.requires.free.free;
    }

pub begin-requires-clause-idle : goal.begin-requires-clause-idle
begin-requires-clause-idle c = c.in_ok-no.ensures.stands.stack ∙ c.requires.idle

pub begin-requires-clause-at : goal.begin-requires-clause-at
begin-requires-clause-at c =
    subst (λ (p : Plan). c.add.new.self.at < length p.roots.items) (sym c.in_ok-no.ensures.added.kept.plan)
    (omega (arith, c.requires.next.at, c.add.ensures.same.at))

pub begin-requires-clause-root : goal.begin-requires-clause-root
begin-requires-clause-root c = record {
  root = c.args.root;
  next = λ d.
      subst (λ (p : Plan). slice_index_or p.roots.items c.add.new.self.at d ≡ c.args.root) (sym c.in_ok-no.ensures.added.kept.plan)
      (ap (λ (n : ℕ). slice_index_or c.args.self.now.plan.roots.items n d) c.add.ensures.same.at ∙ c.requires.next.next d);
  named = c.in_ok-no.ensures.number.named;
}

pub returns-clause-whole : goal.returns-clause-whole
returns-clause-whole c =
    let ok = c.in_ok-no.ensures in
    root_goes c.args.self.now c.add.new.self c.begin.new.self c.args.root c.in_ok-no.no c.begin.result ok.added.kept.plan c.requires.free.rests
    (ok.stands.rests c.requires.free.rests.rests).stands ok.added.grown ok.number.number ok.added.exact c.requires.next.at c.requires.next.next
    c.begin.ensures.whole

pub returns-clause-kept : goal.returns-clause-kept
returns-clause-kept c =
    if_ok_more (λ turn. Keeps c.add.new.self c.begin.new.self) (λ turn. Keeps c.args.self.now c.begin.new.self)
    (λ turn kept. keeps_then c.args.self.now c.add.new.self c.begin.new.self c.in_ok-no.ensures.added.kept kept) c.begin.result c.begin.ensures.kept

pub returns-then-is_full-clause-whole : goal.returns-then-is_full-clause-whole
returns-then-is_full-clause-whole c = λ u now e resting none.
    full_cause u c.args.self.now c.args.root c.too_many.result c.is_full.result e c.is_full.ensures.full c.if-is_full.true c.is_full.ensures.most
    c.requires.absent.absent c.too_many.ensures c.requires.free.rests.rests.stands none resting.marked
    (root_tried u c.args.root (root_listed u c.args.self.now c.args.root now c.requires.next.at c.requires.next.next))
