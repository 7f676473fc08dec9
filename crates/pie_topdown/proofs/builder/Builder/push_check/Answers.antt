use Rattle.std.proofs.Common.{[], ◌∷◌, ◌++◌, length, refl, ap, ◌∙◌, arith}
use Rattle.pie_topdown.specs.declared.hand.Frame.TheVariants as frames
use Rattle.pie_topdown.specs.inner.Turns.{check_mass}
use Rattle.pie_topdown.proofs.Entered.{last_unrecorded}
use Rattle.pie_topdown.proofs.Growing.{check_grows}
use Rattle.pie_topdown.proofs.Pushed.{check_pushed}
use Rattle.pie_topdown.proofs.Stacking.{pushed_site, pushed_nearer, pushed_room}
use Rattle.pie_topdown.proofs.Owning.{pushed_own, same_own}
use Rattle.pie_topdown.proofs.Trying.{check_waits}
use Rattle.pie_topdown.proofs.builder.Builder.push_check.Goals as goal

pub returns-clause-steps : goal.returns-clause-steps
returns-clause-steps c =
    let items = c.in_ok-push.ensures.items ∙ ap (λ v. v.items ++ frames.Checks c.args.check ∷ []) c.in_ok-no.ensures.stack in
    let r = pushed_room (length c.args.self.now.ledger.tables.names) (length c.enter.new.self.ledger.tables.names) c.args.self.now.stack.items
    c.push.new.self.items (frames.Checks c.args.check) c.requires.may.few c.in_ok-no.ensures.gains.one items in
    record {
      turns = record {
        site = pushed_site c.enter.new.self _ (frames.Checks c.args.check) c.in_ok-no.ensures.site
            (check_grows c.args.self.now.ledger c.enter.new.self.ledger c.in_ok-no.ensures.gains.kept.grows c.args.check.value c.requires.finds.check) refl refl
            c.in_ok-push.ensures.items;
        hand = c.in_ok-no.ensures.starts;
      };
      nearer = pushed_nearer (length c.args.self.now.ledger.tables.names) (length c.enter.new.self.ledger.tables.names) c.args.self.now.stack.items
          c.push.new.self.items (frames.Checks c.args.check) (check_mass c.args.check.value) c.requires.may.few c.in_ok-no.ensures.gains.one items (omega arith);
      fits = omega (arith, r);
      kept = record { plan = c.in_ok-no.ensures.gains.kept.plan; grows = c.in_ok-no.ensures.gains.kept.grows };
    }

pub returns-clause-right : goal.returns-clause-right
returns-clause-right c =
    check_pushed c.args.self.now c.enter.new.self c.args.check c.args.task c.args.code c.in_ok-no.no c.push.new.self c.in_ok-no.ensures.number
    c.in_ok-no.ensures.added c.in_ok-no.ensures.right c.requires.may (last_unrecorded c.args.self.now.ledger c.requires.finds.site.ledger) c.requires.finds.task.absent
    c.in_ok-push.ensures.items

pub returns-clause-own : goal.returns-clause-own
returns-clause-own c = λ this own. record {
  stack = pushed_own c.enter.new.self (record c.enter.new.self { stack = c.push.new.self }) (frames.Checks c.args.check) c.in_ok-push.ensures.items this
      (same_own c.args.self.now c.enter.new.self (ap (λ v. v.items) c.in_ok-no.ensures.stack) own);
  turn = tt;
  reused = c.in_ok-no.ensures.gains.marks.reused;
}

pub returns-clause-tried : goal.returns-clause-tried
returns-clause-tried c =
    check_waits c.args.self.now c.enter.new.self (record c.enter.new.self { stack = c.push.new.self }) c.args.check c.in_ok-no.no c.args.code
    (ap (λ v. v.items) c.in_ok-no.ensures.stack) c.in_ok-push.ensures.items
