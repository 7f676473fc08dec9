use Rattle.std.proofs.Common.{[], ◌∷◌, ◌++◌, ◌+◌, ◌*◌, length, refl, ap, subst, ◌∙◌, arith}
use Rattle.pie_topdown.specs.declared.hand.Frame.TheVariants as frames
use Rattle.pie_topdown.proofs.Growing.{caller_grows}
use Rattle.pie_topdown.proofs.Stacking.{pushed_site, pushed_nearer, pushed_room}
use Rattle.pie_value.specs.declared.task.Task.{Task}
use Rattle.pie_topdown.specs.inner.Entries.{HasEntered}
use Rattle.pie_topdown.specs.inner.Right.{EntersSite}
use Rattle.pie_topdown.proofs.Entered.{last_unrecorded}
use Rattle.pie_topdown.proofs.Required.{caller_descends}
use Rattle.pie_topdown.proofs.Marking.{stays_same, stays_then}
use Rattle.pie_topdown.proofs.Owning.{goes_waiting}
use Rattle.pie_topdown.proofs.builder.Builder.push_caller.Goals as goal

pub returns-clause-turns : goal.returns-clause-turns
returns-clause-turns c = record {
  site = pushed_site c.enter.new.self _ (frames.Waits c.args.caller) c.in_ok-no.ensures.site
      (caller_grows c.args.self.now.ledger c.enter.new.self.ledger c.in_ok-no.ensures.gains.kept.grows c.args.caller c.requires.waits.caller) refl refl
      c.in_ok-push.ensures.items;
  hand = c.in_ok-no.ensures.starts;
}

pub returns-clause-nearer : goal.returns-clause-nearer
returns-clause-nearer c =
    pushed_nearer (length c.args.self.now.ledger.tables.names) (length c.enter.new.self.ledger.tables.names) c.args.self.now.stack.items
    c.push.new.self.items (frames.Waits c.args.caller) (2 * c.args.caller.waiting.notes.left + 1) c.requires.enters.may.few c.in_ok-no.ensures.gains.one
    (c.in_ok-push.ensures.items ∙ ap (λ v. v.items ++ frames.Waits c.args.caller ∷ []) c.in_ok-no.ensures.stack) (omega arith)

pub returns-clause-fits : goal.returns-clause-fits
returns-clause-fits c =
    let r = pushed_room (length c.args.self.now.ledger.tables.names) (length c.enter.new.self.ledger.tables.names) c.args.self.now.stack.items
    c.push.new.self.items (frames.Waits c.args.caller) c.requires.enters.may.few c.in_ok-no.ensures.gains.one
    (c.in_ok-push.ensures.items ∙ ap (λ v. v.items ++ frames.Waits c.args.caller ∷ []) c.in_ok-no.ensures.stack) in
    omega (arith, r)

pub returns-clause-right : goal.returns-clause-right
returns-clause-right c =
    let same = c.in_ok-copy.ensures in
    caller_descends c.args.self.now c.enter.new.self c.args.caller c.args.code c.in_ok-no.no c.push.new.self c.in_ok-no.ensures.number
    (subst (λ (t : Task). HasEntered c.args.self.now t c.enter.new.self) same c.in_ok-no.ensures.added)
    (subst (λ (t : Task). EntersSite c.args.self.now t c.enter.new.self) same c.in_ok-no.ensures.right) c.requires.enters.may
    (last_unrecorded c.args.self.now.ledger c.requires.waits.site.ledger) c.requires.enters.absent c.requires.waits.caller.waits.left c.in_ok-push.ensures.items

pub returns-clause-marks : goal.returns-clause-marks
returns-clause-marks c =
    goes_waiting c.args.self.now c.enter.new.self (record c.enter.new.self { stack = c.push.new.self }) c.args.caller c.in_ok-no.no c.args.code
    (stays_then c.args.self.now c.enter.new.self (record c.enter.new.self { stack = c.push.new.self }) c.in_ok-no.ensures.gains.marks
    (stays_same c.enter.new.self (record c.enter.new.self { stack = c.push.new.self }) refl refl))
    (ap (λ v. v.items) c.in_ok-no.ensures.stack) c.in_ok-push.ensures.items
