use Rattle.std.proofs.Common.{◌≡◌, ◌∙◌, Option, None, Some, ap, subst, arith, rules, refl}
use Rattle.pie_value.specs.declared.verdict.Refusal.{Refusal}
use Rattle.pie_value.specs.declared.verdict.Refusal.TheVariants.{Many}
use Rattle.pie_topdown.specs.inner.Entries.{HasEntered}
use Rattle.pie_topdown.specs.inner.Ran.{FallsWhole}
use Rattle.pie_topdown.specs.inner.Right.{EntersSite}
use Rattle.pie_topdown.specs.inner.Turns.{stack_room}
use Rattle.pie_topdown.proofs.Going.{grows_then, started_then}
use Rattle.pie_topdown.proofs.Stacking.{same_site}
use Rattle.pie_topdown.proofs.Rooting.{with_failure, with_many, with_rest}
use Rattle.pie_topdown.proofs.Totals.{ran_refused, ran_root, root_ends, root_fails, root_full}
use Rattle.pie_topdown.proofs.Owning.{own_fallen, own_root}
use Rattle.pie_topdown.specs.declared.hand.Hand.TheVariants as hands
use Rattle.pie_topdown.proofs.builder.Builder.settle_with.Goals as goal

pub returns-clause-settled : goal.returns-clause-settled
returns-clause-settled g c = λ none.
    let spends = c.in_ok-rests.ensures.spends in
    let waits = ap (λ v. stack_room v.items) c.in_ok-no.ensures.stack in
    record {
      site = same_site c.run.new.self _ refl refl refl c.in_ok-rests.ensures.site;
      settled = c.in_ok-unless_done.ensures.settled none;
      continues = record {
        plan = c.in_ok-rests.ensures.kept.plan ∙ c.in_ok-no.ensures.gains.kept.plan;
        grows = grows_then c.args.self.now.ledger c.enter.new.self.ledger c.run.new.self.ledger c.in_ok-no.ensures.gains.kept.grows
            c.in_ok-rests.ensures.kept.grows;
        spends = omega (arith, spends, waits, c.in_ok-no.ensures.gains.one, c.requires.may.few);
      };
    }

pub returns-in-Some-clause-ends : goal.returns-in-Some-clause-ends
returns-in-Some-clause-ends g c = record {
  own = own_fallen (g.F.Files.holds c.args.files.now) (g.O.Offers.told c.args.offers.now) c.args.self.now c.enter.new.self c.run.new.self c.start_waiting.new.self
      (hands.Enters c.in_ok-no.no c.args.code) (ap (λ v. v.items) c.in_ok-no.ensures.stack) c.in_ok-no.ensures.gains.marks.reused tt c.in_ok-rests.ensures.ends.own
      c.in_ok-start_waiting.ensures.empty (ap (λ b. b.reused.items) c.in_ok-start_waiting.ensures.rest);
  right = let a = c.args.self.now in
      let failed : c.run.new.self.failure ≡ Some c.in-Some.why = search rules in
      with_failure (g.F.Files.holds c.args.files.now) (g.O.Offers.told c.args.offers.now) a c.enter.new.self c.run.new.self c.args.root.now c.args.code c.in_ok-no.no
      c.in_ok-no.ensures.number (subst (λ t. HasEntered a t c.enter.new.self) c.in_ok-copy.ensures c.in_ok-no.ensures.added)
      (subst (λ t. EntersSite a t c.enter.new.self) c.in_ok-copy.ensures c.in_ok-no.ensures.right) c.requires.may c.requires.site c.requires.absent
      c.in_ok-rests.ensures.kept c.in_ok-rests.rests c.in_ok-rests.ensures.ends.right c.run.new.self c.in-Some.why failed;
  ran = ran_refused (g.F.Files.holds c.args.files.now) (g.O.Offers.told c.args.offers.now) c.args.self.now c.args.root.now c.start_waiting.new.self c.args.runs.now c.start_waiting.new.runs c.in-Some.why;
  full = let a = c.args.self.now in
      let failed : c.run.new.self.failure ≡ Some c.in-Some.why = search rules in
      root_fails (g.F.Files.holds c.args.files.now) (g.O.Offers.told c.args.offers.now) a c.enter.new.self c.run.new.self c.args.root.now c.args.code c.in_ok-no.no
      c.args.runs.now c.run.new.runs c.in_ok-rests.rests c.in_ok-no.ensures.number
      (subst (λ t. HasEntered a t c.enter.new.self) c.in_ok-copy.ensures c.in_ok-no.ensures.added)
      (subst (λ t. EntersSite a t c.enter.new.self) c.in_ok-copy.ensures c.in_ok-no.ensures.right) c.requires.may c.requires.site c.requires.absent
      c.in_ok-no.ensures.gains.kept c.in_ok-no.ensures.gains.marks c.in_ok-rests.ensures.kept c.in_ok-rests.ensures.ends.right c.in_ok-rests.ensures.ends.ran
      c.start_waiting.new.self c.start_waiting.new.runs c.in-Some.why failed c.in_ok-start_waiting.ensures.names
      (subst (λ (f : Option Refusal). FallsWhole (record c.run.new.self { failure = f }) c.start_waiting.new.self c.run.new.runs c.start_waiting.new.runs)
      c.take.ensures.after c.in_ok-start_waiting.ensures.falls);
}

pub returns-then-not-rests-clause-ends : goal.returns-then-not-rests-clause-ends
returns-then-not-rests-clause-ends g c = record {
  own = own_root (g.F.Files.holds c.args.files.now) (g.O.Offers.told c.args.offers.now) c.args.self.now c.enter.new.self c.run.new.self (record c.run.new.self { failure = c.take.new.self })
      (hands.Enters c.in_ok-no.no c.args.code) (ap (λ v. v.items) c.in_ok-no.ensures.stack) c.in_ok-no.ensures.gains.marks.reused tt c.in_ok-rests.ensures.ends.own refl refl;
  right = let a = c.args.self.now in
      let calm : c.run.new.self.failure ≡ None = search rules in
      with_many (g.F.Files.holds c.args.files.now) (g.O.Offers.told c.args.offers.now) a c.enter.new.self c.run.new.self c.args.root.now c.args.code c.in_ok-no.no
      c.in_ok-no.ensures.number (subst (λ t. HasEntered a t c.enter.new.self) c.in_ok-copy.ensures c.in_ok-no.ensures.added)
      (subst (λ t. EntersSite a t c.enter.new.self) c.in_ok-copy.ensures c.in_ok-no.ensures.right) c.requires.may c.requires.site c.requires.absent
      c.in_ok-rests.ensures.kept c.in_ok-rests.rests c.in_ok-rests.ensures.ends.right c.run.new.self c.if-not-rests.true calm;
  ran = ran_refused (g.F.Files.holds c.args.files.now) (g.O.Offers.told c.args.offers.now) c.args.self.now c.args.root.now (record c.run.new.self { failure = c.take.new.self })
      c.args.runs.now c.run.new.runs Many;
  full = let a = c.args.self.now in
      let calm : c.run.new.self.failure ≡ None = search rules in
      root_full (g.F.Files.holds c.args.files.now) (g.O.Offers.told c.args.offers.now) a c.enter.new.self c.run.new.self c.args.root.now c.args.code c.in_ok-no.no
      c.args.runs.now c.run.new.runs c.in_ok-rests.rests c.in_ok-no.ensures.number
      (subst (λ t. HasEntered a t c.enter.new.self) c.in_ok-copy.ensures c.in_ok-no.ensures.added)
      (subst (λ t. EntersSite a t c.enter.new.self) c.in_ok-copy.ensures c.in_ok-no.ensures.right) c.requires.may c.requires.site c.requires.absent
      c.in_ok-no.ensures.gains.kept c.in_ok-no.ensures.gains.marks c.in_ok-rests.ensures.kept c.in_ok-rests.ensures.ends.right c.in_ok-rests.ensures.ends.ran
      (record c.run.new.self { failure = c.take.new.self }) (ap (λ f. record c.run.new.self { failure = f }) c.take.ensures.after) c.if-not-rests.true calm;
}

pub returns-clause-ends : goal.returns-clause-ends
returns-clause-ends g c = record {
  own = own_root (g.F.Files.holds c.args.files.now) (g.O.Offers.told c.args.offers.now) c.args.self.now c.enter.new.self c.run.new.self (record c.run.new.self { failure = c.take.new.self })
      (hands.Enters c.in_ok-no.no c.args.code) (ap (λ v. v.items) c.in_ok-no.ensures.stack) c.in_ok-no.ensures.gains.marks.reused tt c.in_ok-rests.ensures.ends.own refl refl;
  right = let a = c.args.self.now in
      let calm : c.run.new.self.failure ≡ None = search rules in
      with_rest (g.F.Files.holds c.args.files.now) (g.O.Offers.told c.args.offers.now) a c.enter.new.self c.run.new.self c.args.root.now c.args.code c.in_ok-no.no
      c.in_ok-no.ensures.number (subst (λ t. HasEntered a t c.enter.new.self) c.in_ok-copy.ensures c.in_ok-no.ensures.added)
      (subst (λ t. EntersSite a t c.enter.new.self) c.in_ok-copy.ensures c.in_ok-no.ensures.right) c.requires.may c.requires.site c.requires.absent
      c.in_ok-rests.ensures.kept c.in_ok-rests.rests c.in_ok-rests.ensures.ends.right (record c.run.new.self { failure = c.take.new.self }) c.in_ok-unless_done.field-0
      (ap (λ f. record c.run.new.self { failure = f }) c.take.ensures.after) c.if-not-rests.false c.in_ok-unless_done.ensures.none;
  ran = let a = c.args.self.now in
      ran_root (g.F.Files.holds c.args.files.now) (g.O.Offers.told c.args.offers.now) a c.enter.new.self c.run.new.self c.args.root.now c.args.code c.in_ok-no.no
      c.args.runs.now c.run.new.runs c.in_ok-rests.rests c.in_ok-no.ensures.number
      (subst (λ t. HasEntered a t c.enter.new.self) c.in_ok-copy.ensures c.in_ok-no.ensures.added)
      (subst (λ t. EntersSite a t c.enter.new.self) c.in_ok-copy.ensures c.in_ok-no.ensures.right) c.requires.may c.requires.site c.requires.absent
      c.in_ok-no.ensures.gains.kept c.in_ok-no.ensures.gains.marks c.in_ok-rests.ensures.kept c.in_ok-rests.ensures.ends.right c.in_ok-rests.ensures.ends.ran
      (record c.run.new.self { failure = c.take.new.self }) c.in_ok-unless_done.field-0 (ap (λ f. record c.run.new.self { failure = f }) c.take.ensures.after);
  full = let a = c.args.self.now in
      root_ends (g.F.Files.holds c.args.files.now) (g.O.Offers.told c.args.offers.now) a c.enter.new.self c.run.new.self c.args.root.now c.args.code c.in_ok-no.no
      c.args.runs.now c.run.new.runs c.in_ok-rests.rests c.in_ok-no.ensures.number
      (subst (λ t. HasEntered a t c.enter.new.self) c.in_ok-copy.ensures c.in_ok-no.ensures.added)
      (subst (λ t. EntersSite a t c.enter.new.self) c.in_ok-copy.ensures c.in_ok-no.ensures.right) c.requires.may c.requires.site c.requires.absent
      c.in_ok-no.ensures.gains.kept c.in_ok-no.ensures.gains.marks c.in_ok-rests.ensures.kept c.in_ok-rests.ensures.ends.right c.in_ok-rests.ensures.ends.ran
      (record c.run.new.self { failure = c.take.new.self }) c.in_ok-unless_done.field-0 (ap (λ f. record c.run.new.self { failure = f }) c.take.ensures.after)
      c.if-not-rests.false c.in_ok-unless_done.ensures.none;
}

pub returns-in_err-start_waiting-clause-started : goal.returns-in_err-start_waiting-clause-started
returns-in_err-start_waiting-clause-started g c =
    started_then c.args.runs.now c.run.new.runs c.start_waiting.new.runs c.run.ensures.started c.start_waiting.ensures.started

pub returns-in-Some-clause-started : goal.returns-in-Some-clause-started
returns-in-Some-clause-started g c =
    started_then c.args.runs.now c.run.new.runs c.start_waiting.new.runs c.run.ensures.started c.start_waiting.ensures.started
