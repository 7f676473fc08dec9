use Rattle.std.proofs.Common.{Ok, refl, subst}
use Rattle.pie_running.specs.inner.Steps.{Comes}
use Rattle.pie_bottomup.proofs.Owning.{same_own}
use Rattle.pie_bottomup.proofs.GoingEvents.{asks_goes, hand_done, hand_fails}
use Rattle.pie_bottomup.proofs.Asking.{hand_asks}
use Rattle.pie_named.proofs.Calls.{no_calls}
use Rattle.pie_bottomup.proofs.state.Core.event.Goals as goal

pub treat-requires : goal.treat-requires
treat-requires g c =
    let comes = subst (Comes c.args.hand.task.notes) c.in-Asks.is c.in_ok-waiting.ensures.comes in
    record {
      taken = record { site = c.requires.site; free = c.requires.free; holds = c.requires.hand.holds };
      waits = comes.0;
      own = same_own c.args.self.now c.args.hand.no c.args.hand.from c.args.hand.task.notes c.in-Asks.waiting.notes comes.1 c.requires.hand.own;
    }

pub returns-in-Asks-clause-whole : goal.returns-in-Asks-clause-whole
returns-in-Asks-clause-whole g c =
    asks_goes (g.F.Files.holds c.args.files.now) c.args.self.now c.treat.new.self c.args.hand c.in_ok-waiting.field-0 c.in-Asks.waiting c.in-Asks.event
    c.treat.result c.in-Asks.is (record { comes = c.in_ok-waiting.ensures.comes; means = c.in_ok-waiting.ensures.means }) c.treat.ensures.whole

pub returns-in_ok-done-in-Ends-clause-whole : goal.returns-in_ok-done-in-Ends-clause-whole
returns-in_ok-done-in-Ends-clause-whole g c =
    hand_done {E = Unit {0}} (g.F.Files.holds c.args.files.now) c.args.self.now c.done.new.self c.args.hand c.in_ok-waiting.field-0 c.in-Ends.notes c.in-Ends.output
    (Ok c.in_ok-done-in-Ends.field-0) c.requires.hand.holds c.requires.hand.own c.in-Ends.is
    (record { comes = c.in_ok-waiting.ensures.comes; means = c.in_ok-waiting.ensures.means }) c.in_ok-done-in-Ends.ensures.whole

pub returns-in_ok-fail-in-Fails-clause-whole : goal.returns-in_ok-fail-in-Fails-clause-whole
returns-in_ok-fail-in-Fails-clause-whole g c =
    hand_fails {E = Unit {0}} (g.F.Files.holds c.args.files.now) c.args.self.now c.fail.new.self c.args.hand c.in_ok-waiting.field-0 c.in-Fails.notes c.in-Fails.kind
    (Ok c.in_ok-fail-in-Fails.field-0) c.requires.hand.holds c.requires.hand.own c.in-Fails.is
    (record { comes = c.in_ok-waiting.ensures.comes; means = c.in_ok-waiting.ensures.means }) c.in_ok-fail-in-Fails.ensures.whole

pub returns-in-Asks-clause-asks : goal.returns-in-Asks-clause-asks
returns-in-Asks-clause-asks g c =
    hand_asks c.args.self.now c.args.hand c.in_ok-waiting.field-0 c.in-Asks.waiting c.in-Asks.event (g.F.Files.asked c.args.files.now)
    (g.F.Files.asked c.treat.new.files) c.in-Asks.is (record { comes = c.in_ok-waiting.ensures.comes; means = c.in_ok-waiting.ensures.means })
    c.treat.ensures.asks

pub returns-in_err-done-in-Ends-clause-asks : goal.returns-in_err-done-in-Ends-clause-asks
returns-in_err-done-in-Ends-clause-asks g c = λ u now exact working. no_calls _ (g.F.Files.asked c.args.files.now) (g.F.Files.asked c.args.files.now) refl

pub returns-in_err-fail-in-Fails-clause-asks : goal.returns-in_err-fail-in-Fails-clause-asks
returns-in_err-fail-in-Fails-clause-asks g c = λ u now exact working. no_calls _ (g.F.Files.asked c.args.files.now) (g.F.Files.asked c.args.files.now) refl
