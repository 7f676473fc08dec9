use Rattle.std.proofs.Common.{◌∙◌, ◌+◌, subst, arith}
use Rattle.pie_files.proofs.Reading.{both_before}
use Rattle.pie_topdown.specs.inner.Turns.{Spends, TurnsTo, hand_room, room}
use Rattle.pie_topdown.proofs.Going.{keeps_then, started_more}
use Rattle.pie_topdown.proofs.Totals.{ran_on, tried_on}
use Rattle.pie_topdown.proofs.Turning.{stays_on, stops_fails, stops_many, stops_rests}
use Rattle.pie_topdown.proofs.Owning.{own_on, own_stepped}
use Rattle.pie_topdown.proofs.builder.Builder.run.Goals as goal

pub steps-preserved : goal.steps-preserved
steps-preserved g c =
    let before = c.steps.invariant in
    let spends = subst (Spends (room c.steps.self + hand_room c.steps.hand) c.steps.runs c.step.new.runs c.step.new.self) c.in-Goes.is
    c.in_ok-next.ensures.steps.spends in (
      subst (TurnsTo c.step.new.self) c.in-Goes.is c.in_ok-next.ensures.steps.turns,
      keeps_then c.args.self.now c.steps.self c.step.new.self before.1 c.in_ok-next.ensures.steps.kept,
      started_more c.args.runs.now c.steps.runs c.step.new.runs before.2 c.step.ensures.starts.starts,
      omega (arith, spends, before.3),
      c.step.ensures.asks.reads.same ∙ before.4,
      c.in_ok-next.ensures.asks.reads.counted.steady ∙ before.5,
      both_before g.F.Files.holds g.F.Files.moment g.F.Files.left_since g.F.Files.images c.args.files.now c.steps.files c.step.new.files before.4
          before.6 c.step.ensures.asks.reads.crash,
      stays_on (g.F.Files.holds c.args.files.now) (g.F.Files.holds c.steps.files) (g.O.Offers.told c.args.offers.now) (g.O.Offers.told c.steps.offers) c.args.self.now
          c.steps.self c.step.new.self c.args.hand c.steps.hand _ before.4 before.8 before.1.plan before.7 c.in_ok-next.ensures.right c.in-Goes.next c.in-Goes.is,
      c.step.ensures.asks.told ∙ before.8,
      ran_on (g.F.Files.holds c.args.files.now) (g.F.Files.holds c.steps.files) (g.O.Offers.told c.args.offers.now) (g.O.Offers.told c.steps.offers) c.args.self.now
          c.steps.self c.step.new.self c.args.hand c.steps.hand _ c.args.runs.now c.steps.runs c.step.new.runs before.4 before.8 before.1.plan before.7
          c.in_ok-next.ensures.tried before.11 c.in_ok-next.ensures.steps.kept c.in_ok-next.ensures.marks before.9,
      own_on (g.F.Files.holds c.args.files.now) (g.F.Files.holds c.steps.files) (g.O.Offers.told c.args.offers.now) (g.O.Offers.told c.steps.offers)
          before.4 before.8 c.args.self.now c.steps.self c.step.new.self c.args.hand c.steps.hand _ before.10 c.in_ok-next.ensures.own c.in-Goes.next c.in-Goes.is,
      tried_on (g.F.Files.holds c.args.files.now) (g.F.Files.holds c.steps.files) (g.O.Offers.told c.args.offers.now) (g.O.Offers.told c.steps.offers)
          c.args.self.now c.steps.self c.step.new.self c.args.hand c.steps.hand _ c.args.runs.now c.steps.runs c.step.new.runs before.4 before.8 before.1.plan
          before.7 c.in_ok-next.ensures.tried before.11 c.in-Goes.next c.in-Goes.is,
    )

pub returns-in_err-next-clause-started : goal.returns-in_err-next-clause-started
returns-in_err-next-clause-started g c =
    started_more c.args.runs.now c.steps.runs c.step.new.runs c.steps.invariant.2 c.step.ensures.starts.starts

pub returns-in-Rests-clause-kept : goal.returns-in-Rests-clause-kept
returns-in-Rests-clause-kept g c = keeps_then c.args.self.now c.steps.self c.step.new.self c.steps.invariant.1 c.in_ok-next.ensures.steps.kept

pub returns-in-Rests-clause-started : goal.returns-in-Rests-clause-started
returns-in-Rests-clause-started g c = started_more c.args.runs.now c.steps.runs c.step.new.runs c.steps.invariant.2 c.step.ensures.starts.starts

pub returns-in-Many-clause-kept : goal.returns-in-Many-clause-kept
returns-in-Many-clause-kept g c = keeps_then c.args.self.now c.steps.self c.step.new.self c.steps.invariant.1 c.in_ok-next.ensures.steps.kept

pub returns-in-Fails-clause-kept : goal.returns-in-Fails-clause-kept
returns-in-Fails-clause-kept g c = keeps_then c.args.self.now c.steps.self c.step.new.self c.steps.invariant.1 c.in_ok-next.ensures.steps.kept

pub returns-in-Many-clause-started : goal.returns-in-Many-clause-started
returns-in-Many-clause-started g c = started_more c.args.runs.now c.steps.runs c.step.new.runs c.steps.invariant.2 c.step.ensures.starts.starts

pub returns-in-Fails-clause-started : goal.returns-in-Fails-clause-started
returns-in-Fails-clause-started g c = started_more c.args.runs.now c.steps.runs c.step.new.runs c.steps.invariant.2 c.step.ensures.starts.starts

pub returns-in-Rests-clause-ends : goal.returns-in-Rests-clause-ends
returns-in-Rests-clause-ends g c = record {
  own = let before = c.steps.invariant in
      own_stepped (g.F.Files.holds c.args.files.now) (g.F.Files.holds c.steps.files) (g.O.Offers.told c.args.offers.now) (g.O.Offers.told c.steps.offers)
      before.4 before.8 c.args.self.now c.steps.self c.step.new.self c.args.hand c.steps.hand _ before.10 c.in_ok-next.ensures.own;
  right = let before = c.steps.invariant in
      stops_rests (g.F.Files.holds c.args.files.now) (g.F.Files.holds c.steps.files) (g.O.Offers.told c.args.offers.now) (g.O.Offers.told c.steps.offers) c.args.self.now
      c.steps.self c.step.new.self c.args.hand c.steps.hand _ before.4 before.8 before.1.plan before.7 c.in_ok-next.ensures.right c.in-Rests.is;
  ran = let before = c.steps.invariant in
      ran_on (g.F.Files.holds c.args.files.now) (g.F.Files.holds c.steps.files) (g.O.Offers.told c.args.offers.now) (g.O.Offers.told c.steps.offers) c.args.self.now
      c.steps.self c.step.new.self c.args.hand c.steps.hand _ c.args.runs.now c.steps.runs c.step.new.runs before.4 before.8 before.1.plan before.7
      c.in_ok-next.ensures.tried before.11 c.in_ok-next.ensures.steps.kept c.in_ok-next.ensures.marks before.9;
}

pub returns-in-Many-clause-ends : goal.returns-in-Many-clause-ends
returns-in-Many-clause-ends g c = record {
  own = let before = c.steps.invariant in
      own_stepped (g.F.Files.holds c.args.files.now) (g.F.Files.holds c.steps.files) (g.O.Offers.told c.args.offers.now) (g.O.Offers.told c.steps.offers)
      before.4 before.8 c.args.self.now c.steps.self c.step.new.self c.args.hand c.steps.hand _ before.10 c.in_ok-next.ensures.own;
  right = let before = c.steps.invariant in
      stops_many (g.F.Files.holds c.args.files.now) (g.F.Files.holds c.steps.files) (g.O.Offers.told c.args.offers.now) (g.O.Offers.told c.steps.offers) c.args.self.now
      c.steps.self c.step.new.self c.args.hand c.steps.hand _ before.4 before.8 before.1.plan before.7 c.in_ok-next.ensures.right c.in-Many.is;
  ran = let before = c.steps.invariant in
      ran_on (g.F.Files.holds c.args.files.now) (g.F.Files.holds c.steps.files) (g.O.Offers.told c.args.offers.now) (g.O.Offers.told c.steps.offers) c.args.self.now
      c.steps.self c.step.new.self c.args.hand c.steps.hand _ c.args.runs.now c.steps.runs c.step.new.runs before.4 before.8 before.1.plan before.7
      c.in_ok-next.ensures.tried before.11 c.in_ok-next.ensures.steps.kept c.in_ok-next.ensures.marks before.9;
}

pub returns-in-Fails-clause-ends : goal.returns-in-Fails-clause-ends
returns-in-Fails-clause-ends g c = record {
  own = let before = c.steps.invariant in
      own_stepped (g.F.Files.holds c.args.files.now) (g.F.Files.holds c.steps.files) (g.O.Offers.told c.args.offers.now) (g.O.Offers.told c.steps.offers)
      before.4 before.8 c.args.self.now c.steps.self c.step.new.self c.args.hand c.steps.hand _ before.10 c.in_ok-next.ensures.own;
  right = let before = c.steps.invariant in
      stops_fails (g.F.Files.holds c.args.files.now) (g.F.Files.holds c.steps.files) (g.O.Offers.told c.args.offers.now) (g.O.Offers.told c.steps.offers) c.args.self.now
      c.steps.self c.step.new.self c.args.hand c.steps.hand _ before.4 before.8 before.1.plan before.7 c.in_ok-next.ensures.right c.in-Fails.is;
  ran = let before = c.steps.invariant in
      ran_on (g.F.Files.holds c.args.files.now) (g.F.Files.holds c.steps.files) (g.O.Offers.told c.args.offers.now) (g.O.Offers.told c.steps.offers) c.args.self.now
      c.steps.self c.step.new.self c.args.hand c.steps.hand _ c.args.runs.now c.steps.runs c.step.new.runs before.4 before.8 before.1.plan before.7
      c.in_ok-next.ensures.tried before.11 c.in_ok-next.ensures.steps.kept c.in_ok-next.ensures.marks before.9;
}
