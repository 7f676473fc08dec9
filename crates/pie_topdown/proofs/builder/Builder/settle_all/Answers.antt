use Rattle.std.proofs.Common.{◌∙◌, subst, arith}
use Rattle.pie_files.proofs.Reading.{both_before}
use Rattle.pie_topdown.specs.inner.Ran.{StopsRan}
use Rattle.pie_topdown.specs.inner.Rooted.{SettlesRight}
use Rattle.pie_topdown.proofs.Going.{continues_then, settled_all, settled_more, started_then}
use Rattle.pie_topdown.proofs.Totals.{all_ran, all_refused, ran_one_more, stops_none, stops_one_more}
use Rattle.pie_topdown.proofs.Turning.{all_settled, refused_one, settled_one}
use Rattle.pie_topdown.proofs.Owning.{own_then}
use Rattle.pie_topdown.proofs.builder.Builder.settle_all.Goals as goal

pub loop-root-preserved : goal.loop-root-preserved
loop-root-preserved g c =
    let before = c.loop-root.invariant in
    let one = c.in_ok-refusal.ensures.settled c.in-None.is in
    let continues = one.continues in (
      one.site,
      settled_more c.loop-root.self.ledger c.settle.new.self.ledger c.args.roots.now c.loop-root.root-index c.root-item.result continues.grows
          c.loop-root-test.true c.root-item.is before.1 one.settled,
      continues_then c.args.self.now c.loop-root.self c.settle.new.self c.args.runs.now c.loop-root.runs c.settle.new.runs before.2 continues,
      started_then c.args.runs.now c.loop-root.runs c.settle.new.runs before.3 c.settle.ensures.started,
      c.settle.ensures.asks.reads.same ∙ before.4,
      c.in_ok-refusal.ensures.asks.reads.counted.steady ∙ before.5,
      both_before g.F.Files.holds g.F.Files.moment g.F.Files.left_since g.F.Files.images c.args.files.now c.loop-root.files c.settle.new.files before.4
          before.6 c.settle.ensures.asks.reads.crash,
      settled_one (g.F.Files.holds c.args.files.now) (g.F.Files.holds c.loop-root.files) (g.O.Offers.told c.args.offers.now) (g.O.Offers.told c.loop-root.offers)
          c.args.self.now c.loop-root.self c.settle.new.self c.args.roots.now c.loop-root.root-index c.root-item.result c.loop-root-test.true c.root-item.is before.4
          before.8 before.2.plan before.7
          (subst (SettlesRight (g.F.Files.holds c.loop-root.files) (g.O.Offers.told c.loop-root.offers) c.loop-root.self c.root-item.result c.settle.new.self)
          c.in-None.is c.in_ok-refusal.ensures.ends.right),
      c.settle.ensures.asks.told ∙ before.8,
      ran_one_more (g.F.Files.holds c.args.files.now) (g.F.Files.holds c.loop-root.files) (g.O.Offers.told c.args.offers.now) (g.O.Offers.told c.loop-root.offers)
          c.args.self.now c.loop-root.self c.settle.new.self c.args.roots.now c.loop-root.root-index c.root-item.result c.args.runs.now c.loop-root.runs
          c.settle.new.runs c.in_ok-refusal.field-0 c.loop-root-test.true c.root-item.is before.4 before.8 before.2.plan before.7 c.in_ok-refusal.ensures.ends.ran
          c.in-None.is before.9,
      own_then (g.F.Files.holds c.args.files.now) (g.F.Files.holds c.loop-root.files) (g.O.Offers.told c.args.offers.now) (g.O.Offers.told c.loop-root.offers)
          before.4 before.8 c.args.self.now c.loop-root.self c.settle.new.self before.10 c.in_ok-refusal.ensures.ends.own,
    )

pub returns-clause-settled : goal.returns-clause-settled
returns-clause-settled g c = λ _.
    settled_all c.loop-root.self.ledger c.args.roots.now c.loop-root.root-index c.loop-root-test.false c.loop-root.invariant.1

pub returns-in_err-refusal-clause-started : goal.returns-in_err-refusal-clause-started
returns-in_err-refusal-clause-started g c =
    started_then c.args.runs.now c.loop-root.runs c.settle.new.runs c.loop-root.invariant.3 c.settle.ensures.started

pub returns-in-Some-clause-started : goal.returns-in-Some-clause-started
returns-in-Some-clause-started g c =
    started_then c.args.runs.now c.loop-root.runs c.settle.new.runs c.loop-root.invariant.3 c.settle.ensures.started

pub returns-clause-ends : goal.returns-clause-ends
returns-clause-ends g c = record {
  own = c.loop-root.invariant.10;
  right = all_settled (g.F.Files.holds c.args.files.now) (g.O.Offers.told c.args.offers.now) c.args.self.now c.loop-root.self c.args.roots.now c.loop-root.root-index
      c.loop-root-test.false c.loop-root.invariant.7;
  ran = all_ran (g.F.Files.holds c.args.files.now) (g.O.Offers.told c.args.offers.now) c.args.self.now c.loop-root.self c.args.roots.now c.args.runs.now c.loop-root.runs c.loop-root.invariant.9;
  full = stops_none (g.F.Files.holds c.args.files.now) (g.O.Offers.told c.args.offers.now) c.args.self.now c.loop-root.self c.args.roots.now c.args.runs.now c.loop-root.runs;
}

pub returns-in-Some-clause-ends : goal.returns-in-Some-clause-ends
returns-in-Some-clause-ends g c = record {
  own = let before = c.loop-root.invariant in
      own_then (g.F.Files.holds c.args.files.now) (g.F.Files.holds c.loop-root.files) (g.O.Offers.told c.args.offers.now) (g.O.Offers.told c.loop-root.offers)
      before.4 before.8 c.args.self.now c.loop-root.self c.settle.new.self before.10 c.in_ok-refusal.ensures.ends.own;
  right = let before = c.loop-root.invariant in
      refused_one (g.F.Files.holds c.args.files.now) (g.F.Files.holds c.loop-root.files) (g.O.Offers.told c.args.offers.now) (g.O.Offers.told c.loop-root.offers)
      c.args.self.now c.loop-root.self c.settle.new.self c.args.roots.now c.loop-root.root-index c.root-item.result c.loop-root-test.true c.root-item.is before.4
      before.8 before.2.plan before.7 c.in-Some.refusal
      (subst (SettlesRight (g.F.Files.holds c.loop-root.files) (g.O.Offers.told c.loop-root.offers) c.loop-root.self c.root-item.result c.settle.new.self)
      c.in-Some.is c.in_ok-refusal.ensures.ends.right);
  ran = all_refused (g.F.Files.holds c.args.files.now) (g.O.Offers.told c.args.offers.now) c.args.self.now c.settle.new.self c.args.roots.now c.args.runs.now c.settle.new.runs c.in-Some.refusal;
  full = let before = c.loop-root.invariant in
      stops_one_more (g.F.Files.holds c.args.files.now) (g.F.Files.holds c.loop-root.files) (g.O.Offers.told c.args.offers.now) (g.O.Offers.told c.loop-root.offers)
      c.args.self.now c.loop-root.self c.settle.new.self c.args.roots.now c.loop-root.root-index c.root-item.result c.args.runs.now c.loop-root.runs
      c.settle.new.runs c.in-Some.refusal c.loop-root-test.true c.root-item.is before.4 before.8 before.2.plan before.7
      (subst (StopsRan (g.F.Files.holds c.loop-root.files) (g.O.Offers.told c.loop-root.offers) c.loop-root.self c.root-item.result c.settle.new.self
      c.loop-root.runs c.settle.new.runs) c.in-Some.is c.in_ok-refusal.ensures.ends.full) before.9;
}

pub returns-in-Some-clause-asks : goal.returns-in-Some-clause-asks
returns-in-Some-clause-asks g c =
    let before = c.loop-root.invariant in
    let steady = c.in_ok-refusal.ensures.asks.reads.counted.steady ∙ before.5 in
    record {
      reads = record {
        same = c.settle.ensures.asks.reads.same ∙ before.4;
        crash = both_before g.F.Files.holds g.F.Files.moment g.F.Files.left_since g.F.Files.images c.args.files.now c.loop-root.files c.settle.new.files
            before.4 before.6 c.settle.ensures.asks.reads.crash;
        counted = record { later = omega (arith, steady); steady = steady; cause = λ e. absurd (let never : ⊥ = cc in never) };
      };
      told = c.settle.ensures.asks.told ∙ before.8;
    }
