use Rattle.std.proofs.Common.{◌-◌, take, arith, sym, subst}
use Rattle.std.specs.List.{Contains}
use Rattle.std.proofs.lemmas.List.Elements.{Contains-get_or}
use Rattle.pie_bottomup.proofs.ExactResults.{last_begun}
use Rattle.pie_bottomup.proofs.state.Core.has_failed.Goals as goal

pub returns : goal.returns
returns c = λ failed.
    let roots = c.args.self.now.plan.roots.items in
    let at = c.args.self.now.at in
    record {
      root = c.index.result.now;
      among = subst (Contains roots) (sym c.index.ensures)
          (Contains-get_or roots (at - 1) c.index.result.now (omega (arith, c.if-self-eq0.false, c.requires.at)));
      begun = subst (Contains (take at roots)) (sym c.index.ensures)
          (last_begun roots at c.index.result.now (omega (arith, c.if-self-eq0.false)) c.requires.at);
      number = c.in-Some.no.0;
      named = rw c.in-Some.is at c.in_ok-no.ensures;
      failed = c.fails.ensures failed;
    }
