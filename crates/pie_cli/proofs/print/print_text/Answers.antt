use Rattle.std.proofs.Common.{◌≡◌, ◌++◌, take, drop, arith, ◌∙◌, subst, List, ℕ}
use Rattle.std.specs.Prelude.{IfSome, Some}
use Rattle.pie_cli.proofs.Printing.{gained_more}
use Rattle.pie_cli.proofs.print.print_text.Goals as goal

pub loop-done-preserved : goal.loop-done-preserved
loop-done-preserved g c =
    let gained : IfSome (g.K.Sink.held c.loop-done.out) (λ bytes. g.K.Sink.held c.put.new.self
    ≡ Some (bytes ++ take c.in_ok-n.n (drop c.loop-done.done c.args.text.now))) =
    subst (λ (p : List ℕ). IfSome (g.K.Sink.held c.loop-done.out) (λ bytes. g.K.Sink.held c.put.new.self
    ≡ Some (bytes ++ take c.in_ok-n.n p))) c.split_at.ensures.back c.in_ok-n.ensures.gained in
    record {
      inside = omega (arith, c.in_ok-n.ensures.bound, c.split_at.ensures.back_len);
      gained = gained_more (g.K.Sink.held c.args.out.now) (g.K.Sink.held c.loop-done.out)
          (g.K.Sink.held c.put.new.self) c.args.text.now c.loop-done.done c.in_ok-n.n
          c.loop-done.invariant.gained gained;
      steady = c.in_ok-n.ensures.counted.steady ∙ c.loop-done.invariant.steady;
      infallible = λ s. (c.put.ensures.infallible (c.loop-done.invariant.infallible s)).0;
    }
