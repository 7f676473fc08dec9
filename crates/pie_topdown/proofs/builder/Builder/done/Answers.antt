use Rattle.std.proofs.Common.{sym, ◌∙◌}
use Rattle.pie_topdown.proofs.Finished.{ends_big}
use Rattle.pie_topdown.proofs.builder.Builder.done.Goals as goal

pub returns-then-not-is_small-clause-right : goal.returns-then-not-is_small-clause-right
returns-then-not-is_small-clause-right c =
    ends_big c.args.self.now c.fail.new.self c.args.no.0 c.args.notes c.args.output c.fail.result c.requires.number c.requires.noted
    (sym c.is_small.ensures.limits ∙ c.if-not-is_small.true) c.fail.ensures.right

pub done_small-requires-clause-output : goal.done_small-requires-clause-output
done_small-requires-clause-output c = record {
  encodable = c.in_ok-_bytes.ensures.canonical.encodable;
  leaves = c.in_ok-_bytes.ensures.canonical.leaves;
  small = sym c.is_small.ensures.limits ∙ c.if-not-is_small.false;
}
