use Rattle.std.proofs.Common.{◌++◌, append_assoc, ap, ◌∙◌, string_bytes, codes}
use Rattle.std.proofs.lemmas.Result.{on_ok_weaker}
use Rattle.pie_report.specs.Verdicts.{cycle}
use Rattle.pie_report.proofs.cause.put_union_cycle.Goals as goal

pub returns : goal.returns
returns c =
    on_ok_weaker c.put_cycle.result
    (λ put. put ∙ ap (λ text. text ++ cycle c.args.tasks.now) c.in_ok-put.ensures
    ∙ append_assoc (string_bytes c.args.out.now) (codes "UnionCycle ") (cycle c.args.tasks.now))
    c.put_cycle.ensures
