use Rattle.pie_model_program.proofs.KindLemmas.{kind_is}
use Rattle.pie_model_program.proofs.script.kind_at.Goals as goal

pub returns : goal.returns
returns c =
    kind_is c.args.path.now c.starts-out.result c.has_more-more.result c.is_kept-kept.result c.kind_by_tests.result
    c.starts-out.ensures c.has_more-more.ensures c.is_kept-kept.ensures c.kind_by_tests.ensures
