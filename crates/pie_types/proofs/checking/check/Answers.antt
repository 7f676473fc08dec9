use Rattle.pie_types.proofs.Complete.{one_type}
use Rattle.pie_types.proofs.WholeLaw.{answer_typed, answer_all}
use Rattle.pie_types.proofs.checking.check.Goals as goal

pub returns-clause-typed : goal.returns-clause-typed
returns-clause-typed c = answer_typed c.checked.result c.args.pipeline.functions.items c.checked.ensures

pub returns-clause-all : goal.returns-clause-all
returns-clause-all c = answer_all c.checked.result c.args.pipeline.functions.items c.checked.ensures

pub returns-clause-one_type : goal.returns-clause-one_type
returns-clause-one_type c = one_type
