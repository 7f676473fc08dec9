use Rattle.pie_bottomup.proofs.GoingSteps.{meets_root}
use Rattle.pie_bottomup.proofs.state.Core.next_root.Goals as goal

pub returns-in-Some-clause-whole : goal.returns-in-Some-clause-whole
returns-in-Some-clause-whole c = meets_root c.args.self.now c.begin.new.self c.in-Some.no.0 c.begin.result c.begin.ensures.whole
