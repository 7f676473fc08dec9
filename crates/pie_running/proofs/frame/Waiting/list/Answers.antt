use Rattle.std.proofs.Common.{subst}
use Rattle.pie_running.specs.inner.Told.{IsToldList}
use Rattle.pie_running.proofs.frame.Waiting.list.Goals as goal

pub returns-clause-tells : goal.returns-clause-tells
returns-clause-tells g c = λ d held.
    subst (λ o. IsToldList c.args.self c.args.dir o c.in_ok-told.told) (c.in_ok-paths.ensures.means d held) c.in_ok-told.ensures.told
