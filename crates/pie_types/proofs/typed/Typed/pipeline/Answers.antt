use Rattle.std.proofs.Common.{subst}
use Rattle.pie_types.specs.inner.WholeRules.{IsTyped}
use Rattle.pie_types.proofs.WholeLaw.{checked_sound}
use Rattle.pie_types.proofs.typed.Typed.pipeline.Goals as goal

pub returns-clause-typed : goal.returns-clause-typed
returns-clause-typed c = subst IsTyped c.self.view_is (checked_sound _ _ c.self.invariant.1)
