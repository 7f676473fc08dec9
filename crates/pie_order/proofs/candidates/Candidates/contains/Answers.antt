use Rattle.std.proofs.Common.{◌∙◌, ℕ, List, sym, subst}
use Rattle.std.specs.List.{Contains}
use Rattle.pie_order.proofs.SetSteps.{has, is_in}
use Rattle.pie_order.proofs.candidates.Candidates.contains.Goals as goal

pub returns : goal.returns
returns c = (
  (λ h. subst (λ (ns : List ℕ). Contains ns c.args.no.0) c.self.view_is (is_in c.self.inside.members c.args.no.0 (sym c.contains.ensures ∙ h))),
  (λ h. c.contains.ensures ∙ has c.self.inside.members c.args.no.0 (subst (λ (ns : List ℕ). Contains ns c.args.no.0) (sym c.self.view_is) h)),
)
