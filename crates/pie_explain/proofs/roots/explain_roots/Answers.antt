use Rattle.std.proofs.Common.{IfOk, string_bytes, subst, sym}
use Rattle.pie_project.specs.declared.fault.RootsReason.{RootsReason}
use Rattle.pie_explain.specs.Places.{BeginsWith, roots_place}
use Rattle.pie_explain.proofs.roots.explain_roots.Goals as goal

-- src/roots.rt:15:1
pub returns-in_ok-shown-in-Line : goal.returns-in_ok-shown-in-Line
returns-in_ok-shown-in-Line c = subst (λ (r : RootsReason). IfOk c.explain_line.result (λ told. BeginsWith (roots_place r) (string_bytes told))) (sym c.in-Line.is) c.explain_line.ensures
