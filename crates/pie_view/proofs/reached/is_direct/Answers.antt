use Rattle.std.proofs.Common.{◌≡◌, ◌∙◌, ◌-◌, ℕ, true, sym, subst, get_or, eqb, inl, inr, arith}
use Rattle.std.specs.List.{Contains}
use Rattle.std.proofs.lemmas.Bool.Decides.{eqb_tells}
use Rattle.pie_graph.specs.declared.edges.TaskNo.{TaskNo}
use Rattle.pie_graph.specs.Numbers.{numbers}
use Rattle.pie_view.proofs.Entering.{number_here}
use Rattle.pie_view.proofs.reached.is_direct.Goals as goal

same_number : (a b : ℕ) → eqb a b ≡ true → a ≡ b
same_number a b h = elim (eqb_tells a b) [
  | inl e ↦ e.1
  | inr e ↦ absurd (cc)
]

pub returns-then-eq : goal.returns-then-eq
returns-then-eq c = λ _.
    let at : TaskNo = get_or c.args.required.now (c.loop-left.left - 1) (record { 0 = 0 }) in
    subst (Contains (numbers c.args.required.now)) (same_number at.0 c.args.to.0 (sym c.eq.ensures ∙ c.if-eq.true))
    (number_here c.args.required.now (c.loop-left.left - 1) (record { 0 = 0 }) (omega (arith, c.loop-left.invariant, c.loop-left-test.true)))
