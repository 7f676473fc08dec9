use Rattle.std.proofs.Common.{◌≡◌, ◌<◌, ℕ, get_or, true, false, ◌∙◌, refl, subst, arith, below_more}
use Rattle.std.specs.Prelude.{slice_index}
use Rattle.std.proofs.lemmas.List.{get_or_default}
use Rattle.pie_graph.specs.declared.edges.TaskNo.{TaskNo}
use Rattle.pie_graph.specs.Numbers.{numbers}
use Rattle.pie_order.proofs.AgreeSteps.{held}
use Rattle.pie_walk.proofs.ScanSteps.{number_at, length_numbers}
use Rattle.pie_walk.proofs.earlier.all_below.Goals as goal

pub returns-then-task-bound : goal.returns-then-task-bound
returns-then-task-bound c =
    let zero : TaskNo = record { 0 = 0 } in (
      λ t. let clash : false ≡ true = t in absurd (cc),
      λ all.
          let less = all (get_or c.args.tasks.now c.loop-i.i zero).0 (held c.args.tasks.now c.loop-i.i zero c.loop-i-test.true) in
          absurd (omega (arith, less, c.if-task-bound.true)),
    )

pub loop-i-preserved : goal.loop-i-preserved
loop-i-preserved c =
    let zero : TaskNo = record { 0 = 0 } in
    let ns = numbers c.args.tasks.now in
    below_more (λ j. slice_index ns j < c.args.bound) c.loop-i.i c.loop-i.invariant
    (omega (arith, number_at c.args.tasks.now c.loop-i.i zero c.loop-i-test.true, c.if-task-bound.false))

pub returns : goal.returns
returns c =
    let ns = numbers c.args.tasks.now in (
      (λ t n h. subst (λ (k : ℕ). k < c.args.bound) (get_or_default ns h.0 0 n h.1 ∙ h.2)
          (c.loop-i.invariant h.0 (omega (arith, h.1, length_numbers c.args.tasks.now, c.loop-i-test.false)))),
      λ all. refl,
    )
