use Rattle.pie_reach.proofs.walk.Walk.run.Goals as goal

pub loop-preserved : goal.loop-preserved
loop-preserved g c = (c.in_ok-step.ensures.ready, λ starts walking. c.in_ok-step.ensures.kept starts (c.loop.invariant.1 starts walking))

pub returns-clause-kept : goal.returns-clause-kept
returns-clause-kept g c = λ starts walking. c.in_ok-step.ensures.kept starts (c.loop.invariant.1 starts walking)
