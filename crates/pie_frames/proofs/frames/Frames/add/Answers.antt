use Rattle.std.proofs.Common.{[], ◌∷◌, sym, subst}
use Rattle.pie_walk.specs.declared.stack.Entry.TheVariants.{Waits}
use Rattle.pie_walk.specs.States.{WalkState, OnTop}
use Rattle.pie_frames.proofs.Handing.{grows}
use Rattle.pie_frames.proofs.frames.Frames.add.Goals as goal

pub returns-clause-rests : goal.returns-clause-rests
returns-clause-rests c = λ rests. grows c.args.self.now c.add.new.self [] c.in_ok-no.ensures.stands c.in_ok-no.ensures.added c.in_ok-no.ensures.counts rests

pub returns-clause-holds : goal.returns-clause-holds
returns-clause-holds c = λ task holds. record {
  taken = grows c.args.self.now c.add.new.self (task.0 ∷ []) c.in_ok-no.ensures.stands c.in_ok-no.ensures.added c.in_ok-no.ensures.counts holds.taken;
  top = subst (λ (s : WalkState). OnTop s (Waits task)) (sym c.in_ok-no.ensures.added) holds.top;
}
