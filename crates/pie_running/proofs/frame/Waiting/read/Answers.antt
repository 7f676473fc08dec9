use Rattle.pie_running.proofs.frame.Waiting.read.Goals as goal

pub returns-clause-tells : goal.returns-clause-tells
returns-clause-tells g c = λ d held. record { sight = c.in_ok-seen.seen; sees = c.in_ok-seen.ensures.sees d held; told = c.in_ok-told.ensures.told }
