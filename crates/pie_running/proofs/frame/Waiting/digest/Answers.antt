use Rattle.pie_running.proofs.frame.Waiting.digest.Goals as goal

pub returns-clause-tells : goal.returns-clause-tells
returns-clause-tells g c = λ d held. record { hash = c.in_ok-hash.hash; sees = c.in_ok-hash.ensures.sees d held; told = c.in_ok-told.ensures.told }
