use Rattle.pie_running.proofs.frame.Waiting.exists.Goals as goal

pub returns-clause-tells : goal.returns-clause-tells
returns-clause-tells g c = λ d held. record { presence = c.in_ok-there.there; sees = c.in_ok-there.ensures.sees d held; told = c.in_ok-told.ensures.told }
