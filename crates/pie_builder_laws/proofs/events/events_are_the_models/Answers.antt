use Rattle.pie_builder_laws.proofs.Coded.{event_is, unknown_fails}
use Rattle.pie_builder_laws.proofs.events.events_are_the_models.Goals as goal

pub returns-clause-known : goal.returns-clause-known
returns-clause-known c = λ fs codes t n code given answers o s k i a l q e h. event_is fs codes t n code given answers o s k i a l q e h

pub returns-clause-unknown : goal.returns-clause-unknown
returns-clause-unknown c = λ fs t given i q. unknown_fails fs t given i q
