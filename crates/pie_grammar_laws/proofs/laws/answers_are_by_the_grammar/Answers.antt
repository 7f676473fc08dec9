use Rattle.pie_grammar_laws.proofs.laws.answers_are_by_the_grammar.Goals as goal
use Rattle.pie_grammar_laws.proofs.Stops.{accepted_of, expected_of, too_deep_of, room_of}

pub returns-clause-room : goal.returns-clause-room
returns-clause-room c = room_of

pub returns-clause-accepted : goal.returns-clause-accepted
returns-clause-accepted c = accepted_of

pub returns-clause-expected : goal.returns-clause-expected
returns-clause-expected c = expected_of

pub returns-clause-too_deep : goal.returns-clause-too_deep
returns-clause-too_deep c = too_deep_of
