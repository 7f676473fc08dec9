use Rattle.pie_model.proofs.PlacedLemmas.{known_placed}
use Rattle.pie_model.proofs.run_laws.records_answer_requires.Goals as goal

pub returns : goal.returns
returns c =
    λ w P R held above few counted distinct above_held u recorded right apart room le.
    known_placed w P R held above few counted distinct above_held u (record { recorded = recorded; right = right }) apart room le
