use Rattle.std.proofs.Common.{sym, ◌∙◌}
use Rattle.pie_topdown_laws.proofs.Building.{place_passes, stamps_same}
use Rattle.pie_topdown_laws.proofs.checks.places_pass.Goals as goal

pub returns-clause-passes : goal.returns-clause-passes
returns-clause-passes c = λ x before R names root fs t r passed rest o M h. place_passes x before R root fs t r names passed rest o M h

pub returns-clause-by_records : goal.returns-clause-by_records
returns-clause-by_records c =
    λ x before R told names root fs t r passed rest o M tells h.
    place_passes x before R root fs t r names passed rest o M (sym (stamps_same x before R root fs t r names passed rest o M told tells) ∙ h)

pub returns-clause-stamps : goal.returns-clause-stamps
returns-clause-stamps c =
    λ x before R told names root fs t r passed rest o M tells. stamps_same x before R root fs t r names passed rest o M told tells
