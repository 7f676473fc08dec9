use Rattle.std.proofs.Common.{ap₂, ◌∙◌}
use Rattle.std.proofs.lemmas.Result.{IfErr-weaker}
use Rattle.clap.specs.Words.{takes}
use Rattle.pie_words.proofs.Taken.{taken}
use Rattle.pie_words.proofs.grammar.matches.Goals as goal

pub returns-clause-memory : goal.returns-clause-memory
returns-clause-memory c =
    IfErr-weaker c.try_get_matches_from.result _ _ (λ error passes. passes (ap₂ takes c.in_ok-commands.ensures c.requires.2 ∙ taken c.requires.0 c.requires.1))
    c.try_get_matches_from.ensures.passes
