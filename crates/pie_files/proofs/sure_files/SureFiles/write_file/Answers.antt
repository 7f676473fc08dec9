use Rattle.std.proofs.Common.{◌≡◌, rules, ◌+◌, ◌++◌, [], ◌∷◌, ap, ◌∙◌}
use Rattle.pie_files.specs.declared.sure_files.Logged.TheVariants.{Wrote}
use Rattle.pie_files.proofs.sure_files.SureFiles.write_file.Goals as goal

pub returns-clause-noted : goal.returns-clause-noted
returns-clause-noted c =
    let marked : c.in-Some.mark ≡ c.args.self.now.writes + 1 = search rules in (
      c.in_ok-kept.kept,
      c.in_ok-kept.ensures,
      c.in_ok-set.ensures.noted ∙ ap (λ q. c.args.self.now.log.items ++ Wrote q c.in_ok-kept.kept c.in-Some.mark ∷ []) c.in_ok-copy.ensures
          ∙ ap (λ m. c.args.self.now.log.items ++ Wrote c.args.path.now c.in_ok-kept.kept m ∷ []) marked,
    )
