use Rattle.std.proofs.Common.{◌++◌, [], ◌∷◌, ap, ◌∙◌}
use Rattle.pie_files.specs.declared.sure_files.Logged.TheVariants.{Put}
use Rattle.pie_files.proofs.Moving.{put_done}
use Rattle.pie_files.proofs.sure_files.SureFiles.put.Goals as goal

pub returns-clause-images : goal.returns-clause-images
returns-clause-images c =
    put_done c.args.self.now c.set.new.self c.args.path.now c.in_ok-copy.field-0 c.args.bytes.now c.in_ok-kept.kept c.args.mark
    c.in_ok-copy.ensures c.in_ok-kept.ensures c.set.ensures.began c.in_ok-set.ensures.noted

pub returns-clause-noted : goal.returns-clause-noted
returns-clause-noted c = (
  c.in_ok-kept.kept,
  c.in_ok-kept.ensures,
  c.in_ok-set.ensures.noted ∙ ap (λ q. c.args.self.now.log.items ++ Put q c.in_ok-kept.kept c.args.mark ∷ []) c.in_ok-copy.ensures,
)
