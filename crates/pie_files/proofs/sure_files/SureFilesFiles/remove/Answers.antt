use Rattle.std.proofs.Common.{ap, refl, ◌∙◌}
use Rattle.pie_files.specs.declared.sure_files.Logged.TheVariants.{Removed}
use Rattle.pie_files.specs.inner.Memory.{asked_of}
use Rattle.pie_files.proofs.Asked.{infallible_called, asked_push}
use Rattle.pie_files.proofs.Moving.{removal_unnoted, removal_done}
use Rattle.pie_files.proofs.sure_files.SureFilesFiles.remove.Goals as goal

pub returns-in_err-take_away-clause-crash : goal.returns-in_err-take_away-clause-crash
returns-in_err-take_away-clause-crash c =
    removal_unnoted c.args.self.now c.take_away.new.self c.args.path.now c.take_away.ensures.began c.in_err-take_away.ensures.unchanged.1

pub returns-clause-crash : goal.returns-clause-crash
returns-clause-crash c = removal_done c.args.self.now c.take_away.new.self c.args.path.now c.take_away.ensures.began c.in_ok-take_away.ensures.noted

pub returns-clause-called : goal.returns-clause-called
returns-clause-called c =
    infallible_called _ _ _ _ _ refl (ap asked_of c.in_ok-take_away.ensures.noted ∙ asked_push c.args.self.now.log.items (Removed c.args.path.now))
