use Rattle.std.proofs.Common.{ap, refl}
use Rattle.pie_files.specs.declared.files.Call.TheVariants.{Read}
use Rattle.pie_files.proofs.Asked.{infallible_called}
use Rattle.pie_files.proofs.Moving.{look_unnoted, look_noted}
use Rattle.pie_files.proofs.sure_files.SureFilesFiles.read_within.Goals as goal

pub returns-in_err-copy-clause-crash : goal.returns-in_err-copy-clause-crash
returns-in_err-copy-clause-crash c = look_unnoted c.args.self.now c.args.self.now refl refl

pub returns-in_err-found-clause-crash : goal.returns-in_err-found-clause-crash
returns-in_err-found-clause-crash c = look_unnoted c.args.self.now c.args.self.now refl refl

pub returns-in_err-note_asked-clause-crash : goal.returns-in_err-note_asked-clause-crash
returns-in_err-note_asked-clause-crash c = look_unnoted c.args.self.now c.note_asked.new.self c.note_asked.ensures.began c.in_err-note_asked.ensures.unchanged

pub returns-clause-crash : goal.returns-clause-crash
returns-clause-crash c = look_noted c.args.self.now c.note_asked.new.self
    (Read c.in_ok-copy.field-0) c.note_asked.ensures.began c.in_ok-note_asked.ensures.noted

pub returns-clause-called : goal.returns-clause-called
returns-clause-called c = infallible_called _ _ _ _ _ (ap Read c.in_ok-copy.ensures) c.in_ok-note_asked.ensures.asked
