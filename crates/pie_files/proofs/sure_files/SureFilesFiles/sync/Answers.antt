use Rattle.std.proofs.Common.{ap, refl, ◌∙◌}
use Rattle.pie_files.specs.declared.sure_files.Logged.TheVariants.{Synced}
use Rattle.pie_files.specs.inner.Memory.{asked_of}
use Rattle.pie_files.proofs.Asked.{infallible_called, asked_push}
use Rattle.pie_files.proofs.Moving.{look_unnoted, sync_done, sync_only}
use Rattle.pie_files.proofs.sure_files.SureFilesFiles.sync.Goals as goal

pub returns-in_err-note_synced-clause-crash : goal.returns-in_err-note_synced-clause-crash
returns-in_err-note_synced-clause-crash c =
    look_unnoted c.args.self.now c.note_synced.new.self c.note_synced.ensures.began c.in_err-note_synced.ensures.unchanged

pub returns-clause-durable : goal.returns-clause-durable
returns-clause-durable c = sync_only c.args.self.now c.note_synced.new.self c.note_synced.ensures.began c.in_ok-note_synced.ensures.noted

pub returns-clause-crash : goal.returns-clause-crash
returns-clause-crash c = sync_done c.args.self.now c.note_synced.new.self c.note_synced.ensures.began c.in_ok-note_synced.ensures.noted

pub returns-clause-called : goal.returns-clause-called
returns-clause-called c =
    infallible_called _ _ _ _ _ refl (ap asked_of c.in_ok-note_synced.ensures.noted ∙ asked_push c.args.self.now.log.items Synced)
