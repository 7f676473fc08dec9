use Rattle.std.proofs.Common.{◌≡◌, ◌++◌, [], ◌∷◌, ap, refl, rules, ◌∙◌}
use Rattle.std.specs.Prelude.{Err}
use Rattle.pie_files.specs.declared.files.Call.TheVariants.{Sync}
use Rattle.pie_files.specs.declared.sure_files.Logged.TheVariants.{Synced}
use Rattle.pie_files.specs.inner.SureFiles.{began_by, story_by}
use Rattle.pie_files.proofs.Moving.{look_unnoted, look_turned, sync_done, sync_only}
use Rattle.pie_files.proofs.Turning.{done_called, result_called}
use Rattle.pie_files.proofs.mem_files.MemFilesFiles.sync.Goals as goal

pub returns-in_err-number-clause-crash : goal.returns-in_err-number-clause-crash
returns-in_err-number-clause-crash c =
    look_turned c.args.self.now.files c.turn.new.self.files Sync c.in_err-number.field-0.0 tt c.in_err-number.ensures.turned

pub returns-in_err-number-clause-called : goal.returns-in_err-number-clause-called
returns-in_err-number-clause-called c =
    let failed : Err c.in_err-number.field-0.0 ≡ c.from_residual.result = search rules in
    result_called _ Sync c.args.self.now c.turn.new.self c.in_err-number.field-0.0 c.from_residual.result failed refl c.in_err-number.ensures.turned

pub returns-in_err-note_synced-clause-crash : goal.returns-in_err-note_synced-clause-crash
returns-in_err-note_synced-clause-crash c =
    let same = c.in_ok-number.ensures.passed in
    look_unnoted c.args.self.now.files c.note_synced.new.self (c.note_synced.ensures.began ∙ ap (λ m. began_by m.files) same)
    (c.in_err-note_synced.ensures.unchanged ∙ ap (λ m. story_by m.files) same)

pub returns-clause-durable : goal.returns-clause-durable
returns-clause-durable c =
    let same = c.in_ok-number.ensures.passed in
    sync_only c.args.self.now.files c.note_synced.new.self (c.note_synced.ensures.began ∙ ap (λ m. began_by m.files) same)
    (c.in_ok-note_synced.ensures.noted ∙ ap (λ m. story_by m.files ++ Synced ∷ []) same)

pub returns-clause-crash : goal.returns-clause-crash
returns-clause-crash c =
    let same = c.in_ok-number.ensures.passed in
    sync_done c.args.self.now.files c.note_synced.new.self (c.note_synced.ensures.began ∙ ap (λ m. began_by m.files) same)
    (c.in_ok-note_synced.ensures.noted ∙ ap (λ m. story_by m.files ++ Synced ∷ []) same)

pub returns-clause-called : goal.returns-clause-called
returns-clause-called c =
    done_called _ Sync c.args.self.now _ Synced _ refl refl refl
    (c.in_ok-note_synced.ensures.noted ∙ ap (λ m. story_by m.files ++ Synced ∷ []) c.in_ok-number.ensures.passed)
