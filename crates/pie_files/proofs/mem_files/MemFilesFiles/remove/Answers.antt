use Rattle.std.proofs.Common.{◌≡◌, ◌++◌, [], ◌∷◌, ap, refl, rules, ◌∙◌}
use Rattle.std.specs.Prelude.{Err}
use Rattle.pie_files.specs.declared.files.Call.TheVariants.{Remove}
use Rattle.pie_files.specs.declared.sure_files.Logged.TheVariants.{Removed}
use Rattle.pie_files.specs.inner.SureFiles.{began_by, story_by}
use Rattle.pie_files.proofs.Moving.{removal_unnoted, removal_turned, removal_done}
use Rattle.pie_files.proofs.Turning.{done_called, result_called}
use Rattle.pie_files.proofs.mem_files.MemFilesFiles.remove.Goals as goal

pub returns-in_err-copy-clause-crash : goal.returns-in_err-copy-clause-crash
returns-in_err-copy-clause-crash c = removal_unnoted c.args.self.now.files c.args.self.now.files c.args.path.now refl refl

pub returns-in_err-number-clause-crash : goal.returns-in_err-number-clause-crash
returns-in_err-number-clause-crash c =
    removal_turned c.args.self.now.files c.turn.new.self.files c.args.path.now (Remove c.in_ok-copy.field-0) c.in_err-number.field-0.0
    (ap Remove c.in_ok-copy.ensures) c.in_err-number.ensures.turned

pub returns-in_err-number-clause-called : goal.returns-in_err-number-clause-called
returns-in_err-number-clause-called c =
    let failed : Err c.in_err-number.field-0.0 ≡ c.from_residual-in_err-number.result = search rules in
    result_called _ (Remove c.in_ok-copy.field-0) c.args.self.now c.turn.new.self c.in_err-number.field-0.0 c.from_residual-in_err-number.result failed
    (ap Remove c.in_ok-copy.ensures) c.in_err-number.ensures.turned

pub returns-in_err-take_away-clause-crash : goal.returns-in_err-take_away-clause-crash
returns-in_err-take_away-clause-crash c =
    let same = c.in_ok-number.ensures.passed in
    removal_unnoted c.args.self.now.files c.take_away.new.self c.args.path.now (c.take_away.ensures.began ∙ ap (λ m. began_by m.files) same)
    (c.in_err-take_away.ensures.unchanged.1 ∙ ap (λ m. story_by m.files) same)

pub returns-clause-crash : goal.returns-clause-crash
returns-clause-crash c =
    let same = c.in_ok-number.ensures.passed in
    removal_done c.args.self.now.files c.take_away.new.self c.args.path.now (c.take_away.ensures.began ∙ ap (λ m. began_by m.files) same)
    (c.in_ok-take_away.ensures.noted ∙ ap (λ m. story_by m.files ++ Removed c.args.path.now ∷ []) same)

pub returns-clause-called : goal.returns-clause-called
returns-clause-called c =
    done_called _ (Remove c.args.path.now) c.args.self.now _ (Removed c.args.path.now) _ refl refl refl
    (c.in_ok-take_away.ensures.noted ∙ ap (λ m. story_by m.files ++ Removed c.args.path.now ∷ []) c.in_ok-number.ensures.passed)
