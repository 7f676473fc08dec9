use Rattle.std.proofs.Common.{◌≡◌, ◌+◌, ap, refl, rules, subst, ◌∙◌}
use Rattle.std.specs.Prelude.{None, Some, Err}
use Rattle.pie_files.specs.declared.files.Call.TheVariants.{Write}
use Rattle.pie_files.specs.declared.sure_files.Logged.TheVariants.{Wrote}
use Rattle.pie_files.specs.inner.SureFiles.{HasWritten, began_by, story_by}
use Rattle.pie_files.proofs.Moving.{write_unnoted, write_turned, write_done}
use Rattle.pie_files.proofs.Turning.{done_called, write_called}
use Rattle.pie_files.proofs.mem_files.MemFilesFiles.write.Goals as goal

pub returns-in_err-copy-clause-crash : goal.returns-in_err-copy-clause-crash
returns-in_err-copy-clause-crash c = write_unnoted c.args.self.now.files c.args.self.now.files c.args.path.now refl refl

pub returns-in_err-number-clause-crash : goal.returns-in_err-number-clause-crash
returns-in_err-number-clause-crash c =
    write_turned c.args.self.now.files c.turn.new.self.files c.args.path.now (Write c.in_ok-copy.field-0 None) c.in_err-number.field-0.0
    (ap (λ q. Write q None) c.in_ok-copy.ensures) c.in_err-number.ensures.turned

pub returns-in_err-number-clause-called : goal.returns-in_err-number-clause-called
returns-in_err-number-clause-called c =
    let failed : Err c.in_err-number.field-0.0 ≡ c.from_residual-in_err-number.result = search rules in
    write_called c.args.path.now c.in_ok-copy.field-0 c.args.self.now c.turn.new.self c.in_err-number.field-0.0 c.from_residual-in_err-number.result failed
    c.in_ok-copy.ensures c.in_err-number.ensures.turned

pub returns-in_err-write_file-clause-crash : goal.returns-in_err-write_file-clause-crash
returns-in_err-write_file-clause-crash c =
    let same = c.in_ok-number.ensures.passed in
    write_unnoted c.args.self.now.files c.write_file.new.self c.args.path.now (c.write_file.ensures.began ∙ ap (λ m. began_by m.files) same)
    (c.in_err-write_file.ensures.story ∙ ap (λ m. story_by m.files) same)

pub returns-clause-crash : goal.returns-clause-crash
returns-clause-crash c =
    let same = c.in_ok-number.ensures.passed in
    let wrote = subst (λ m. HasWritten c.args.path.now c.args.bytes.now m.files c.write_file.new.self) same c.in_ok-write_file.ensures.noted in
    write_done c.args.self.now.files c.write_file.new.self c.args.path.now c.args.path.now wrote.0 (c.args.self.now.files.writes + 1)
    refl (c.write_file.ensures.began ∙ ap (λ m. began_by m.files) same) wrote.2

pub returns-clause-called : goal.returns-clause-called
returns-clause-called c =
    let same = c.in_ok-number.ensures.passed in
    let wrote = subst (λ m. HasWritten c.args.path.now c.args.bytes.now m.files c.write_file.new.self) same c.in_ok-write_file.ensures.noted in
    let mark = c.args.self.now.files.writes + 1 in
    done_called _ (Write c.args.path.now (Some mark)) c.args.self.now _ (Wrote c.args.path.now wrote.0 mark) _ (mark, refl) refl refl wrote.2
