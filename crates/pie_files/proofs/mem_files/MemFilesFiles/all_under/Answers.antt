use Rattle.std.proofs.Common.{◌≡◌, ap, refl, rules}
use Rattle.std.specs.Prelude.{Err}
use Rattle.pie_files.specs.declared.files.Call.TheVariants.{AllUnder}
use Rattle.pie_files.proofs.Moving.{look_unnoted, look_noted, look_turned}
use Rattle.pie_files.proofs.Turning.{looked_called, result_called}
use Rattle.pie_files.proofs.mem_files.MemFilesFiles.all_under.Goals as goal

pub returns-in_err-copy-clause-crash : goal.returns-in_err-copy-clause-crash
returns-in_err-copy-clause-crash c = look_unnoted c.args.self.now.files c.args.self.now.files refl refl

pub returns-in_err-paths-clause-crash : goal.returns-in_err-paths-clause-crash
returns-in_err-paths-clause-crash c = look_unnoted c.args.self.now.files c.args.self.now.files refl refl

pub returns-in_err-look-clause-crash : goal.returns-in_err-look-clause-crash
returns-in_err-look-clause-crash c =
    look_turned c.args.self.now.files c.look.new.self.files (AllUnder c.in_ok-copy.field-0) c.in_err-look.field-0.0 tt c.in_err-look.ensures.turned

pub returns-in_err-look-clause-called : goal.returns-in_err-look-clause-called
returns-in_err-look-clause-called c =
    let failed : Err c.in_err-look.field-0.0 ≡ c.from_residual-in_err-look.result = search rules in
    result_called _ (AllUnder c.in_ok-copy.field-0) c.args.self.now c.look.new.self c.in_err-look.field-0.0 c.from_residual-in_err-look.result failed
    (ap AllUnder c.in_ok-copy.ensures) c.in_err-look.ensures.turned

pub returns-clause-crash : goal.returns-clause-crash
returns-clause-crash c =
    look_noted c.args.self.now.files c.look.new.self.files (AllUnder c.in_ok-copy.field-0) c.look.ensures.began c.in_ok-look.ensures.noted

pub returns-clause-called : goal.returns-clause-called
returns-clause-called c = looked_called _ _ c.args.self.now c.look.new.self _ (ap AllUnder c.in_ok-copy.ensures) c.in_ok-look.ensures.noted
