use Rattle.std.proofs.Common.{◌+◌, refl}
use Rattle.pie_files.proofs.Moving.{write_unnoted, write_done}
use Rattle.pie_files.proofs.sure_files.SureFilesFiles.write.Goals as goal

pub returns-in_err-write_file-clause-crash : goal.returns-in_err-write_file-clause-crash
returns-in_err-write_file-clause-crash c =
    write_unnoted c.args.self.now c.write_file.new.self c.args.path.now c.write_file.ensures.began c.in_err-write_file.ensures.story

pub returns-clause-crash : goal.returns-clause-crash
returns-clause-crash c =
    let wrote = c.in_ok-write_file.ensures.noted in
    write_done c.args.self.now c.write_file.new.self c.args.path.now c.args.path.now wrote.0 (c.args.self.now.writes + 1)
    refl c.write_file.ensures.began wrote.2
