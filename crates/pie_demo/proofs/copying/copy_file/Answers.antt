use Rattle.std.proofs.Common.{ap, sym, ◌∙◌}
use Rattle.std.specs.Option.{option_map}
use Rattle.pie_files.specs.Directory.{with_file}
use Rattle.pie_files.specs.declared.files.Found.{Found}
use Rattle.pie_files.specs.inner.SureFiles.{held_by}
use Rattle.pie_demo.proofs.Setting.{on_ok}
use Rattle.pie_demo.proofs.Parts.{file_copied}
use Rattle.pie_demo.proofs.copying.copy_file.Goals as goal

pub returns-in-Some-clause-part : goal.returns-in-Some-clause-part
returns-in-Some-clause-part c = λ test has.
    on_ok c.put.result (λ set. file_copied (held_by c.args.files.now) (held_by c.args.copy.now) (held_by c.put.new.self)
    c.args.path.now c.in-Some.found.bytes.items c.in-Some.found.mark
    (sym (ap (option_map (λ (f : Found). (f.bytes.items, f.mark))) c.in-Some.is) ∙ c.in_ok-found.ensures.file)
    (set ∙ ap (λ bytes. with_file (held_by c.args.copy.now) c.args.path.now bytes c.in-Some.found.mark) c.as_slice.ensures.value) test has) c.put.ensures.set
