use Rattle.std.proofs.Common.{◌≡◌, ap, sym, ◌∙◌, subst, codes}
use Rattle.std.specs.Prelude.{◌||◌}
use Rattle.std.specs.List.{list_any}
use Rattle.pie_base.specs.Path.{same_text}
use Rattle.pie_files.specs.Directory.{files_under}
use Rattle.pie_files.specs.inner.SureFiles.{held_by}
use Rattle.pie_demo.specs.Copies.{HasPart}
use Rattle.pie_demo.proofs.Setting.{on_ok}
use Rattle.pie_demo.proofs.Parts.{all_below}
use Rattle.pie_demo.proofs.copying.copy_all.Goals as goal

pub returns-clause-part : goal.returns-clause-part
returns-clause-part c = λ test has.
    let same : held_by c.under.new.files ≡ held_by c.args.files.now = c.in_ok-paths.ensures.same in
    let paths : c.as_slice.result.now ≡ files_under (held_by c.args.files.now) (codes "src") =
    c.as_slice.ensures.value ∙ c.in_ok-paths.ensures.listed ∙ ap (files_under (held_by c.args.files.now)) c.in_ok-top.ensures in
    on_ok c.copy_each.result (λ h. all_below (held_by c.args.files.now) (held_by c.copy_each.new.copy) (codes "src") test
    (subst (λ ps. HasPart (held_by c.args.files.now) (held_by c.copy_each.new.copy) (λ q. list_any (same_text q) ps || test q)) paths
    (subst (λ e. HasPart e (held_by c.copy_each.new.copy) (λ q. list_any (same_text q) c.as_slice.result.now || test q)) same h)))
    (c.copy_each.ensures.part test (subst (λ e. HasPart e (held_by c.args.copy.now) test) (sym same) has))
