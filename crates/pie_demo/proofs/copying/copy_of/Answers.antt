use Rattle.std.proofs.Common.{◌≡◌, refl, sym, ◌∙◌, subst, codes, false, List, ℕ}
use Rattle.std.specs.Prelude.{◌||◌}
use Rattle.pie_base.specs.Path.{same_text, is_below}
use Rattle.pie_files.specs.inner.SureFiles.{held_by}
use Rattle.pie_demo.specs.Copies.{HasPart}
use Rattle.pie_demo.proofs.Parts.{then_part, nothing_yet, copy_made}
use Rattle.pie_demo.proofs.copying.copy_of.Goals as goal

pub returns-clause-part : goal.returns-clause-part
returns-clause-part c =
    let d = held_by c.args.files.now in
    let first = then_part d d (held_by c.new-copy.result) (held_by c.copy_file.new.copy) c.in_ok-pipeline.pipeline (codes "pie.pipeline") refl
    c.in_ok-pipeline.ensures c.in_ok-copy_file.ensures.part (λ q. false) (nothing_yet d (held_by c.new-copy.result) c.new-copy.ensures.empty) in
    let second = then_part d (held_by c.copy_file.new.files) (held_by c.copy_file.new.copy) (held_by c.copy_file-2.new.copy) c.in_ok-roots.roots
    (codes "pie.roots") c.in_ok-copy_file.ensures.same c.in_ok-roots.ensures c.in_ok-copy_file-2.ensures.part
    (λ q. same_text q (codes "pie.pipeline") || false) first in
    let same : held_by c.copy_file-2.new.files ≡ d = c.in_ok-copy_file-2.ensures.same ∙ c.in_ok-copy_file.ensures.same in
    let test = λ (q : List ℕ). same_text q (codes "pie.roots") || (same_text q (codes "pie.pipeline") || false) in
    copy_made d (held_by c.copy_all.new.copy) (subst (λ e. HasPart e (held_by c.copy_all.new.copy) (λ q. is_below (codes "src") q || test q)) same
    (c.in_ok-copy_all.ensures.part test (subst (λ e. HasPart e (held_by c.copy_file-2.new.copy) test) (sym same) second)))
