use Rattle.std.proofs.Common.{◌≡◌, refl, sym, ◌∙◌}
use Rattle.pie_files.specs.inner.SureFiles.{held_by}
use Rattle.pie_incremental.specs.Own.{bytes_at}
use Rattle.pie_demo.specs.Sources.{changed_text, or_nothing}
use Rattle.pie_demo.proofs.Setting.{set_alike}
use Rattle.pie_demo.proofs.Changing.{odd_text}
use Rattle.pie_demo.proofs.sources.change_text.Goals as goal

pub returns-in_ok-text : goal.returns-in_ok-text
returns-in_ok-text c =
    let text : c.as_bytes.result.now ≡ changed_text c.args.k (or_nothing (bytes_at (held_by c.args.files.now) c.args.path.now)) =
    c.as_bytes.ensures.value ∙ c.in_ok-text.ensures.ok ∙ sym (odd_text c.args.k _ c.if-k-eq1.true) in
    set_alike c.put.result c.args.path.now c.args.path.now _ _ (held_by c.args.files.now) (held_by c.args.files.now)
    (held_by c.put.new.files) refl text refl c.put.ensures
