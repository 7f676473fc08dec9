use Rattle.std.proofs.Common.{◌≡◌, [], ◌∷◌, ◌++◌, refl, ap, ◌∙◌}
use Rattle.pie_files.specs.inner.SureFiles.{held_by}
use Rattle.pie_incremental.specs.Own.{bytes_at}
use Rattle.pie_demo.specs.Sources.{or_nothing}
use Rattle.pie_demo.proofs.Setting.{set_alike}
use Rattle.pie_demo.proofs.sources.add_space.Goals as goal

pub returns : goal.returns
returns c =
    let text : c.as_slice.result.now ≡ or_nothing (bytes_at (held_by c.args.files.now) c.args.path.now) ++ 32 ∷ [] =
    c.as_slice.ensures.value ∙ c.in_ok-push.ensures.items ∙ ap (λ t. t ++ 32 ∷ []) c.in_ok-text.ensures.bytes in
    set_alike c.put.result c.args.path.now c.args.path.now _ _ _ _ (held_by c.put.new.files) refl text c.in_ok-text.ensures.same c.put.ensures
