use Rattle.std.proofs.Common.{◌≡◌, ◌+◌, ◌-◌, ◌%◌, ap, ◌∙◌, subst}
use Rattle.pie_demo.specs.Draws.{drawn, state_after}
use Rattle.pie_incremental.specs.Own.{bytes_at}
use Rattle.pie_demo.specs.Sources.{item_path, changed_path, changed_text, or_nothing, SetsFile}
use Rattle.pie_files.specs.inner.SureFiles.{held_by}
use Rattle.pie_demo.proofs.Changing.{round_changes}
use Rattle.pie_demo.proofs.sources.change.Goals as goal

pub returns-clause-sources : goal.returns-clause-sources
returns-clause-sources c = λ has.
    let path : c.in_ok-path.path ≡ changed_path c.args.seed c.args.size c.args.k =
    c.in_ok-path.ensures ∙ ap item_path (c.below.ensures.drawn ∙ ap (λ x. drawn x % c.args.size)
    (c.skip.ensures ∙ ap (λ x. state_after x (c.args.size + (c.args.k - 1))) c.new-draws.ensures)) in
    round_changes c.args.seed c.args.size c.args.k (held_by c.args.files.now) (held_by c.change_text.new.files) c.requires.first has
    (subst (λ p. SetsFile p (changed_text c.args.k (or_nothing (bytes_at (held_by c.args.files.now) p))) (held_by c.args.files.now)
    (held_by c.change_text.new.files))
    path c.in_ok-change_text.ensures)
