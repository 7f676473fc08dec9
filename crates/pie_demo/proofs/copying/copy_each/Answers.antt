use Rattle.std.proofs.Common.{◌∙◌, refl, take}
use Rattle.std.specs.Prelude.{◌||◌}
use Rattle.std.specs.List.{list_any}
use Rattle.pie_base.specs.Path.{same_text}
use Rattle.pie_files.specs.inner.SureFiles.{held_by}
use Rattle.pie_demo.proofs.Parts.{then_part, one_more}
use Rattle.pie_demo.proofs.copying.copy_each.Goals as goal

pub loop-path-preserved : goal.loop-path-preserved
loop-path-preserved c = record {
  part = λ test has. one_more (held_by c.args.files.now) (held_by c.copy_file.new.copy) c.args.paths.now c.loop-path.path-index c.path-item.result test
      c.loop-path-test.true c.path-item.is
      (then_part (held_by c.args.files.now) (held_by c.loop-path.files) (held_by c.loop-path.copy) (held_by c.copy_file.new.copy)
      c.path-item.result c.path-item.result c.loop-path.invariant.same refl c.in_ok-copy_file.ensures.part
      (λ q. list_any (same_text q) (take c.loop-path.path-index c.args.paths.now) || test q) (c.loop-path.invariant.part test has));
  same = c.in_ok-copy_file.ensures.same ∙ c.loop-path.invariant.same;
}
