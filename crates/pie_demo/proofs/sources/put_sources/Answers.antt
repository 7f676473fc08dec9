use Rattle.std.proofs.Common.{◌≡◌, ◌++◌, ◌%◌, codes, decimal, ap, refl, subst, arith, ◌∙◌}
use Rattle.pie_files.specs.inner.SureFiles.{held_by}
use Rattle.pie_demo.specs.Draws.{drawn, next_state}
use Rattle.pie_demo.specs.Sources.{item_path, SetsFile, pipeline_text, roots_text}
use Rattle.pie_demo.proofs.Setting.{on_ok, set_as, set_alike}
use Rattle.pie_demo.proofs.Changing.{HasItems, next_is, no_items, item_put, all_put}
use Rattle.pie_demo.proofs.sources.put_sources.Goals as goal

pub loop-i-init : goal.loop-i-init
loop-i-init c = record { state = c.new-draws.ensures; items = no_items c.args.seed (held_by c.args.files.now) }

pub loop-i-preserved : goal.loop-i-preserved
loop-i-preserved c = record {
  state = c.in_ok-put_item.ensures.state ∙ ap next_state c.loop-i.invariant.state ∙ next_is c.args.seed c.loop-i.i;
  items = λ is. item_put c.args.seed c.loop-i.i (held_by c.loop-i.files) (held_by c.put_item.new.files) (c.loop-i.invariant.items is)
      (subst (λ x. SetsFile (item_path c.loop-i.i) (codes "v" ++ decimal (drawn x % 100)) (held_by c.loop-i.files) (held_by c.put_item.new.files))
      c.loop-i.invariant.state c.in_ok-put_item.ensures.set);
}

pub returns : goal.returns
returns c = λ is. let all : c.loop-i.i ≡ c.args.size = omega arith in
    on_ok c.put-2.result (all_put c.args.seed c.args.size (held_by c.loop-i.files) (held_by c.put.new.files)
    (held_by c.put-2.new.files)
    (subst (λ n. HasItems c.args.seed n (held_by c.loop-i.files)) all (c.loop-i.invariant.items is))
    (set_as c.in_ok-pipeline.pipeline (codes "pie.pipeline") _ pipeline_text _ _ (held_by c.put.new.files)
    c.in_ok-pipeline.ensures c.as_bytes.ensures.value refl c.in_ok-put.ensures))
    (set_alike c.put-2.result c.in_ok-roots.roots (codes "pie.roots") _ roots_text (held_by c.put.new.files)
    (held_by c.put.new.files) (held_by c.put-2.new.files)
    c.in_ok-roots.ensures refl refl c.put-2.ensures)
