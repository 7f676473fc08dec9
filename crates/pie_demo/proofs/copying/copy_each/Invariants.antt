use Rattle.std.proofs.Common.{◌≡◌, take, List, ℕ, Bool}
use Rattle.std.specs.Prelude.{◌||◌}
use Rattle.std.specs.List.{list_any}
use Rattle.pie_base.specs.Path.{same_text}
use Rattle.pie_files.specs.inner.SureFiles.{held_by}
use Rattle.pie_demo.specs.Copies.{HasPart}
use Rattle.pie_demo.proofs.copying.copy_each.Given as goal

abbrev pub invariant-loop-path : goal.invariant-loop-path
invariant-loop-path l = record {
  part : (test : List ℕ → Bool) → HasPart (held_by l.fn.files) (held_by l.fn.copy) test
      → HasPart (held_by l.fn.files) (held_by l.copy) (λ q. list_any (same_text q) (take l.path-index l.paths) || test q);
  same : held_by l.files ≡ held_by l.fn.files;
}
