use Rattle.std.proofs.Common.{◌≡◌, drop}
use Rattle.std.specs.List.{list_all}
use Rattle.pie_files.specs.inner.SureFiles.{held_by}
use Rattle.pie_demo.specs.Copies.{same_at}
use Rattle.pie_demo.proofs.comparing.have_same.Given as goal

abbrev pub invariant-loop-path : goal.invariant-loop-path
invariant-loop-path l = record {
  rest : list_all (same_at (held_by l.fn.one) (held_by l.fn.other)) (drop l.path-index l.paths)
      ≡ list_all (same_at (held_by l.fn.one) (held_by l.fn.other)) l.fn.paths;
  one : held_by l.one ≡ held_by l.fn.one;
  other : held_by l.other ≡ held_by l.fn.other;
}
