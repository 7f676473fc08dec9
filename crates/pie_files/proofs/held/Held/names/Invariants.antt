use Rattle.std.proofs.Common.{◌≡◌, ℕ, List}
use Rattle.std.specs.Prelude.{◌||◌}
use Rattle.std.specs.List.{filter_map}
use Rattle.pie_base.specs.Path.{entry_on_way}
use Rattle.pie_files.specs.inner.Held.{is_among}
use Rattle.pie_files.proofs.held.Held.names.Given as goal

abbrev pub invariant-loop-path : goal.invariant-loop-path
invariant-loop-path l = (q : List ℕ) → (is_among q l.entries.keys || is_among q (filter_map (entry_on_way l.dir) l.path-iterator))
    ≡ is_among q (filter_map (entry_on_way l.dir) l.initial.path-iterator)
