use Rattle.std.proofs.Common.{◌≡◌, ◌++◌, map, drop}
use Rattle.pie_build.proofs.paths.paths_of.Given as goal

abbrev pub invariant-loop-path : goal.invariant-loop-path
invariant-loop-path l = l.paths.items ++ map (λ f. f.0) (drop l.path-index l.files) ≡ map (λ f. f.0) l.files
