use Rattle.std.proofs.Common.{◌≡◌, ◌++◌, drop}
use Rattle.std.specs.List.{flat_map}
use Rattle.pie_value.specs.Canonical.{counted}
use Rattle.pie_cache.proofs.writer.put_contents.Given as goal

abbrev pub invariant-loop-content : goal.invariant-loop-content
invariant-loop-content l = l.out.items ++ flat_map (λ c. counted c.items) (drop l.content-index l.contents) ≡ l.fn.out.items ++ flat_map (λ c. counted c.items) l.contents
