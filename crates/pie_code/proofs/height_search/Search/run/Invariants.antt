use Rattle.std.proofs.Common.{◌≡◌, ◌<◌, ℕ, Some, slice_get}
use Rattle.pie_code.specs.Searches.{Grows, IsSearch, IsDone}
use Rattle.pie_code.proofs.height_search.Search.run.Given as goal

abbrev pub invariant-loop-next : goal.invariant-loop-next
invariant-loop-next l =
    IsSearch l.code l.self
    × Grows l.fn.self l.self
    × ((i place height : ℕ) → i < l.next → slice_get l.self.met.items i ≡ Some (place, height) → IsDone l.code l.lows l.self place height)
