use Rattle.std.proofs.Common.{◌≡◌, [], drop}
use Rattle.pie_cache.specs.inner.Reading.{contents_at}
use Rattle.pie_cache.proofs.Turns.{bytes_in}
use Rattle.pie_cache.proofs.reading.contents.Given as goal

abbrev pub invariant-loop-hash : goal.invariant-loop-hash
invariant-loop-hash l = contents_at (drop l.hash-index l.writes) (bytes_in l.contents.items) l.reader ≡ contents_at l.writes [] l.initial.reader
