-- What an input and an output in memory mean.
use Rattle.std.specs.Prelude.{List, ℕ, drop}
use Rattle.pie_files.specs.declared.mem_streams.MemSource.{MemSource}
use Rattle.pie_files.specs.declared.mem_streams.MemSink.{MemSink}
use Rattle.pie_files.specs.inner.Failures.{IsInfallible}

-- the bytes that are left
abbrev pub left_in : MemSource → List ℕ
left_in s = drop s.at s.bytes.items

-- how many calls have failed
abbrev pub source_faults : MemSource → ℕ
source_faults s = s.failures.faults

-- no call to come is to fail
abbrev pub InfallibleSource : MemSource → Type 0
InfallibleSource s = IsInfallible s.failures

-- the bytes so far
abbrev pub held_at : MemSink → List ℕ
held_at s = s.bytes.items

-- how many calls have failed
abbrev pub sink_faults : MemSink → ℕ
sink_faults s = s.failures.faults

-- no call to come is to fail
abbrev pub InfallibleSink : MemSink → Type 0
InfallibleSink s = IsInfallible s.failures
