-- What the cache offers for a task.
use Rattle.std.specs.Prelude.{ℕ, nat_lt, cond, List, [], length, Option, None, Some, Result, Ok, Err}
use Rattle.pie_files.specs.Directory.{Directory, file_at}
use Rattle.pie_files.specs.declared.files.Within.{Within}
use Rattle.pie_files.specs.declared.files.Within.TheVariants.{Absent, Long, Whole}
use Rattle.pie_store.specs.inner.Offers.{Offered}
use Rattle.pie_value.specs.declared.task.Task.{Task}
use Rattle.pie_cache.specs.declared.cache_fault.CacheFault.{CacheFault}
use Rattle.pie_cache.specs.inner.Places.{cache_path}
use Rattle.pie_cache.specs.inner.Reading.{cache_says}

-- the entries that were read, or none
abbrev pub or_none : Result (List Offered) CacheFault → List Offered
or_none (Ok entries) = entries
or_none (Err e) = []

-- the entries of a file: none where there is none, where it is too long, or where it is no cache file
abbrev pub entries_of : Option (List ℕ × ℕ) → List Offered
entries_of None = []
entries_of (Some f) = cond (nat_lt 16777216 (length f.0)) [] (or_none (cache_says f.0))

-- the entries of a task's cache file
abbrev pub offers_in : Directory → Task → List ℕ → List Offered
offers_in d task digest = entries_of (file_at d (cache_path task digest))

-- the entries of what was found of a file that isn't to be too long
abbrev pub entries_found : Within → List Offered
entries_found Absent = []
entries_found Long = []
entries_found (Whole found) = or_none (cache_says found.bytes.items)
