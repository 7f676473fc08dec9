-- Which calls on an object in memory fail.
use Rattle.std.specs.Prelude.{◌≡◌, ◌<◌, ◌==◌, ◌+◌, ◌&&◌, ℕ, suc, Bool, true, false, not, List, [], ◌∷◌}
use Rattle.std.specs.List.{list_any}
use Rattle.pie_files.specs.declared.failures.Failures.{Failures}
use Rattle.pie_files.specs.declared.sure_files.Logged.{Logged}
use Rattle.pie_files.specs.declared.sure_files.Logged.TheVariants.{Put, FailsAt, Asked, Failed, Wrote, Removed, Synced}

-- the call of this number is to fail
abbrev pub is_listed : ℕ → List ℕ → Bool
is_listed number failing = list_any (λ n. n == number) failing

-- no call to come is to fail
abbrev pub IsInfallible : Failures → Type 0
IsInfallible f = (number : ℕ) → f.calls < number → is_listed number f.failing.items ≡ false

-- how many calls one thing is
abbrev pub calls_by : Logged → ℕ
calls_by (Put path bytes mark) = 0
calls_by (FailsAt numbers) = 0
calls_by (Asked call) = 1
calls_by (Failed call) = 1
calls_by (Wrote path bytes mark) = 1
calls_by (Removed path) = 1
calls_by Synced = 1

-- how many calls there were
abbrev pub calls_in : List Logged → ℕ
calls_in [] = 0
calls_in (x ∷ log) = calls_by x + calls_in log

-- how many calls that failed one thing is
abbrev pub failed_by : Logged → ℕ
failed_by (Put path bytes mark) = 0
failed_by (FailsAt numbers) = 0
failed_by (Asked call) = 0
failed_by (Failed call) = 1
failed_by (Wrote path bytes mark) = 0
failed_by (Removed path) = 0
failed_by Synced = 0

-- how many calls failed
abbrev pub failed_in : List Logged → ℕ
failed_in [] = 0
failed_in (x ∷ log) = failed_by x + failed_in log

-- the numbers of the calls that are to fail after one thing more
abbrev pub listed_by : List ℕ → Logged → List ℕ
listed_by failing (Put path bytes mark) = failing
listed_by failing (FailsAt numbers) = numbers.items
listed_by failing (Asked call) = failing
listed_by failing (Failed call) = failing
listed_by failing (Wrote path bytes mark) = failing
listed_by failing (Removed path) = failing
listed_by failing Synced = failing

-- the same after several
abbrev pub listed_in : List ℕ → List Logged → List ℕ
listed_in failing [] = failing
listed_in failing (x ∷ log) = listed_in (listed_by failing x) log

-- a call after n others failed just where its number n + 1 is listed
abbrev pub fails_so : ℕ → List ℕ → Logged → Bool
fails_so n failing (Put path bytes mark) = true
fails_so n failing (FailsAt numbers) = true
fails_so n failing (Asked call) = not (is_listed (suc n) failing)
fails_so n failing (Failed call) = is_listed (suc n) failing
fails_so n failing (Wrote path bytes mark) = not (is_listed (suc n) failing)
fails_so n failing (Removed path) = not (is_listed (suc n) failing)
fails_so n failing Synced = not (is_listed (suc n) failing)

-- so did each of these, of which the first came after n others
abbrev pub all_fail_so : ℕ → List ℕ → List Logged → Bool
all_fail_so n failing [] = true
all_fail_so n failing (x ∷ log) = fails_so n failing x && all_fail_so (n + calls_by x) (listed_by failing x) log
