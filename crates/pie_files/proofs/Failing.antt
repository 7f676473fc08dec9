-- One thing more that happens to files in memory, among the calls and those that fail.
use Rattle.std.proofs.Common.{◌≡◌, ◌+◌, ℕ, List, [], ◌∷◌, ◌++◌, refl, ap, ◌∙◌, arith}
use Rattle.std.specs.Prelude.{◌&&◌}
use Rattle.pie_files.specs.declared.sure_files.Logged.{Logged}
use Rattle.pie_files.specs.inner.Failures.{calls_by, calls_in, failed_by, failed_in, listed_by, listed_in, fails_so, all_fail_so}
use Rattle.pie_files.proofs.Marked.{both_more, is_alone}

-- one thing more among the calls
pub calls_more : (log : List Logged) (x : Logged) → calls_in (log ++ x ∷ []) ≡ calls_in log + calls_by x
calls_more [] x = omega arith
calls_more (y ∷ log) x = omega (arith, calls_more log x)

-- one thing more among those that failed
pub failed_more : (log : List Logged) (x : Logged) → failed_in (log ++ x ∷ []) ≡ failed_in log + failed_by x
failed_more [] x = omega arith
failed_more (y ∷ log) x = omega (arith, failed_more log x)

-- which calls are to fail after one thing more
pub listed_more : (failing : List ℕ) (log : List Logged) (x : Logged) → listed_in failing (log ++ x ∷ []) ≡ listed_by (listed_in failing log) x
listed_more failing [] x = refl
listed_more failing (y ∷ log) x = listed_more (listed_by failing y) log x

-- one thing more that fails as it was told
pub fails_more : (n : ℕ) (failing : List ℕ) (log : List Logged) (x : Logged)
    → all_fail_so n failing (log ++ x ∷ []) ≡ (all_fail_so n failing log && fails_so (n + calls_in log) (listed_in failing log) x)
fails_more n failing [] x = is_alone (fails_so n failing x) ∙ ap (λ k. fails_so k failing x) (omega arith)
fails_more n failing (y ∷ log) x =
    both_more (fails_so n failing y) (all_fail_so (n + calls_by y) (listed_by failing y) (log ++ x ∷ []))
    (all_fail_so (n + calls_by y) (listed_by failing y) log) (fails_so (n + calls_in (y ∷ log)) (listed_in failing (y ∷ log)) x)
    (fails_more (n + calls_by y) (listed_by failing y) log x
    ∙ ap (λ k. all_fail_so (n + calls_by y) (listed_by failing y) log && fails_so k (listed_in (listed_by failing y) log) x) (omega arith))
