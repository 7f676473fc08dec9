-- One thing more that happens to files in memory, among the writes and their marks.
use Rattle.std.proofs.Common.{◌≡◌, ◌+◌, ℕ, Bool, true, false, List, [], ◌∷◌, ◌++◌, refl, ap, ◌∙◌, arith}
use Rattle.std.specs.Prelude.{◌&&◌}
use Rattle.pie_files.specs.declared.sure_files.Logged.{Logged}
use Rattle.pie_files.specs.inner.Marks.{writes_by, writes_in, is_marked, are_marked}

-- one thing more among the writes
pub writes_more : (log : List Logged) (x : Logged) → writes_in (log ++ x ∷ []) ≡ writes_in log + writes_by x
writes_more [] x = omega arith
writes_more (y ∷ log) x = omega (arith, writes_more log x)

pub both_more : (a b c d : Bool) → b ≡ (c && d) → (a && b) ≡ ((a && c) && d)
both_more true b c d e = e
both_more false b c d e = refl

pub is_alone : (a : Bool) → (a && true) ≡ a
is_alone true = refl
is_alone false = refl

-- one thing more among the marks
pub marked_more : (n : ℕ) (log : List Logged) (x : Logged) → are_marked n (log ++ x ∷ []) ≡ (are_marked n log && is_marked (n + writes_in log) x)
marked_more n [] x = is_alone (is_marked n x) ∙ ap (λ k. is_marked k x) (omega arith)
marked_more n (y ∷ log) x =
    both_more (is_marked n y) (are_marked (n + writes_by y) (log ++ x ∷ [])) (are_marked (n + writes_by y) log) (is_marked (n + writes_in (y ∷ log)) x)
    (marked_more (n + writes_by y) log x ∙ ap (λ k. are_marked (n + writes_by y) log && is_marked k x) (omega arith))
