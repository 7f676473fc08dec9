-- A task that the types of a pipeline find is of one of its functions.
use Rattle.std.proofs.Common.{◌≡◌, ℕ, suc, ◌+◌, Bool, true, false, cond, List, [], ◌∷◌, Some, None, sym, refl, arith}
use Rattle.std.specs.Prelude.{Contains}
use Rattle.std.specs.Str.{bytes_eq}
use Rattle.std.proofs.lemmas.Slice.Eq.{bytes_eq-Decides}
use Rattle.pie_value.specs.declared.task.Task.{Task}
use Rattle.pie_parser.specs.FunctionTrees.{FunctionTree}
use Rattle.pie_types.specs.Headings.{signature_of}
use Rattle.pie_types.specs.Whole.{number_from, takes}
use Rattle.pie_digest.specs.Digests.{function_names}

pub found_known : (n : ℕ) (fs : List FunctionTree) (t : Task) (k : ℕ) → number_from n fs t ≡ Some k → Contains (function_names fs) t.func
found_known n [] t k e = absurd (cc)
found_known n (f ∷ fs) t k e = by (bytes_eq t.func f.name.text) refl e (λ h. found_known (n + 1) fs t k h)
  where
    by : (b : Bool) → bytes_eq t.func f.name.text ≡ b → cond b (cond (takes (signature_of f) t) (Some n) None) (number_from (n + 1) fs t) ≡ Some k
        → (number_from (n + 1) fs t ≡ Some k → Contains (function_names fs) t.func) → Contains (function_names (f ∷ fs)) t.func
    by true same h rest = (0, omega arith, sym ((bytes_eq-Decides t.func f.name.text).0 same))
    by false other h rest = let at = rest h in (suc at.0, omega (arith, at.1), at.2)
